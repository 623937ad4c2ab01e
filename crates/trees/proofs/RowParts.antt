-- What the operations on rows leave as it was: how long a row is, which references it has, and that its words are small. Assumes nothing.
use Rattle.std.proofs.Common.{◌≡◌, ℕ, zero, suc, ◌+◌, ◌*◌, ◌-◌, ◌^◌, ◌<◌, ◌≤◌, min, Bool, true, not, eqb, ltb, leb, ◌⊎◌, List, [], ◌∷◌, ◌++◌, length, get_or, take, drop, Some, None, sym, refl, ap, ◌∙◌, subst, inl, inr, ⊎_elim, arith, length-append, length-drop}
use Rattle.std.proofs.lemmas.Bool.{false≢true, and_parts, and_from, eqb-true, eq-eqb, leb-true}
use Rattle.std.proofs.lemmas.List.{length-take-le}
use Rattle.pages.specs.Lists.{or, every, each, flat, has, first_or, none_of, zeros}
use Rattle.pages.specs.Object.{heading, references_of, data_of}
use Rattle.pages.specs.Words.{small}
use Rattle.pages.proofs.ListLaws.{In, pick_both, pick_true, or_cases, or_left, or_right, every_in, every_from, every_each, has_in, in_has, in_each, each_alike}
use Rattle.pages.proofs.WordLaws.{small_append, small_take, small_drop, small_zeros, small_from, small_get_or}
use Rattle.trees.specs.Tree.{File, Tree, found, put, without}
use Rattle.trees.specs.Row.{good_path, key_of, cut, in_words, laid, held, room, entries_of, reference_of, references, rewritten, putting, room_for, weight_put, put_key, has_key, take_key, find_in, reference_in}
use Rattle.trees.specs.RowOf.{file_of, RowOf}
use Rattle.trees.specs.Packed.{needed, packed, packed_all, squeezed, squeeze_into, stride, unpacked, unpacked_all, files_in, entries_in, weight_in, spread_fits, spread_into}
use Rattle.trees.specs.StoredPromises.{TreeObject}
use Rattle.trees.proofs.TreeLaws.{put_every, without_every, found_every, length_without}
use Rattle.trees.proofs.RowLaws.{length_cut}
use Rattle.trees.proofs.PutLaws.{put_some}
use Rattle.trees.proofs.RowOfLaws.{whole, row_whole, length_rewritten, entries_rewritten}
use Rattle.trees.proofs.StoredLaws.{each_each, length_squeezed}
use Rattle.trees.proofs.SpreadLaws.{length_unpacked_all}
use Rattle.trees.proofs.ObjectLaws.{whole_all, references_all, stored_objects}

-- WHAT IS SPREAD
module _ (xs into : List ℕ) (f : spread_fits xs into ≡ true) where
  long : 2 ≤ length into
  long = leb-true 2 (length into) (and_parts (leb 2 (length into)) (leb (files_in xs) (room into)) f).0

  roomy : length (entries_in xs) ≤ room into
  roomy =
      omega (
        arith,
        leb-true (files_in xs) (room into) (and_parts (leb 2 (length into)) (leb (files_in xs) (room into)) f).1,
        length_unpacked_all (files_in xs) (references_of xs) (drop 1 (data_of xs)),
      )

  spread_length : length (rewritten (weight_in xs) (entries_in xs) into) ≡ length into
  spread_length = length_rewritten (weight_in xs) (entries_in xs) into long roomy (whole_all (files_in xs) (references_of xs) (drop 1 (data_of xs)))

  spread_entries : entries_of (rewritten (weight_in xs) (entries_in xs) into) ≡ entries_in xs
  spread_entries = entries_rewritten (weight_in xs) (entries_in xs) into long roomy (whole_all (files_in xs) (references_of xs) (drop 1 (data_of xs)))

pub length_spread_into : (xs ws : List ℕ) → length (spread_into xs ws) ≡ length ws
unfolding spread_into
length_spread_into xs ws =
    pick_both (λ u. length u ≡ length ws) (spread_fits xs ws) (rewritten (weight_in xs) (entries_in xs) ws) ws (λ f. spread_length xs ws f) (λ _. refl)

pub spread_references : (xs into : List ℕ) → 2 + files_in xs ≤ length xs → spread_fits xs into ≡ true → references (spread_into xs into) ≡ references_of xs
unfolding spread_into
spread_references xs into l f =
    ap references (pick_true (spread_fits xs into) (rewritten (weight_in xs) (entries_in xs) into) into f) ∙ ap (each reference_of) (spread_entries xs into f)
    ∙ ap (λ k. each reference_of (unpacked_all k (references_of xs) (drop 1 (data_of xs)))) (sym count) ∙ references_all (references_of xs) (drop 1 (data_of xs))
  where
    count : length (references_of xs) ≡ files_in xs
    count = length-take-le (files_in xs) (drop 2 xs) (omega (arith, length-drop 2 xs))

-- WHAT IS PUT AND TAKEN OUT
module _ (k ws : List ℕ) (r : ℕ) (nine : length k ≡ 9) (f : room_for k r ws ≡ true) where
  pub put_fits : length (putting k r ws) ≤ room ws
  put_fits = leb-true (length (putting k r ws)) (room ws) f

  pub put_long : 2 ≤ length ws
  put_long = omega (arith, put_fits, put_some k (r ∷ []) (entries_of ws))

  pub put_whole : every whole (putting k r ws) ≡ true
  unfolding put
  put_whole = put_every whole k (r ∷ []) (entries_of ws) (and_from (eqb (length k) 9) true (eq-eqb (length k) 9 nine) refl) (row_whole ws)

module _ (k ws : List ℕ) (f : has_key k ws ≡ true) where
  held_some : 1 ≤ length (entries_of ws)
  unfolding found
  held_some = go (entries_of ws) f
    where
      go : (es : Tree) → not (none_of (found es k)) ≡ true → 1 ≤ length es
      go [] e = absurd (false≢true e)
      go (e ∷ es) h = omega arith

  take_fits : length (without k (entries_of ws)) ≤ room ws
  take_fits = omega (arith, length_without k (entries_of ws), length_cut (held ws) (drop 2 ws))

  take_long : 2 ≤ length ws
  take_long = omega (arith, held_some, length_cut (held ws) (drop 2 ws))

  take_whole : every whole (without k (entries_of ws)) ≡ true
  take_whole = without_every whole k (entries_of ws) (row_whole ws)

pub length_put_key : (k ws : List ℕ) (size r : ℕ) → length k ≡ 9 → length (put_key k size r ws) ≡ length ws
unfolding put_key
length_put_key k ws size r nine =
    pick_both (λ u. length u ≡ length ws) (room_for k r ws) (rewritten (weight_put k size r ws) (putting k r ws) ws) ws
    (λ f. length_rewritten (weight_put k size r ws) (putting k r ws) ws (put_long k ws r nine f) (put_fits k ws r nine f) (put_whole k ws r nine f)) (λ _. refl)

pub length_take_key : (k ws : List ℕ) (size : ℕ) → length (take_key k size ws) ≡ length ws
unfolding take_key
length_take_key k ws size =
    pick_both (λ u. length u ≡ length ws) (has_key k ws) (rewritten (get_or ws 1 0 - size) (without k (entries_of ws)) ws) ws
    (λ f. length_rewritten (get_or ws 1 0 - size) (without k (entries_of ws)) ws (take_long k ws f) (take_fits k ws f) (take_whole k ws f)) (λ _. refl)

pub length_squeeze_into : (ws out : List ℕ) → length (squeeze_into ws out) ≡ length out
unfolding squeeze_into
length_squeeze_into ws out =
    pick_both (λ u. length u ≡ length out) (leb (length (squeezed ws)) (length out)) (squeezed ws ++ drop (length (squeezed ws)) out) out
    (λ f. omega (arith, leb-true (length (squeezed ws)) (length out) f, length-append (squeezed ws) (drop (length (squeezed ws)) out), length-drop (length (squeezed ws)) out))
    (λ _. refl)

-- REFERENCES

-- what stands for the references of a row is all that its tree depends on
pub row_stands : (f g : ℕ → List ℕ) (ws : List ℕ) (t : Tree) → ((r : ℕ) → has (references ws) r ≡ true → f r ≡ g r) → RowOf f ws t → RowOf g ws t
row_stands f g ws t h row =
    record {
      long = row.long;
      counted = row.counted;
      keys = row.keys;
      rising = row.rising;
      weighed = row.weighed;
      is = each_alike (file_of g) (file_of f) (entries_of ws) one ∙ row.is;
    }
  where
    one : (e : File) → In e (entries_of ws) → file_of g e ≡ file_of f e
    one e i = λ j. record { path = (file_of g e).path; bytes = sym (h (reference_of e) (in_has (references ws) (reference_of e) (in_each reference_of (entries_of ws) e i))) j }

pub row_files : (stands : ℕ → List ℕ) (ws : List ℕ) (t : Tree) → RowOf stands ws t → each stands (references ws) ≡ each (λ f. f.bytes) t
row_files stands ws t row =
    each_each stands reference_of (entries_of ws) ∙ sym (each_each (λ f. f.bytes) (file_of stands) (entries_of ws)) ∙ ap (each (λ f. f.bytes)) row.is

-- a reference of entries that all pass a test passes it
passes : (p : ℕ → Bool) (es : Tree) (q : ℕ) → every (λ f. p (reference_of f)) es ≡ true → has (each reference_of es) q ≡ true → p q ≡ true
passes p es q h i = every_in p (each reference_of es) (every_each p reference_of es h) q (has_in (each reference_of es) q i)

-- and those of a row are its own
own : (ws : List ℕ) → every (λ f. has (references ws) (reference_of f)) (entries_of ws) ≡ true
own ws = every_from (λ f. has (references ws) (reference_of f)) (entries_of ws) (λ f i. in_has (references ws) (reference_of f) (in_each reference_of (entries_of ws) f i))

pub put_references : (k ws : List ℕ) (size r q : ℕ) → length k ≡ 9 → has (references (put_key k size r ws)) q ≡ true → (q ≡ r) ⊎ (has (references ws) q ≡ true)
unfolding put_key
put_references k ws size r q nine =
    pick_both (λ u. has (references u) q ≡ true → (q ≡ r) ⊎ (has (references ws) q ≡ true)) (room_for k r ws) (rewritten (weight_put k size r ws) (putting k r ws) ws) ws
    (λ f i. go (passes p (putting k r ws) q
    (put_every (λ f. p (reference_of f)) k (r ∷ []) (entries_of ws) (or_left (eqb r r) (has (references ws) r) (eq-eqb r r refl))
    (every_from (λ f. p (reference_of f)) (entries_of ws)
    (λ f j. or_right (eqb r (reference_of f)) (has (references ws) (reference_of f)) (every_in (λ f. has (references ws) (reference_of f)) (entries_of ws) (own ws) f j))))
    (ap (λ es. has (each reference_of es) q) (sym (entries_rewritten (weight_put k size r ws) (putting k r ws) ws (put_long k ws r nine f) (put_fits k ws r nine f) (put_whole k ws r nine f))) ∙ i)))
    (λ _ i. inr i)
  where
    p : ℕ → Bool
    p j = or (eqb r j) (has (references ws) j)

    go : p q ≡ true → (q ≡ r) ⊎ (has (references ws) q ≡ true)
    go e = ⊎_elim (λ a. inl (sym (eqb-true r q a))) (λ a. inr a) (or_cases (eqb r q) (has (references ws) q) e)

pub take_references : (k ws : List ℕ) (size q : ℕ) → has (references (take_key k size ws)) q ≡ true → has (references ws) q ≡ true
unfolding take_key
take_references k ws size q =
    pick_both (λ u. has (references u) q ≡ true → has (references ws) q ≡ true) (has_key k ws) (rewritten (get_or ws 1 0 - size) (without k (entries_of ws)) ws) ws
    (λ f i. passes (has (references ws)) (without k (entries_of ws)) q (without_every (λ f. has (references ws) (reference_of f)) k (entries_of ws) (own ws))
    (ap (λ es. has (each reference_of es) q) (sym (entries_rewritten (get_or ws 1 0 - size) (without k (entries_of ws)) ws (take_long k ws f) (take_fits k ws f) (take_whole k ws f))) ∙ i))
    (λ _ i. i)

-- what is found at a key is a reference of the row
pub found_references : (k ws : List ℕ) (r : ℕ) → reference_in (found (entries_of ws) k) ≡ Some r → has (references ws) r ≡ true
found_references k ws r e =
    go (found (entries_of ws) k) (found_every (λ f. has (references ws) (reference_of f)) (entries_of ws) k (own ws)) e
  where
    go : (bs : List (List ℕ)) → every (λ b. has (references ws) (first_or 0 b)) bs ≡ true → reference_in bs ≡ Some r → has (references ws) r ≡ true
    go [] h e = let z : ◌≡◌ {A = ℕ} 0 1 = cc in absurd (omega arith)
    go (b ∷ bs) h e =
        let q : first_or 0 b ≡ r = cc in
        subst (λ n. has (references ws) n ≡ true) q (and_parts (has (references ws) (first_or 0 b)) (every (λ b. has (references ws) (first_or 0 b)) bs) h).0

pub find_references : (p ws : List ℕ) (r : ℕ) → find_in p ws ≡ Some r → has (references ws) r ≡ true
unfolding find_in
find_references p ws r =
    pick_both (λ o. o ≡ Some r → has (references ws) r ≡ true) (good_path p) (reference_in (found (entries_of ws) (key_of p))) None
    (λ _ e. found_references (key_of p) ws r e) (λ _ e. let z : ◌≡◌ {A = ℕ} 0 1 = cc in absurd (omega arith))

-- SMALL WORDS
small_cut : (n : ℕ) (ws : List ℕ) → small ws ≡ true → every (λ f. small (in_words f)) (cut n ws) ≡ true
unfolding cut small
small_cut zero ws h = refl
small_cut (suc n) ws h =
    and_from (small (take 9 ws ++ get_or ws 9 0 ∷ [])) (every (λ f. small (in_words f)) (cut n (drop 10 ws)))
    (small_append (take 9 ws) (get_or ws 9 0 ∷ []) (small_take 9 ws h) (small_from (get_or ws 9 0) [] (small_get_or ws 9 h) refl)) (small_cut n (drop 10 ws) (small_drop 10 ws h))

small_flat : {A : Type 0} (g : A → List ℕ) (xs : List A) → every (λ x. small (g x)) xs ≡ true → small (flat g xs) ≡ true
unfolding small
small_flat g [] h = refl
small_flat g (x ∷ xs) h =
    let a = and_parts (small (g x)) (every (λ x. small (g x)) xs) h in small_append (g x) (flat g xs) a.0 (small_flat g xs a.1)

small_entries : (ws : List ℕ) → small ws ≡ true → every (λ f. small (in_words f)) (entries_of ws) ≡ true
small_entries ws h = small_cut (held ws) (drop 2 ws) (small_drop 2 ws h)

small_rewritten : (w : ℕ) (es : Tree) (ws : List ℕ) → w < 2 ^ 64 → length es ≤ room ws → every (λ f. small (in_words f)) es ≡ true → small ws ≡ true →
    small (rewritten w es ws) ≡ true
unfolding rewritten
small_rewritten w es ws lw le he h =
    small_from (length es) (w ∷ laid es (drop 2 ws)) (omega arith)
    (small_from w (laid es (drop 2 ws)) lw
    (small_append (flat in_words es) (drop (10 * length es) (drop 2 ws)) (small_flat in_words es he) (small_drop (10 * length es) (drop 2 ws) (small_drop 2 ws h))))

pub small_put_key : (k ws : List ℕ) (size r : ℕ) → length k ≡ 9 → small k ≡ true → small ws ≡ true → r < 2 ^ 64 → small (put_key k size r ws) ≡ true
unfolding put_key small
small_put_key k ws size r nine hk h lr =
    pick_both (λ u. small u ≡ true) (room_for k r ws) (rewritten (weight_put k size r ws) (putting k r ws) ws) ws
    (λ f. small_rewritten (weight_put k size r ws) (putting k r ws) ws weight (put_fits k ws r nine f)
    (put_every (λ f. small (in_words f)) k (r ∷ []) (entries_of ws) (small_append k (r ∷ []) hk (small_from r [] lr refl)) (small_entries ws h)) h) (λ _. h)
  where
    weight : weight_put k size r ws < 2 ^ 64
    weight =
        pick_both (λ w. w < 2 ^ 64) (ltb (held ws) (length (putting k r ws))) (min (get_or ws 1 0 + size) 18446744073709551615) (get_or ws 1 0)
        (λ _. omega arith) (λ _. small_get_or ws 1 h)

pub small_take_key : (k ws : List ℕ) (size : ℕ) → small ws ≡ true → small (take_key k size ws) ≡ true
unfolding take_key
small_take_key k ws size h =
    pick_both (λ u. small u ≡ true) (has_key k ws) (rewritten (get_or ws 1 0 - size) (without k (entries_of ws)) ws) ws
    (λ f. small_rewritten (get_or ws 1 0 - size) (without k (entries_of ws)) ws (omega (arith, small_get_or ws 1 h)) (take_fits k ws f)
    (without_every (λ f. small (in_words f)) k (entries_of ws) (small_entries ws h)) h) (λ _. h)

small_unpacked : (n : ℕ) (rs xs : List ℕ) → small rs ≡ true → small xs ≡ true → every (λ f. small (in_words f)) (unpacked_all n rs xs) ≡ true
unfolding unpacked_all unpacked small
small_unpacked zero rs xs hr h = refl
small_unpacked (suc n) rs xs hr h =
    let path : List ℕ = take (needed (get_or xs 0 0)) (drop 1 xs) in
    and_from (small (in_words (unpacked (get_or rs 0 0) xs))) (every (λ f. small (in_words f)) (unpacked_all n (drop 1 rs) (drop (stride xs) xs)))
    (small_append (take 8 (path ++ zeros 8) ++ get_or xs 0 0 ∷ []) (get_or rs 0 0 ∷ [])
    (small_append (take 8 (path ++ zeros 8)) (get_or xs 0 0 ∷ [])
    (small_take 8 (path ++ zeros 8) (small_append path (zeros 8) (small_take (needed (get_or xs 0 0)) (drop 1 xs) (small_drop 1 xs h)) (small_zeros 8)))
    (small_from (get_or xs 0 0) [] (small_get_or xs 0 h) refl))
    (small_from (get_or rs 0 0) [] (small_get_or rs 0 hr) refl))
    (small_unpacked n (drop 1 rs) (drop (stride xs) xs) (small_drop 1 rs hr) (small_drop (stride xs) xs h))

pub small_spread_into : (xs ws : List ℕ) → small xs ≡ true → small ws ≡ true → small (spread_into xs ws) ≡ true
unfolding spread_into
small_spread_into xs ws hx h =
    pick_both (λ u. small u ≡ true) (spread_fits xs ws) (rewritten (weight_in xs) (entries_in xs) ws) ws
    (λ f. small_rewritten (weight_in xs) (entries_in xs) ws (small_get_or (data_of xs) 0 hd) (roomy xs ws f)
    (small_unpacked (files_in xs) (references_of xs) (drop 1 (data_of xs)) (small_take (files_in xs) (drop 2 xs) (small_drop 2 xs hx)) (small_drop 1 (data_of xs) hd)) h) (λ _. h)
  where
    hd : small (data_of xs) ≡ true
    hd = small_drop (2 + files_in xs) xs hx

small_packed : (e : List ℕ) → small e ≡ true → small (packed e) ≡ true
unfolding packed
small_packed e h = small_from (get_or e 8 0) (take (needed (get_or e 8 0)) e) (small_get_or e 8 h) (small_take (needed (get_or e 8 0)) e h)

small_packed_all : (es : Tree) → every (λ f. small (in_words f)) es ≡ true → small (packed_all es) ≡ true
small_packed_all es h =
    small_flat (λ f. packed (in_words f)) es
    (every_from (λ f. small (packed (in_words f))) es (λ f i. small_packed (in_words f) (every_in (λ f. small (in_words f)) es h f i)))

small_references : (n : ℕ) (ws : List ℕ) → small ws ≡ true → small (each reference_of (cut n ws)) ≡ true
unfolding cut small
small_references zero ws h = refl
small_references (suc n) ws h = small_from (get_or ws 9 0) (each reference_of (cut n (drop 10 ws))) (small_get_or ws 9 h) (small_references n (drop 10 ws) (small_drop 10 ws h))

pub small_squeezed : (ws : List ℕ) → small ws ≡ true → small (squeezed ws) ≡ true
unfolding squeezed
small_squeezed ws h =
    small_from (heading 2 (held ws) (3 + held ws + length (packed_all (entries_of ws)))) (0 ∷ (references ws ++ (get_or ws 1 0 ∷ packed_all (entries_of ws))))
    (omega (arith, tree.most, length_squeezed ws))
    (small_from 0 (references ws ++ (get_or ws 1 0 ∷ packed_all (entries_of ws))) (omega arith)
    (small_append (references ws) (get_or ws 1 0 ∷ packed_all (entries_of ws)) (small_references (held ws) (drop 2 ws) (small_drop 2 ws h))
    (small_from (get_or ws 1 0) (packed_all (entries_of ws)) (small_get_or ws 1 h) (small_packed_all (entries_of ws) (small_entries ws h)))))
  where
    tree : TreeObject ws
    tree = stored_objects ws

pub small_squeeze_into : (ws out : List ℕ) → small ws ≡ true → small out ≡ true → small (squeeze_into ws out) ≡ true
unfolding squeeze_into
small_squeeze_into ws out h ho =
    pick_both (λ u. small u ≡ true) (leb (length (squeezed ws)) (length out)) (squeezed ws ++ drop (length (squeezed ws)) out) out
    (λ _. small_append (squeezed ws) (drop (length (squeezed ws)) out) (small_squeezed ws h) (small_drop (length (squeezed ws)) out ho)) (λ _. ho)
