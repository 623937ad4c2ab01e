-- Rows and their trees: what is done to a well-formed row is what the plain tree's operations do, and the row stays well formed.
use Rattle.std.proofs.Common.{◌≡◌, ℕ, zero, suc, ◌+◌, ◌-◌, ◌*◌, ◌≤◌, min, Bool, true, false, not, ◌&&◌, eqb, ltb, leb, ◌⊎◌, List, [], ◌∷◌, ◌++◌, length, get_or, take, drop, None, Ok, Err, sym, refl, ap, ◌∙◌, subst, ap₂, inl, inr, ⊎_elim, append_assoc, arith, length-append, length-drop}
use Rattle.std.proofs.lemmas.Bool.{true≢false, false≢true, and_parts, and_from, eqb-true, eq-eqb, leb-true, lt-ltb, le-ltb}
use Rattle.std.proofs.lemmas.List.{take_at, drop_at, get_or_at, length-take-le}
use Rattle.std.proofs.lemmas.Bool.Decides.{same_from_decides}
use Rattle.pages.specs.Lists.{pick, every, each, flat, same, earlier, first_or, has, none_of, added_up}
use Rattle.pages.specs.Bytes.{all_bytes}
use Rattle.pages.proofs.ListLaws.{In, pick_both, pick_true, pick_false, same_true, same_from, same_sym, length_each, or_right, in_has, every_in, each_in, in_each}
use Rattle.trees.specs.Tree.{File, Tree, found, put, without, same_tree, rising_paths}
use Rattle.trees.specs.Row.{entry, good_path, key_of, path_of, cut, in_words, laid, held, room, entries_of, rewritten, putting, room_for, weight_put, put_key, put_in, has_key, take_key, take_from, taken_from, put_answer, find_in, reference_in}
use Rattle.trees.specs.declared.rows.Refused.TheVariants.{Path, Full}
use Rattle.trees.specs.RowPromises.{KeysOrdered, EmptyRight, FindsRight, PutsRight, TakesRight, SameRight, listed}
use Rattle.trees.specs.RowOf.{proper, good_key, file_of, weight_of, RowOf}
use Rattle.trees.proofs.TreeLaws.{put_every, without_every, put_rising, without_rising, found_one, length_without, same_tree_tells, rising_first, rising_from, rising_rest}
use Rattle.trees.proofs.RowLaws.{length_cut}
use Rattle.trees.proofs.PackLaws.{key_same, key_earlier, length_key, path_back}

-- GOOD KEYS

pub good_parts : (k : List ℕ) → good_key k ≡ true → (proper (path_of k) ≡ true) × (k ≡ key_of (path_of k))
good_parts k h =
    let a = and_parts (proper (path_of k)) (same (key_of (path_of k)) k) h in (a.0, sym (same_true (key_of (path_of k)) k a.1))

pub key_good : (p : List ℕ) → proper p ≡ true → good_key (key_of p) ≡ true
key_good p h =
    let e = path_back p h in
    and_from (proper (path_of (key_of p))) (same (key_of (path_of (key_of p))) (key_of p)) (ap proper e ∙ h) (same_from _ _ (ap key_of e))

same_key : (p k : List ℕ) → proper p ≡ true → good_key k ≡ true → same (key_of p) k ≡ same p (path_of k)
same_key p k h g = let a = good_parts k g in ap (same (key_of p)) a.1 ∙ key_same p (path_of k) h a.0

earlier_key : (p k : List ℕ) → proper p ≡ true → good_key k ≡ true → earlier (key_of p) k ≡ earlier p (path_of k)
earlier_key p k h g = let a = good_parts k g in ap (earlier (key_of p)) a.1 ∙ key_earlier p (path_of k) h a.0

-- THE TREE'S OPERATIONS ON ENTRIES

module _ (stands : ℕ → List ℕ) (p : List ℕ) (h : proper p ≡ true) where
  pub each_found : (es : Tree) → every (λ f. good_key f.path) es ≡ true → found (each (file_of stands) es) p ≡ each (λ b. stands (first_or 0 b)) (found es (key_of p))
  unfolding found
  each_found [] g = refl
  each_found (f ∷ fs) g =
      let a = and_parts (good_key f.path) (every (λ f. good_key f.path) fs) g in
      let s : same (path_of f.path) p ≡ same f.path (key_of p) = same_sym (path_of f.path) p ∙ sym (same_key p f.path h a.0) ∙ same_sym (key_of p) f.path in
      ap (λ b. pick b (stands (first_or 0 f.bytes) ∷ []) (found (each (file_of stands) fs) p)) s ∙ go (same f.path (key_of p)) (each_found fs a.1)
    where
      go : (b : Bool) → found (each (file_of stands) fs) p ≡ each (λ b. stands (first_or 0 b)) (found fs (key_of p)) →
          pick b (stands (first_or 0 f.bytes) ∷ []) (found (each (file_of stands) fs) p) ≡ each (λ b. stands (first_or 0 b)) (pick b (f.bytes ∷ []) (found fs (key_of p)))
      go true e = refl
      go false e = e

  pub each_put : (r : ℕ) (es : Tree) → every (λ f. good_key f.path) es ≡ true → each (file_of stands) (put (key_of p) (r ∷ []) es) ≡ put p (stands r) (each (file_of stands) es)
  unfolding put
  each_put r [] g = λ i. record { path = path_back p h i; bytes = stands r } ∷ []
  each_put r (f ∷ fs) g =
      let a = and_parts (good_key f.path) (every (λ f. good_key f.path) fs) g in
      go (same (key_of p) f.path) (earlier (key_of p) f.path) (each_put r fs a.1)
      ∙ ap₂ (λ s e. pick s (record { path = p; bytes = stands r } ∷ each (file_of stands) fs)
      (pick e (record { path = p; bytes = stands r } ∷ file_of stands f ∷ each (file_of stands) fs) (file_of stands f ∷ put p (stands r) (each (file_of stands) fs))))
      (same_key p f.path h a.0) (earlier_key p f.path h a.0)
    where
      go : (s e : Bool) → each (file_of stands) (put (key_of p) (r ∷ []) fs) ≡ put p (stands r) (each (file_of stands) fs) →
          each (file_of stands) (pick s (entry (key_of p) r ∷ fs) (pick e (entry (key_of p) r ∷ f ∷ fs) (f ∷ put (key_of p) (r ∷ []) fs)))
          ≡ pick s (record { path = p; bytes = stands r } ∷ each (file_of stands) fs)
          (pick e (record { path = p; bytes = stands r } ∷ file_of stands f ∷ each (file_of stands) fs) (file_of stands f ∷ put p (stands r) (each (file_of stands) fs)))
      go true e ih = λ i. record { path = path_back p h i; bytes = stands r } ∷ each (file_of stands) fs
      go false true ih = λ i. record { path = path_back p h i; bytes = stands r } ∷ file_of stands f ∷ each (file_of stands) fs
      go false false ih = ap (λ xs. file_of stands f ∷ xs) ih

  pub each_without : (es : Tree) → every (λ f. good_key f.path) es ≡ true → each (file_of stands) (without (key_of p) es) ≡ without p (each (file_of stands) es)
  unfolding without
  each_without [] g = refl
  each_without (f ∷ fs) g =
      let a = and_parts (good_key f.path) (every (λ f. good_key f.path) fs) g in
      go (same (key_of p) f.path) (each_without fs a.1)
      ∙ ap (λ s. pick s (each (file_of stands) fs) (file_of stands f ∷ without p (each (file_of stands) fs))) (same_key p f.path h a.0)
    where
      go : (s : Bool) → each (file_of stands) (without (key_of p) fs) ≡ without p (each (file_of stands) fs) →
          each (file_of stands) (pick s fs (f ∷ without (key_of p) fs)) ≡ pick s (each (file_of stands) fs) (file_of stands f ∷ without p (each (file_of stands) fs))
      go true ih = refl
      go false ih = ap (λ xs. file_of stands f ∷ xs) ih

-- WEIGHTS

-- a file is put over one with its path, or it is one more
pub weight_put_cases : (p b : List ℕ) (t : Tree) →
    ((length (put p b t) ≡ length t) × (weight_of (put p b t) ≡ weight_of t))
    ⊎ ((length (put p b t) ≡ suc (length t)) × (weight_of (put p b t) ≡ weight_of t + (64 + length p)))
unfolding put weight_of added_up
weight_put_cases p b [] = inr (refl, omega arith)
weight_put_cases p b (f ∷ fs) =
    pick_both Goal (same p f.path) _ _ (λ e. inl (refl, ap (λ q. 64 + length q + weight_of fs) (same_true p f.path e)))
    (λ _. pick_both Goal (earlier p f.path) _ _ (λ _. inr (refl, omega arith)) (λ _. go (weight_put_cases p b fs)))
  where
    Goal : Tree → Type 0
    Goal u = ((length u ≡ suc (length fs)) × (weight_of u ≡ 64 + length f.path + weight_of fs)) ⊎ ((length u ≡ suc (suc (length fs))) × (weight_of u ≡ 64 + length f.path + weight_of fs + (64 + length p)))

    go : ((length (put p b fs) ≡ length fs) × (weight_of (put p b fs) ≡ weight_of fs))
        ⊎ ((length (put p b fs) ≡ suc (length fs)) × (weight_of (put p b fs) ≡ weight_of fs + (64 + length p))) → Goal (f ∷ put p b fs)
    go (inl e) = inl (ap suc e.0, ap (λ n. 64 + length f.path + n) e.1)
    go (inr e) = inr (ap suc e.0, omega (arith, e.1))

pub weight_without : (p : List ℕ) (t : Tree) → none_of (found t p) ≡ false → weight_of (without p t) + (64 + length p) ≡ weight_of t
unfolding without found weight_of added_up
weight_without p [] n = absurd (true≢false n)
weight_without p (f ∷ fs) n = go (same p f.path) refl (weight_without p fs)
  where
    go : (s : Bool) → same p f.path ≡ s → (none_of (found fs p) ≡ false → weight_of (without p fs) + (64 + length p) ≡ weight_of fs) →
        weight_of (pick s fs (f ∷ without p fs)) + (64 + length p) ≡ 64 + length f.path + weight_of fs
    go true e ih = omega (arith, ap length (same_true p f.path e))
    go false e ih = omega (arith, ih (sym (ap none_of (pick_false (same f.path p) (f.bytes ∷ []) (found fs p) (same_sym f.path p ∙ e))) ∙ n))

pub weight_small : (t : Tree) → every (λ f. leb (length f.path) 64) t ≡ true → weight_of t ≤ 128 * length t
unfolding weight_of added_up
weight_small [] h = omega arith
weight_small (f ∷ fs) h =
    let a = and_parts (leb (length f.path) 64) (every (λ f. leb (length f.path) 64) fs) h in
    omega (arith, leb-true (length f.path) 64 a.0, weight_small fs a.1)

-- WHAT WAS WRITTEN IS READ BACK

abbrev pub whole : File → Bool
whole f = eqb (length f.path) 9 && eqb (length f.bytes) 1

cut_whole : (n : ℕ) (ws : List ℕ) → 10 * n ≤ length ws → every whole (cut n ws) ≡ true
unfolding cut
cut_whole zero ws h = refl
cut_whole (suc n) ws h =
    and_from (eqb (length (take 9 ws)) 9 && true) (every whole (cut n (drop 10 ws))) (and_from (eqb (length (take 9 ws)) 9) true (eq-eqb _ _ (length-take-le 9 ws (omega arith))) refl)
    (cut_whole n (drop 10 ws) (omega (arith, length-drop 10 ws)))

pub only_one : (bs : List ℕ) → length bs ≡ 1 → get_or bs 0 0 ∷ [] ≡ bs
only_one [] e = absurd (omega arith)
only_one (b ∷ []) e = refl
only_one (b ∷ c ∷ bs) e = absurd (omega arith)

pub length_words_of : (es : Tree) → every whole es ≡ true → length (flat in_words es) ≡ 10 * length es
length_words_of [] h = refl
length_words_of (f ∷ fs) h =
    let a = and_parts (whole f) (every whole fs) h in let b = and_parts (eqb (length f.path) 9) (eqb (length f.bytes) 1) a.0 in
    omega (arith, length-append (f.path ++ f.bytes) (flat in_words fs), length-append f.path f.bytes, eqb-true _ _ b.0, eqb-true _ _ b.1, length_words_of fs a.1)

cut_words : (es : Tree) (z : List ℕ) → every whole es ≡ true → cut (length es) (flat in_words es ++ z) ≡ es
unfolding cut
cut_words [] z h = refl
cut_words (f ∷ fs) z h =
    let a = and_parts (whole f) (every whole fs) h in
    let b = and_parts (eqb (length f.path) 9) (eqb (length f.bytes) 1) a.0 in
    let k : length f.path ≡ 9 = eqb-true _ _ b.0 in
    let r : get_or f.bytes 0 0 ∷ [] ≡ f.bytes = only_one f.bytes (eqb-true _ _ b.1) in
    let rest : List ℕ = flat in_words fs ++ z in
    let all : ((f.path ++ f.bytes) ++ flat in_words fs) ++ z ≡ f.path ++ (get_or f.bytes 0 0 ∷ rest) =
    append_assoc (f.path ++ f.bytes) (flat in_words fs) z ∙ append_assoc f.path f.bytes rest ∙ ap (λ u. f.path ++ (u ++ rest)) (sym r) in
    let ten : length (f.path ++ f.bytes) ≡ 10 = omega (arith, length-append f.path f.bytes, eqb-true _ _ b.1) in
    let back : drop 10 (((f.path ++ f.bytes) ++ flat in_words fs) ++ z) ≡ rest =
    ap (drop 10) (append_assoc (f.path ++ f.bytes) (flat in_words fs) z) ∙ drop_at (f.path ++ f.bytes) rest 10 ten in
    ap₂ (λ u v. entry (take 9 u) (get_or u 9 0) ∷ cut (length fs) v) all back
    ∙ ap₂ (λ u v. entry u v ∷ cut (length fs) rest) (take_at f.path (get_or f.bytes 0 0 ∷ rest) 9 k) (get_or_at f.path (get_or f.bytes 0 0) rest 0 9 k)
    ∙ ap₂ (λ u v. record { path = f.path; bytes = u } ∷ v) r (cut_words fs z a.1)

-- a row with other entries has them
module _ (w : ℕ) (es : Tree) (ws : List ℕ) (l : 2 ≤ length ws) (m : length es ≤ room ws) (o : every whole es ≡ true) where
  pub length_rewritten : length (rewritten w es ws) ≡ length ws
  unfolding rewritten
  length_rewritten = omega (arith, length-append (flat in_words es) (drop (10 * length es) (drop 2 ws)), length_words_of es o, length-drop (10 * length es) (drop 2 ws), length-drop 2 ws)

  pub held_rewritten : held (rewritten w es ws) ≡ length es
  unfolding rewritten
  held_rewritten = let e = length_rewritten in omega (arith, e)

  pub entries_rewritten : entries_of (rewritten w es ws) ≡ es
  unfolding rewritten
  entries_rewritten = ap (λ n. cut n (laid es (drop 2 ws))) held_rewritten ∙ cut_words es (drop (10 * length es) (drop 2 ws)) o

-- THE PROMISES

pub keys_ordered : KeysOrdered
unfolding KeysOrdered
keys_ordered p q h k = (key_earlier p q h k, key_same p q h k, path_back p h)

pub empty_right : EmptyRight
unfolding EmptyRight cut rising_paths weight_of added_up
empty_right stands ws l c w =
    let z : held ws ≡ 0 = omega arith in
    let none : entries_of ws ≡ [] = ap (λ n. cut n (drop 2 ws)) z in
    record {
      long = l;
      counted = c ∙ sym z;
      keys = ap (every (λ f. good_key f.path)) none;
      rising = ap rising_paths none;
      weighed = w;
      is = ap (each (file_of stands)) none;
    }

listed_found : (stands : ℕ → List ℕ) (bs : List (List ℕ)) → length bs ≤ 1 → each stands (listed (reference_in bs)) ≡ each (λ b. stands (first_or 0 b)) bs
listed_found stands [] h = refl
listed_found stands (b ∷ []) h = refl
listed_found stands (b ∷ c ∷ bs) h = absurd (omega arith)

found_few : (t : Tree) (p : List ℕ) → length (found t p) ≤ 1
found_few t p = ⊎_elim (λ e. omega (arith, ap length e)) (λ r. omega (arith, ap length r.1)) (found_one t p)

pub finds_right : FindsRight
unfolding FindsRight find_in
finds_right stands ws t p row h =
    let g : good_path p ≡ true = (and_parts (good_path p) (all_bytes p) h).0 in
    ap (λ o. each stands (listed o)) (pick_true (good_path p) (reference_in (found (entries_of ws) (key_of p))) None g)
    ∙ listed_found stands (found (entries_of ws) (key_of p)) (found_few (entries_of ws) (key_of p)) ∙ sym (each_found stands p h (entries_of ws) row.keys)
    ∙ ap (λ u. found u p) row.is

-- a row is as long as its tree, and its words are whole
pub row_length : (stands : ℕ → List ℕ) (ws : List ℕ) (t : Tree) → RowOf stands ws t → length t ≡ held ws
row_length stands ws t row = sym (ap length row.is) ∙ length_each (file_of stands) (entries_of ws) ∙ length_cut (held ws) (drop 2 ws)

pub row_whole : (ws : List ℕ) → every whole (entries_of ws) ≡ true
row_whole ws = cut_whole (held ws) (drop 2 ws) (omega (arith, length-drop 2 ws))

short_paths : (stands : ℕ → List ℕ) (es : Tree) → every (λ f. good_key f.path) es ≡ true → every (λ f. leb (length f.path) 64) (each (file_of stands) es) ≡ true
short_paths stands [] h = refl
short_paths stands (f ∷ fs) h =
    let a = and_parts (good_key f.path) (every (λ f. good_key f.path) fs) h in
    let b = (good_parts f.path a.0).0 in
    and_from _ _ (and_parts (leb 1 (length (path_of f.path))) _ (and_parts (good_path (path_of f.path)) _ b).0).1 (short_paths stands fs a.1)

row_light : (stands : ℕ → List ℕ) (ws : List ℕ) (t : Tree) → RowOf stands ws t → weight_of t ≤ 524288
row_light stands ws t row =
    let s : every (λ f. leb (length f.path) 64) t ≡ true = subst (λ u. every (λ f. leb (length f.path) 64) u ≡ true) row.is (short_paths stands (entries_of ws) row.keys) in
    omega (arith, weight_small t s, row_length stands ws t row)

-- entries with their weight, written into a row, are a row
pub row_rewritten : (stands : ℕ → List ℕ) (ws : List ℕ) (es t : Tree) (w : ℕ) → 2 ≤ length ws → length es ≤ room ws → every whole es ≡ true →
    every (λ f. good_key f.path) es ≡ true → rising_paths es ≡ true → w ≡ weight_of t → each (file_of stands) es ≡ t → RowOf stands (rewritten w es ws) t
unfolding rewritten
row_rewritten stands ws es t w l m o k r we i =
    let e : entries_of (rewritten w es ws) ≡ es = entries_rewritten w es ws l m o in
    record {
      long = omega (arith, length_rewritten w es ws l m o);
      counted = sym (held_rewritten w es ws l m o);
      keys = ap (every (λ f. good_key f.path)) e ∙ k;
      rising = ap rising_paths e ∙ r;
      weighed = we;
      is = ap (each (file_of stands)) e ∙ i;
    }

pub puts_right : PutsRight
unfolding PutsRight put_answer put_in put_key
puts_right stands ws t p r row h =
    let g : good_path p ≡ true = (and_parts (good_path p) (all_bytes p) h).0 in
    let k = key_of p in
    let es = putting k r ws in
    let u = put p (stands r) t in
    let is : each (file_of stands) es ≡ u = each_put stands p h r (entries_of ws) row.keys ∙ ap (put p (stands r)) row.is in
    let many : length es ≡ length u = sym (length_each (file_of stands) es) ∙ ap length is in
    let had : length t ≡ held ws = row_length stands ws t row in
    let fits : room_for k r ws ≡ leb (length u) (room ws) = ap (λ n. leb n (room ws)) many in
    let light : weight_of t ≤ 524288 = row_light stands ws t row in
    let weight : weight_put k (64 + length p) r ws ≡ weight_of u = weighs (length es) had many light row.weighed (weight_put_cases p (stands r) t) in (
      pick_true (good_path p) (pick (room_for k r ws) (Ok tt) (Err Full)) (Err Path) g ∙ ap (λ b. pick b (Ok tt) (Err Full)) fits,
      λ f. subst (λ x. RowOf stands x u)
          (sym (pick_true (good_path p) (put_key k (64 + length p) r ws) ws g ∙ pick_true (room_for k r ws) (rewritten (weight_put k (64 + length p) r ws) es ws) ws (fits ∙ f)))
          (row_rewritten stands ws es u (weight_put k (64 + length p) r ws) row.long (omega (arith, leb-true (length u) (room ws) f))
          (put_every whole k (r ∷ []) (entries_of ws) (and_from (eqb (length k) 9) true (eq-eqb _ _ (length_key p)) refl) (row_whole ws))
          (put_every (λ f. good_key f.path) k (r ∷ []) (entries_of ws) (key_good p h) row.keys) (put_rising k (r ∷ []) (entries_of ws) row.rising) weight is),
      λ f. pick_true (good_path p) (put_key k (64 + length p) r ws) ws g ∙ pick_false (room_for k r ws) (rewritten (weight_put k (64 + length p) r ws) es ws) ws (fits ∙ f),
    )
  where
    weighs : (n : ℕ) → length t ≡ held ws → n ≡ length (put p (stands r) t) → weight_of t ≤ 524288 → get_or ws 1 0 ≡ weight_of t →
        ((length (put p (stands r) t) ≡ length t) × (weight_of (put p (stands r) t) ≡ weight_of t))
        ⊎ ((length (put p (stands r) t) ≡ suc (length t)) × (weight_of (put p (stands r) t) ≡ weight_of t + (64 + length p))) →
        pick (ltb (held ws) n) (min (get_or ws 1 0 + (64 + length p)) 18446744073709551615) (get_or ws 1 0) ≡ weight_of (put p (stands r) t)
    weighs n a b l w (inl e) = pick_false (ltb (held ws) n) _ _ (le-ltb (held ws) n (omega (arith, e.0))) ∙ (w ∙ sym e.1)
    weighs n a b l w (inr e) =
        let s : length p ≤ 64 = leb-true (length p) 64 (and_parts (leb 1 (length p)) (leb (length p) 64) (and_parts (good_path p) (all_bytes p) h).0).1 in
        pick_true (ltb (held ws) n) _ _ (lt-ltb (held ws) n (omega (arith, e.0))) ∙ omega (arith, e.1)

without_none : (p : List ℕ) (t : Tree) → none_of (found t p) ≡ true → without p t ≡ t
unfolding without found
without_none p [] n = refl
without_none p (f ∷ fs) n = go (same p f.path) refl (without_none p fs)
  where
    go : (s : Bool) → same p f.path ≡ s → (none_of (found fs p) ≡ true → without p fs ≡ fs) → pick s fs (f ∷ without p fs) ≡ f ∷ fs
    go true e ih = absurd (true≢false (sym n ∙ ap none_of (pick_true (same f.path p) (f.bytes ∷ []) (found fs p) (same_sym f.path p ∙ e))))
    go false e ih = ap (λ xs. f ∷ xs) (ih (sym (ap none_of (pick_false (same f.path p) (f.bytes ∷ []) (found fs p) (same_sym f.path p ∙ e))) ∙ n))

none_each : {A B : Type 0} (f : A → B) (xs : List A) → none_of (each f xs) ≡ none_of xs
none_each f [] = refl
none_each f (x ∷ xs) = refl

pub takes_right : TakesRight
unfolding TakesRight taken_from take_from take_key
takes_right stands ws t p row h =
    let g : good_path p ≡ true = (and_parts (good_path p) (all_bytes p) h).0 in
    let k = key_of p in
    let es = without k (entries_of ws) in
    let is : each (file_of stands) es ≡ without p t = each_without stands p h (entries_of ws) row.keys ∙ ap (without p) row.is in
    let there : none_of (found (entries_of ws) k) ≡ none_of (found t p) =
    sym (none_each (λ b. stands (first_or 0 b)) (found (entries_of ws) k)) ∙ ap none_of (sym (each_found stands p h (entries_of ws) row.keys) ∙ ap (λ u. found u p) row.is) in (
      ap₂ (λ a b. a && not b) g there,
      subst (λ x. RowOf stands x (without p t)) (sym (pick_true (good_path p) (take_key k (64 + length p) ws) ws g))
          (go (none_of (found t p)) refl there is),
    )
  where
    go : (b : Bool) → none_of (found t p) ≡ b → none_of (found (entries_of ws) (key_of p)) ≡ none_of (found t p) → each (file_of stands) (without (key_of p) (entries_of ws)) ≡ without p t →
        RowOf stands (pick (has_key (key_of p) ws) (rewritten (get_or ws 1 0 - (64 + length p)) (without (key_of p) (entries_of ws)) ws) ws) (without p t)
    go true n there is =
        subst (λ x. RowOf stands x (without p t)) (sym (pick_false (has_key (key_of p) ws) _ ws (ap not (there ∙ n)))) (subst (λ u. RowOf stands ws u) (sym (without_none p t n)) row)
    go false n there is =
        let l : length (without (key_of p) (entries_of ws)) ≤ length (entries_of ws) = length_without (key_of p) (entries_of ws) in
        subst (λ x. RowOf stands x (without p t)) (sym (pick_true (has_key (key_of p) ws) _ ws (ap not (there ∙ n))))
        (row_rewritten stands ws (without (key_of p) (entries_of ws)) (without p t) (get_or ws 1 0 - (64 + length p)) row.long (omega (arith, length_cut (held ws) (drop 2 ws)))
        (without_every whole (key_of p) (entries_of ws) (row_whole ws)) (without_every (λ f. good_key f.path) (key_of p) (entries_of ws) row.keys)
        (without_rising (key_of p) (entries_of ws) row.rising) (omega (arith, row.weighed, weight_without p t n)) is)

-- entries that stand for the same files are the same
each_back : (stands : ℕ → List ℕ) (es fs : Tree) → every (λ f. good_key f.path) es ≡ true → every (λ f. good_key f.path) fs ≡ true → every whole es ≡ true → every whole fs ≡ true →
    ((i j : ℕ) → has (each (λ f. first_or 0 f.bytes) es) i ≡ true → has (each (λ f. first_or 0 f.bytes) fs) j ≡ true → stands i ≡ stands j → i ≡ j) →
    each (file_of stands) es ≡ each (file_of stands) fs → es ≡ fs
each_back stands [] [] g h w x a e = refl
each_back stands [] (f ∷ fs) g h w x a e = absurd (true≢false (ap none_of e))
each_back stands (f ∷ fs) [] g h w x a e = absurd (false≢true (ap none_of e))
each_back stands (f ∷ fs) (k ∷ ks) g h w x a e =
    let first : file_of stands f ≡ file_of stands k = cc in
    let rest : each (file_of stands) fs ≡ each (file_of stands) ks = cc in
    let gf = and_parts (good_key f.path) (every (λ f. good_key f.path) fs) g in
    let gk = and_parts (good_key k.path) (every (λ f. good_key f.path) ks) h in
    let wf = and_parts (whole f) (every whole fs) w in
    let wk = and_parts (whole k) (every whole ks) x in
    let bf = only_one f.bytes (eqb-true _ _ (and_parts (eqb (length f.path) 9) (eqb (length f.bytes) 1) wf.0).1) in
    let bk = only_one k.bytes (eqb-true _ _ (and_parts (eqb (length k.path) 9) (eqb (length k.bytes) 1) wk.0).1) in
    let path : f.path ≡ k.path = (good_parts f.path gf.0).1 ∙ ap key_of (ap (λ z. z.path) first) ∙ sym (good_parts k.path gk.0).1 in
    let ref : first_or 0 f.bytes ≡ first_or 0 k.bytes =
    a (first_or 0 f.bytes) (first_or 0 k.bytes) (in_has (each (λ f. first_or 0 f.bytes) (f ∷ fs)) _ (inl refl)) (in_has (each (λ f. first_or 0 f.bytes) (k ∷ ks)) _ (inl refl)) (ap (λ z. z.bytes) first) in
    let bytes_are : f.bytes ≡ k.bytes = sym (first_only f.bytes bf) ∙ ap (λ n. n ∷ []) ref ∙ first_only k.bytes bk in
    let behind : fs ≡ ks =
    each_back stands fs ks gf.1 gk.1 wf.1 wk.1 (λ i j p q. a i j (or_right (eqb (first_or 0 f.bytes) i) _ p) (or_right (eqb (first_or 0 k.bytes) j) _ q)) rest in
    λ i. record { path = path i; bytes = bytes_are i } ∷ behind i
  where
    first_only : (bs : List ℕ) → get_or bs 0 0 ∷ [] ≡ bs → first_or 0 bs ∷ [] ≡ bs
    first_only [] e = e
    first_only (b ∷ bs) e = e

pub same_right : SameRight
unfolding SameRight
same_right stands xs ys t u r q a =
    let d = same_tree_tells (entries_of xs) (entries_of ys) in
    let e = same_tree_tells t u in
    same_from_decides (same_tree (entries_of xs) (entries_of ys)) (same_tree t u) d (
      λ h. each_back stands (entries_of xs) (entries_of ys) r.keys q.keys (row_whole xs) (row_whole ys) a (r.is ∙ e.0 h ∙ sym q.is),
      λ h. e.1 (sym r.is ∙ ap (each (file_of stands)) h ∙ q.is),
    )

-- keys that rise are paths that rise
each_rising : (stands : ℕ → List ℕ) (es : Tree) → every (λ f. good_key f.path) es ≡ true → rising_paths es ≡ true → rising_paths (each (file_of stands) es) ≡ true
each_rising stands [] g r = r
each_rising stands (f ∷ fs) g r =
    let a = and_parts (good_key f.path) (every (λ f. good_key f.path) fs) g in
    let k = good_parts f.path a.0 in
    rising_from (file_of stands f) (each (file_of stands) fs)
    (λ q i.
    let h : (x : File) × In x (each (file_of stands) fs) × (x.path ≡ q) = each_in (λ x. x.path) (each (file_of stands) fs) q i in
    let e : (x : File) × In x fs × (file_of stands x ≡ h.0) = each_in (file_of stands) fs h.0 h.1 in
    let good = every_in (λ f. good_key f.path) fs a.1 e.0 e.1 in
    let up : earlier f.path e.0.path ≡ true = rising_first f fs r e.0.path (in_each (λ x. x.path) fs e.0 e.1) in
    subst (λ x. earlier (path_of f.path) x ≡ true) (ap (λ x. x.path) e.2 ∙ h.2)
    (sym (earlier_key (path_of f.path) e.0.path k.0 good) ∙ ap (λ x. earlier x e.0.path) (sym k.1) ∙ up)) (each_rising stands fs a.1 (rising_rest f fs r))

pub row_rising : (stands : ℕ → List ℕ) (ws : List ℕ) (t : Tree) → RowOf stands ws t → rising_paths t ≡ true
row_rising stands ws t row = ap rising_paths (sym row.is) ∙ each_rising stands (entries_of ws) row.keys row.rising
