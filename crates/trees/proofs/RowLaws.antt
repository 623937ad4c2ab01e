-- Laws of tree rows: how a row is cut into entries, where a search stops in them, and what is written.
use Rattle.std.proofs.Common.{◌≡◌, ℕ, zero, suc, ◌+◌, ◌-◌, ◌*◌, ◌<◌, ◌≤◌, Bool, true, false, ◌&&◌, List, [], ◌∷◌, ◌++◌, length, get_or, take, drop, set, Some, None, sym, refl, ap, ◌∙◌, ap₂, append_assoc, append-nil, arith, length-drop, take-add}
use native.Mathlib.Nat.{sub-zero}
use borrow.Rule.Slice.PartMut.{put_mid}
use Rattle.std.proofs.lemmas.Bool.{false≢true}
use Rattle.std.proofs.lemmas.List.{drop-drop, get_or-drop, drop_all, take_more, take_rest, take-take, get_or-take, drop-take}
use Rattle.pages.specs.Lists.{pick, or, each, flat, same, earlier, first_of}
use Rattle.pages.proofs.ListLaws.{pick_both, pick_true, pick_false, same_sym}
use Rattle.trees.specs.Tree.{Tree, found, put, without}
use Rattle.trees.specs.Order.{spot, halts, there}
use Rattle.trees.specs.Row.{entry, cut, in_words, laid, rewritten, held, entries_of}

-- CUTTING

pub length_cut : (n : ℕ) (ws : List ℕ) → length (cut n ws) ≡ n
unfolding cut
length_cut zero ws = refl
length_cut (suc n) ws = ap suc (length_cut n (drop 10 ws))

-- one entry on
pub cut_more : (n i : ℕ) (ws : List ℕ) → i < n →
    cut (n - i) (drop (10 * i) ws) ≡ entry (take 9 (drop (10 * i) ws)) (get_or ws (10 * i + 9) 0) ∷ cut (n - (i + 1)) (drop (10 * (i + 1)) ws)
unfolding cut
cut_more n i ws h =
    let a : n - i ≡ suc (n - (i + 1)) = omega arith in
    let b : 10 * i + 10 ≡ 10 * (i + 1) = omega arith in
    ap (λ m. cut m (drop (10 * i) ws)) a
    ∙ ap₂ (λ r xs. entry (take 9 (drop (10 * i) ws)) r ∷ cut (n - (i + 1)) xs) (get_or-drop (10 * i) ws 9 0) (drop-drop 10 (10 * i) ws ∙ ap (λ m. drop m ws) b)

pub drop_cut : (a n : ℕ) (ws : List ℕ) → drop a (cut n ws) ≡ cut (n - a) (drop (10 * a) ws)
unfolding cut
drop_cut zero n ws = ap (λ m. cut m ws) (sym (sub-zero n))
drop_cut (suc a) zero ws = let z : 0 - suc a ≡ 0 = omega arith in ap (λ m. cut m (drop (10 * suc a) ws)) (sym z)
drop_cut (suc a) (suc n) ws =
    let m : n - a ≡ suc n - suc a = omega arith in
    let d : 10 + 10 * a ≡ 10 * suc a = omega arith in
    drop_cut a n (drop 10 ws) ∙ ap₂ (λ i xs. cut i xs) m (drop-drop (10 * a) 10 ws ∙ ap (λ i. drop i ws) d)

pub take_cut : (a n : ℕ) (ws : List ℕ) → a ≤ n → take a (cut n ws) ≡ cut a ws
unfolding cut
take_cut zero n ws h = refl
take_cut (suc a) zero ws h = absurd (omega arith)
take_cut (suc a) (suc n) ws h = ap (λ es. entry (take 9 ws) (get_or ws 9 0) ∷ es) (take_cut a n (drop 10 ws) (omega arith))

-- entries are made of their words
pub cut_take : (n : ℕ) (ws : List ℕ) → cut n (take (10 * n) ws) ≡ cut n ws
unfolding cut
cut_take zero ws = refl
cut_take (suc n) ws =
    let m : 10 * suc n ≡ 10 + 10 * n = omega arith in
    ap (λ i. cut (suc n) (take i ws)) m
    ∙ ap₂ (λ k r. entry k r ∷ cut n (drop 10 (take (10 + 10 * n) ws))) (take-take 9 (10 + 10 * n) ws (omega arith)) (get_or-take (10 + 10 * n) ws 9 0 (omega arith))
    ∙ ap (λ xs. entry (take 9 ws) (get_or ws 9 0) ∷ xs) (ap (cut n) (drop-take 10 (10 * n) ws) ∙ cut_take n (drop 10 ws))

-- the entries of a row, as code has them that lends the words behind the first two
pub entries_cut : (ws : List ℕ) (n : ℕ) → n ≡ held ws → cut n (take (length ws - 2) (drop 2 ws)) ≡ entries_of ws
entries_cut ws n e = ap₂ (λ i xs. cut i xs) e (take_rest ws 2)

-- SEARCHES

-- a key that is found stands where the search stops
pub spot_found : (k : List ℕ) (es : Tree) → found es k ≡ each (λ f. f.bytes) (first_of (drop (spot true k es) es))
unfolding found spot
spot_found k [] = refl
spot_found k (f ∷ fs) = ap (λ b. pick b (f.bytes ∷ []) (found fs k)) (same_sym f.path k) ∙ go (same k f.path) (spot_found k fs)
  where
    go : (b : Bool) → found fs k ≡ each (λ f. f.bytes) (first_of (drop (spot true k fs) fs)) →
        pick b (f.bytes ∷ []) (found fs k) ≡ each (λ f. f.bytes) (first_of (drop (pick (or b false) 0 (suc (spot true k fs))) (f ∷ fs)))
    go true e = refl
    go false e = e

pub found_cut : (k ws : List ℕ) (n s : ℕ) → s ≡ spot true k (cut n ws) → s < n → found (cut n ws) k ≡ (get_or ws (10 * s + 9) 0 ∷ []) ∷ []
found_cut k ws n s e h =
    spot_found k (cut n ws) ∙ ap (λ i. each (λ f. f.bytes) (first_of (drop i (cut n ws)))) (sym e)
    ∙ ap (λ es. each (λ f. f.bytes) (first_of es)) (drop_cut s n ws ∙ cut_more n s ws h)

pub found_none : (k ws : List ℕ) (n s : ℕ) → s ≡ spot true k (cut n ws) → n ≤ s → found (cut n ws) k ≡ []
found_none k ws n s e h =
    spot_found k (cut n ws) ∙ ap (λ i. each (λ f. f.bytes) (first_of (drop i (cut n ws)))) (sym e)
    ∙ ap (λ es. each (λ f. f.bytes) (first_of es)) (drop_all s (cut n ws) (omega (arith, length_cut n ws)))

-- a key where there is one
pub key_some : (b : Bool) (k l : List ℕ) → Some k ≡ pick b (Some l) None → (b ≡ true) × (k ≡ l)
key_some true k l e = (refl, cc)
key_some false k l e = let z : ◌≡◌ {A = ℕ} 0 1 = cc in absurd (omega arith)

pub key_none : (b : Bool) (l : List ℕ) → None ≡ pick b (Some l) None → b ≡ false
key_none true l e = let z : ◌≡◌ {A = ℕ} 0 1 = cc in absurd (omega arith)
key_none false l e = refl

-- what is taken out
pub spot_without : (k : List ℕ) (es : Tree) → without k es ≡ take (spot true k es) es ++ drop (spot true k es + 1) es
unfolding without spot
spot_without k [] = refl
spot_without k (f ∷ fs) = go (same k f.path) (spot_without k fs)
  where
    go : (b : Bool) → without k fs ≡ take (spot true k fs) fs ++ drop (spot true k fs + 1) fs →
        pick b fs (f ∷ without k fs)
        ≡ take (pick (or b false) 0 (suc (spot true k fs))) (f ∷ fs) ++ drop (pick (or b false) 0 (suc (spot true k fs)) + 1) (f ∷ fs)
    go true e = refl
    go false e =
        let a : suc (spot true k fs) + 1 ≡ suc (spot true k fs + 1) = omega arith in
        ap (λ xs. f ∷ xs) e ∙ ap (λ m. (f ∷ take (spot true k fs) fs) ++ drop m (f ∷ fs)) (sym a)

-- what is put: in place of what is there, or before what is behind it
pub spot_put : (k b : List ℕ) (es : Tree) →
    put k b es ≡ take (spot false k es) es
    ++ (record { path = k; bytes = b } ∷ pick (there k (drop (spot false k es) es)) (drop (spot false k es + 1) es) (drop (spot false k es) es))
unfolding put spot
spot_put k b [] = refl
spot_put k b (f ∷ fs) = go (same k f.path) (earlier k f.path) refl refl (spot_put k b fs)
  where
    go : (s e : Bool) → same k f.path ≡ s → earlier k f.path ≡ e →
        put k b fs
        ≡ take (spot false k fs) fs
        ++ (record { path = k; bytes = b } ∷ pick (there k (drop (spot false k fs) fs)) (drop (spot false k fs + 1) fs) (drop (spot false k fs) fs)) →
        pick s (record { path = k; bytes = b } ∷ fs) (pick e (record { path = k; bytes = b } ∷ f ∷ fs) (f ∷ put k b fs))
        ≡ take (pick (or s (true && e)) 0 (suc (spot false k fs))) (f ∷ fs)
        ++ (record { path = k; bytes = b }
        ∷ pick (there k (drop (pick (or s (true && e)) 0 (suc (spot false k fs))) (f ∷ fs))) (drop (pick (or s (true && e)) 0 (suc (spot false k fs)) + 1) (f ∷ fs))
        (drop (pick (or s (true && e)) 0 (suc (spot false k fs))) (f ∷ fs)))
    go true e hs he r = ap (λ xs. record { path = k; bytes = b } ∷ xs) (sym (pick_true (same k f.path) fs (f ∷ fs) hs))
    go false true hs he r = ap (λ xs. record { path = k; bytes = b } ∷ xs) (sym (pick_false (same k f.path) fs (f ∷ fs) hs))
    go false false hs he r =
        let a : suc (spot false k fs) + 1 ≡ suc (spot false k fs + 1) = omega arith in
        ap (λ xs. f ∷ xs) r
        ∙ ap (λ m. (f ∷ take (spot false k fs) fs) ++ (record { path = k; bytes = b } ∷ pick (there k (drop (spot false k fs) fs)) (drop m (f ∷ fs)) (drop (spot false k fs) fs)))
        (sym a)

-- WRITING

pub flat_append : {A B : Type 0} (f : A → List B) (xs ys : List A) → flat f (xs ++ ys) ≡ flat f xs ++ flat f ys
flat_append f [] ys = refl
flat_append f (x ∷ xs) ys = ap (λ l. f x ++ l) (flat_append f xs ys) ∙ sym (append_assoc (f x) (flat f xs) (flat f ys))

pub flat_cut : (n : ℕ) (ws : List ℕ) → 10 * n ≤ length ws → flat in_words (cut n ws) ≡ take (10 * n) ws
unfolding cut
flat_cut zero ws h = refl
flat_cut (suc n) ws h =
    let l : 10 ≤ length ws = omega arith in
    let d : 10 + 10 * n ≡ 10 * suc n = omega arith in
    let t : take 10 ws ≡ take 9 ws ++ get_or ws 9 0 ∷ [] = take_more ws 9 0 (omega arith) in
    ap₂ (λ xs ys. xs ++ ys) (sym t) (flat_cut n (drop 10 ws) (omega (arith, length-drop 10 ws)))
    ∙ sym (ap (λ m. take m ws) (sym d) ∙ take-add 10 (10 * n) ws)

pub spot_within : (x : Bool) (k : List ℕ) (es : Tree) → spot x k es ≤ length es
unfolding spot
spot_within x k [] = omega arith
spot_within x k (f ∷ fs) =
    let h : spot x k fs ≤ length fs = spot_within x k fs in
    pick_both (λ n. n ≤ suc (length fs)) (halts x k f.path) 0 (suc (spot x k fs)) (λ _. omega arith) (λ _. omega arith)

pub there_within : (k : List ℕ) (es : Tree) (s : ℕ) → there k (drop s es) ≡ true → s < length es
there_within k [] zero h = absurd (false≢true h)
there_within k [] (suc s) h = absurd (false≢true h)
there_within k (f ∷ fs) zero h = omega arith
there_within k (f ∷ fs) (suc s) h = let r : s < length fs = there_within k fs s h in omega arith

-- the two words in front, and the words behind them
pub rewritten_is : (ws b : List ℕ) (es : Tree) (c w : ℕ) → 2 ≤ length ws → b ≡ laid es (drop 2 ws) → c ≡ length es →
    set (set (put_mid 2 (length ws - 2) ws b) 0 c) 1 w ≡ rewritten w es ws
unfolding rewritten
rewritten_is [] b es c w h e l = absurd (omega arith)
rewritten_is (x ∷ []) b es c w h e l = absurd (omega arith)
rewritten_is (x ∷ y ∷ ws) b es c w h e l =
    let n : suc (suc (length ws)) - 2 ≡ length ws = omega arith in
    ap₂ (λ m i. m ∷ w ∷ (b ++ drop i ws)) l n ∙ ap (λ u. length es ∷ w ∷ (b ++ u)) (drop_all (length ws) ws (omega arith))
    ∙ ap (λ u. length es ∷ w ∷ u) (append-nil b ∙ e)

pub rewritten_same : (ws b : List ℕ) (es : Tree) (c : ℕ) → 2 ≤ length ws → b ≡ laid es (drop 2 ws) → c ≡ length es →
    set (put_mid 2 (length ws - 2) ws b) 0 c ≡ rewritten (get_or ws 1 0) es ws
rewritten_same [] b es c h e l = absurd (omega arith)
rewritten_same (x ∷ []) b es c h e l = absurd (omega arith)
rewritten_same (x ∷ y ∷ ws) b es c h e l = rewritten_is (x ∷ y ∷ ws) b es c y h e l
