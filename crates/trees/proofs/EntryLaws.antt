-- A row's entries as arrays of ten words, and as files.
use Rattle.std.proofs.Common.{◌≡◌, ◌==◌, ◌&&◌, ℕ, zero, suc, ◌+◌, ◌*◌, ◌<◌, ◌≤◌, Bool, true, false, not, cond, ltb, List, [], ◌∷◌, length, get_or, take, drop, Some, None, Option, Decides, sym, refl, ap, ◌∙◌, ap₂, arith, length-drop}
use Rattle.std.proofs.lemmas.List.{take_more, take-take, get_or-take, get_or-drop, drop-drop}
use Rattle.std.proofs.lemmas.Bool.Decides.{nat_tests, same_from_decides}
use Rattle.std.specs.Option.{unwrap_or}
use Rattle.std.specs.List.{list_all, position, position_or_len, zip}
use Rattle.pages.specs.Lists.{pick, or, each, same}
use Rattle.trees.specs.Tree.{found, same_tree}
use Rattle.trees.specs.Order.{halts, spot, there}
use Rattle.trees.specs.Row.{as_entry, cut, entries_of, entry, held, in_words, reference_in, tens}
use Rattle.trees.proofs.TreeLaws.{same_tree_tells}
use Rattle.trees.proofs.RowLaws.{found_cut, found_none}

pub each_tens : (n : ℕ) (ws : List ℕ) → each as_entry (tens n ws) ≡ cut n ws
unfolding cut
each_tens zero ws = refl
each_tens (suc n) ws =
    ap₂ (λ k r. entry k r ∷ each as_entry (tens n (drop 10 ws))) (take-take 9 10 ws (omega arith)) (get_or-take 10 ws 9 0 (omega arith))
    ∙ ap (λ es. entry (take 9 ws) (get_or ws 9 0) ∷ es) (each_tens n (drop 10 ws))

pub entries_are : (ws : List ℕ) (es : List (List ℕ)) → es ≡ tens (held ws) (drop 2 ws) → each as_entry es ≡ entries_of ws
entries_are ws es e = ap (each as_entry) e ∙ each_tens (held ws) (drop 2 ws)

pub take_tens : (k n : ℕ) (ws : List ℕ) → k ≤ n → take k (tens n ws) ≡ tens k ws
take_tens zero n ws h = refl
take_tens (suc k) zero ws h = absurd (omega arith)
take_tens (suc k) (suc n) ws h = ap (λ es. take 10 ws ∷ es) (take_tens k n (drop 10 ws) (omega arith))

pub length_tens : (n : ℕ) (ws : List ℕ) → length (tens n ws) ≡ n
length_tens zero ws = refl
length_tens (suc n) ws = ap suc (length_tens n (drop 10 ws))

pub get_tens : (n i : ℕ) (ws : List ℕ) → i < n → get_or (tens n ws) i [] ≡ take 10 (drop (10 * i) ws)
get_tens zero i ws h = absurd (omega arith)
get_tens (suc n) zero ws h = refl
get_tens (suc n) (suc i) ws h =
    let e : 10 + 10 * i ≡ 10 * suc i = omega arith in
    get_tens n i (drop 10 ws) (omega arith) ∙ ap (take 10) (drop-drop (10 * i) 10 ws ∙ ap (λ m. drop m ws) e)

-- where a search stops
stop_more : (b : Bool) (m n : ℕ) → m ≡ n → cond (not b) (1 + m) 0 ≡ pick b 0 (suc n)
stop_more true m n e = refl
stop_more false m n e = omega arith

pub spot_up_to : (k : List ℕ) (es : List (List ℕ)) → position_or_len (λ e. halts false k (take 9 e)) es ≡ spot false k (each as_entry es)
unfolding spot
spot_up_to k [] = refl
spot_up_to k (e ∷ es) = stop_more (halts false k (take 9 e)) _ _ (spot_up_to k es)

position_within : (p : List ℕ → Bool) (es : List (List ℕ)) → position_or_len p es ≤ length es
position_within p [] = omega arith
position_within p (e ∷ es) = let h = position_within p es in grind arith

-- the first key that is not passed, or the end
pub stops : (k : List ℕ) (es : List (List ℕ)) (o : Option ℕ) (at : ℕ) → o ≡ position (λ e. halts false k (take 9 e)) es → at ≡ unwrap_or o (length es) →
    at ≡ spot false k (each as_entry es)
stops k es o at e f =
    let s : ℕ = position_or_len (λ e. halts false k (take 9 e)) es in
    f ∙ ap (λ o. unwrap_or o (length es)) e ∙ go s (length es) (ltb s (length es)) refl (position_within (λ e. halts false k (take 9 e)) es) ∙ spot_up_to k es
  where
    go : (s l : ℕ) (b : Bool) → ltb s l ≡ b → s ≤ l → unwrap_or (cond b (Some s) None) l ≡ s
    go s l true t h = refl
    go s l false t h = grind (arith, nat_tests)

or_false : (b : Bool) → or b false ≡ b
or_false true = refl
or_false false = refl

pub spot_at : (k : List ℕ) (es : List (List ℕ)) → position_or_len (λ e. same k (take 9 e)) es ≡ spot true k (each as_entry es)
unfolding spot
spot_at k [] = refl
spot_at k (e ∷ es) =
    stop_more (same k (take 9 e)) _ _ (spot_at k es) ∙ sym (ap (λ b. pick b 0 (suc (spot true k (each as_entry es)))) (or_false (same k (take 9 e))))

pub position_some : (p : List ℕ → Bool) (es : List (List ℕ)) (at : ℕ) → Some at ≡ position p es → (at ≡ position_or_len p es) × (at < length es)
position_some p es at e = grind (arith, nat_tests)

pub position_none : (p : List ℕ → Bool) (es : List (List ℕ)) → None ≡ position p es → length es ≤ position_or_len p es
position_none p es e = grind (arith, nat_tests)

-- what stands at a place
pub there_at : (k : List ℕ) (es : List (List ℕ)) (at : ℕ) → at < length es → there k (drop at (each as_entry es)) ≡ same k (take 9 (get_or es at []))
there_at k [] at h = absurd (omega arith)
there_at k (e ∷ es) zero h = refl
there_at k (e ∷ es) (suc at) h = there_at k es at (omega arith)

pub there_past : (k : List ℕ) (es : List (List ℕ)) (at : ℕ) → length es ≤ at → there k (drop at (each as_entry es)) ≡ false
there_past k [] zero h = refl
there_past k [] (suc at) h = refl
there_past k (e ∷ es) zero h = absurd (omega arith)
there_past k (e ∷ es) (suc at) h = there_past k es at (omega arith)

-- what stands at a key of a row
pub at_key : (k ws : List ℕ) (es : List (List ℕ)) (at : ℕ) → es ≡ tens (held ws) (drop 2 ws) → Some at ≡ position (λ e. same k (take 9 e)) es →
    (at ≡ spot true k (entries_of ws)) × (at < held ws)
at_key k ws es at e f =
    let p = position_some (λ e. same k (take 9 e)) es at f in
    (p.0 ∙ spot_at k es ∙ ap (λ xs. spot true k (each as_entry xs)) e ∙ ap (spot true k) (each_tens (held ws) (drop 2 ws)), omega (arith, p.1, ap length e, length_tens (held ws) (drop 2 ws)))

pub at_none : (k ws : List ℕ) (es : List (List ℕ)) → es ≡ tens (held ws) (drop 2 ws) → None ≡ position (λ e. same k (take 9 e)) es → found (entries_of ws) k ≡ []
at_none k ws es e f =
    let n : length es ≤ position_or_len (λ e. same k (take 9 e)) es = position_none (λ e. same k (take 9 e)) es f in
    let s : position_or_len (λ e. same k (take 9 e)) es ≡ spot true k (entries_of ws) =
    spot_at k es ∙ ap (λ xs. spot true k (each as_entry xs)) e ∙ ap (spot true k) (each_tens (held ws) (drop 2 ws)) in
    found_none k (drop 2 ws) (held ws) (position_or_len (λ e. same k (take 9 e)) es) s (omega (arith, n, ap length e, length_tens (held ws) (drop 2 ws)))

pub reference_at : (k ws : List ℕ) (es : List (List ℕ)) (at : ℕ) → es ≡ tens (held ws) (drop 2 ws) → Some at ≡ position (λ e. same k (take 9 e)) es →
    Some (get_or (get_or es at []) 9 0) ≡ reference_in (found (entries_of ws) k)
reference_at k ws es at e f =
    let p = at_key k ws es at e f in
    let r : get_or (get_or es at []) 9 0 ≡ get_or (drop 2 ws) (10 * at + 9) 0 =
    ap (λ xs. get_or (get_or xs at []) 9 0) e ∙ ap (λ w. get_or w 9 0) (get_tens (held ws) at (drop 2 ws) p.1)
    ∙ get_or-take 10 (drop (10 * at) (drop 2 ws)) 9 0 (omega arith) ∙ get_or-drop (10 * at) (drop 2 ws) 9 0 in
    ap Some r ∙ sym (ap reference_in (found_cut k (drop 2 ws) (held ws) at p.0 p.1))

pub reference_none : (k ws : List ℕ) (es : List (List ℕ)) → es ≡ tens (held ws) (drop 2 ws) → None ≡ position (λ e. same k (take 9 e)) es →
    None ≡ reference_in (found (entries_of ws) k)
reference_none k ws es e f = sym (ap reference_in (at_none k ws es e f))

-- entries are made of their words
pub words_tens : (n : ℕ) (ws : List ℕ) → 10 * n ≤ length ws → each in_words (cut n ws) ≡ tens n ws
unfolding cut
words_tens zero ws h = refl
words_tens (suc n) ws h =
    ap₂ (λ e es. e ∷ es) (sym (take_more ws 9 0 (omega arith))) (words_tens n (drop 10 ws) (omega (arith, length-drop 10 ws)))

pub held_within : (ws : List ℕ) → 10 * held ws ≤ length (drop 2 ws)
held_within ws = omega (arith, length-drop 2 ws)

-- entries are the same exactly if their words are
pub same_entries : (xs ys : List ℕ) (es fs : List (List ℕ)) (b : Bool) → es ≡ tens (held xs) (drop 2 xs) → fs ≡ tens (held ys) (drop 2 ys) → Decides b (es ≡ fs) →
    b ≡ same_tree (entries_of xs) (entries_of ys)
same_entries xs ys es fs b e f d =
    let t = same_tree_tells (entries_of xs) (entries_of ys) in
    same_from_decides b (same_tree (entries_of xs) (entries_of ys)) d (
      λ s. e ∙ sym (words_tens (held xs) (drop 2 xs) (held_within xs)) ∙ ap (each in_words) (t.0 s) ∙ words_tens (held ys) (drop 2 ys) (held_within ys) ∙ sym f,
      λ s. t.1 (sym (entries_are xs es e) ∙ ap (each as_entry) s ∙ entries_are ys fs f),
    )

-- word by word, as far as the first row goes
pub zipped_same : (xs ys : List ℕ) → length xs ≤ length ys → list_all (λ p. p.0 == p.1) (zip xs ys) ≡ same xs (take (length xs) ys)
unfolding same
zipped_same [] ys h = refl
zipped_same (x ∷ xs) [] h = absurd (omega arith)
zipped_same (x ∷ xs) (y ∷ ys) h = ap (λ b. x == y && b) (zipped_same xs ys (omega arith))
