-- Going through two lists of entries side by side.
use Rattle.std.proofs.Common.{◌≡◌, ℕ, zero, suc, ◌+◌, ◌-◌, ◌*◌, ◌<◌, ◌≤◌, Bool, true, false, ◌&&◌, List, [], ◌∷◌, ◌++◌, length, get_or, take, drop, Decides, Option, sym, refl, ap, ◌∙◌, ap₂, arith, length-drop}
use Rattle.std.proofs.lemmas.Bool.{true≢false, and_from, and_parts}
use Rattle.std.proofs.lemmas.List.{drop-drop, get_or-drop, take_all, take_more}
use Rattle.std.proofs.lemmas.Bool.Decides.{same_from_decides}
use Rattle.std.specs.declared.cmp.Ordering.{Ordering}
use Rattle.std.specs.declared.cmp.Ordering.TheVariants.{Less, Equal, Greater}
use Rattle.std.specs.Ordering.{nat_cmp}
use Rattle.std.specs.Cmp.Lexicographic.{slice_cmp}
use Rattle.pages.specs.Lists.{pick, each, same, earlier}
use Rattle.pages.proofs.ListLaws.{pick_true, pick_false, same_refl, same_true}
use Rattle.trees.specs.Tree.{Tree}
use Rattle.trees.specs.Row.{as_entry, entry, cut, held, entries_of}
use Rattle.trees.specs.declared.differences.Difference.{Difference}
use Rattle.trees.specs.declared.differences.Place.TheVariants.{New, Changed, Gone}
use Rattle.trees.specs.Differ.{differs, meets, difference_here, first_difference}
use Rattle.trees.proofs.KeyLaws.{compared}
use Rattle.trees.proofs.RowLaws.{drop_cut, cut_more}

-- on past files that are one, and at files that are not
pub difference_on : (ts us : Tree) (i j : ℕ) → true ≡ meets ts us → first_difference (drop 1 ts) (drop 1 us) (i + 1) (j + 1) ≡ first_difference ts us i j
unfolding first_difference
difference_on [] us i j h = absurd (true≢false h)
difference_on (f ∷ fs) [] i j h = absurd (true≢false h)
difference_on (f ∷ fs) (g ∷ gs) i j h = sym (pick_true (meets (f ∷ fs) (g ∷ gs)) _ _ (sym h))

pub difference_stops : (ts us : Tree) (i j : ℕ) → false ≡ meets ts us → difference_here ts us i j ≡ first_difference ts us i j
unfolding first_difference
difference_stops [] us i j h = refl
difference_stops (f ∷ fs) [] i j h = refl
difference_stops (f ∷ fs) (g ∷ gs) i j h = sym (pick_false (meets (f ∷ fs) (g ∷ gs)) _ _ (sym h))

pub meets_within : (os ns : Tree) (i j : ℕ) → true ≡ meets (drop i os) (drop j ns) → (i < length os) × (j < length ns)
meets_within os ns i j h = go (drop i os) (drop j ns) (length-drop i os) (length-drop j ns) h
  where
    go : (ts us : Tree) → length ts ≡ length os - i → length us ≡ length ns - j → true ≡ meets ts us → (i < length os) × (j < length ns)
    go [] us a b h = absurd (true≢false h)
    go (f ∷ fs) [] a b h = absurd (true≢false h)
    go (f ∷ fs) (g ∷ gs) a b h = (omega arith, omega arith)

-- the entry at a place
pub entry_at : (ws : List ℕ) (i : ℕ) → i < held ws →
    drop i (entries_of ws) ≡ entry (take 9 (drop (10 * i + 2) ws)) (get_or ws (10 * i + 11) 0) ∷ drop (i + 1) (entries_of ws)
entry_at ws i h =
    let n = held ws in let xs = drop 2 ws in
    let a : 2 + 10 * i ≡ 10 * i + 2 = omega arith in
    let b : 2 + (10 * i + 9) ≡ 10 * i + 11 = omega arith in
    drop_cut i n xs ∙ cut_more n i xs h
    ∙ ap₂ (λ u v. entry (take 9 u) v ∷ cut (n - (i + 1)) (drop (10 * (i + 1)) xs)) (drop-drop (10 * i) 2 ws ∙ ap (λ m. drop m ws) a) (get_or-drop 2 ws (10 * i + 9) 0 ∙ ap (λ m. get_or ws m 0) b)
    ∙ ap (λ u. entry (take 9 (drop (10 * i + 2) ws)) (get_or ws (10 * i + 11) 0) ∷ u) (sym (drop_cut (i + 1) n xs))

-- the file at a place among entries of ten words
pub file_at : (es : List (List ℕ)) (i : ℕ) → i < length es → drop i (each as_entry es) ≡ as_entry (get_or es i []) ∷ drop (i + 1) (each as_entry es)
file_at [] i h = absurd (omega arith)
file_at (e ∷ es) zero h = refl
file_at (e ∷ es) (suc i) h = let n : suc i + 1 ≡ suc (i + 1) = omega arith in rw n (file_at es i (omega arith))

pub file_past : (es : List (List ℕ)) (i : ℕ) → length es ≤ i → drop i (each as_entry es) ≡ []
file_past [] zero h = refl
file_past [] (suc i) h = refl
file_past (e ∷ es) zero h = absurd (omega arith)
file_past (e ∷ es) (suc i) h = file_past es i (omega arith)

-- ten words and ten words
pub meets_words : (a b : List ℕ) (fs gs : Tree) (t : Bool) → length a ≡ 10 → length b ≡ 10 → Decides t (a ≡ b) → t ≡ meets (as_entry a ∷ fs) (as_entry b ∷ gs)
meets_words a b fs gs t la lb d =
    same_from_decides t _ d (back, λ e. rw e (and_from _ _ (same_refl (take 9 b)) (same_refl (get_or b 9 0 ∷ []))))
  where
    ten : (e : List ℕ) → length e ≡ 10 → e ≡ take 9 e ++ get_or e 9 0 ∷ []
    ten e l = sym (take_all 10 e (omega arith)) ∙ take_more e 9 0 (omega arith)

    back : (same (take 9 a) (take 9 b) && same (get_or a 9 0 ∷ []) (get_or b 9 0 ∷ [])) ≡ true → a ≡ b
    back e =
        let p = and_parts _ _ e in
        let k = same_true (take 9 a) (take 9 b) p.0 in
        let r = same_true (get_or a 9 0 ∷ []) (get_or b 9 0 ∷ []) p.1 in
        ten a la ∙ ap₂ (λ u v. u ++ v) k r ∙ sym (ten b lb)

pub meets_none : (ts : Tree) → meets ts [] ≡ false
meets_none [] = refl
meets_none (f ∷ fs) = refl

-- two keys decide how entries that differ do
abbrev pub by_order : Ordering → ℕ → ℕ → Option Difference
by_order Equal i j = differs (Changed j) (i + 1) (j + 1)
by_order Less i j = differs (Gone i) (i + 1) j
by_order Greater i j = differs (New j) i (j + 1)

pub here_ordered : (a b : List ℕ) (fs gs : Tree) (i j : ℕ) (o : Ordering) → o ≡ slice_cmp nat_cmp (take 9 a) (take 9 b) →
    by_order o i j ≡ difference_here (as_entry a ∷ fs) (as_entry b ∷ gs) i j
here_ordered a b fs gs i j o e = ap (λ x. by_order x i j) (e ∙ compared (take 9 a) (take 9 b)) ∙ go (same (take 9 a) (take 9 b)) (earlier (take 9 a) (take 9 b))
  where
    go : (s e : Bool) → by_order (pick s Equal (pick e Less Greater)) i j ≡ pick s (differs (Changed j) (i + 1) (j + 1)) (pick e (differs (Gone i) (i + 1) j) (differs (New j) i (j + 1)))
    go true e = refl
    go false true = refl
    go false false = refl

-- the files at two places, by the order of their entries
pub here_both : (old new : List (List ℕ)) (i j : ℕ) (a b : List ℕ) (o : Ordering) → i < length old → j < length new → a ≡ get_or old i [] → b ≡ get_or new j [] →
    o ≡ slice_cmp nat_cmp (take 9 a) (take 9 b) → by_order o i j ≡ difference_here (drop i (each as_entry old)) (drop j (each as_entry new)) i j
here_both old new i j a b o h k ea eb e =
    here_ordered (get_or old i []) (get_or new j []) (drop (i + 1) (each as_entry old)) (drop (j + 1) (each as_entry new)) i j o (e ∙ ap₂ (λ x y. slice_cmp nat_cmp (take 9 x) (take 9 y)) ea eb)
    ∙ sym (ap₂ (λ s t. difference_here s t i j) (file_at old i h) (file_at new j k))
