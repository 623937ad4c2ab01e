-- Rows as they are stored: how many words a path takes, and where each word stands.
use Rattle.std.proofs.Common.{◌≡◌, ℕ, suc, ◌+◌, ◌-◌, ◌*◌, ◌<◌, ◌≤◌, true, false, leb, List, [], ◌∷◌, ◌++◌, length, get_or, take, drop, set, Some, None, sym, refl, ap, ◌∙◌, ap₂, append_assoc, append-nil, zero-add, arith, length-append, length-drop, length-set, length-take}
use borrow.Rule.Slice.PartMut.{put_mid}
use Rattle.std.proofs.lemmas.List.{drop-drop, take_at, drop_at, length-take-le, take_more, take_more_set, drop-set-lt, take-append-drop}
use Rattle.std.proofs.lemmas.Bool.{le-leb, lt-leb}
use Rattle.std.specs.List.{sum_by}
use Rattle.std.proofs.lemmas.List.Sums.{sum_by-cons}
use Rattle.pages.specs.Lists.{each, flat}
use Rattle.pages.proofs.ListLaws.{pick_true, pick_false, length_each, each_append}
use Rattle.pages.specs.Words.{over}
use Rattle.pages.proofs.WordLaws.{length_over}
use Rattle.pages.specs.Object.{heading}
use Rattle.trees.specs.Tree.{Tree}
use Rattle.trees.specs.Row.{entry, cut, held, entries_of, as_entry, in_words, reference_of, references, tens}
use Rattle.trees.specs.Packed.{needed, packed, packed_all, squeezed, squeeze_answer, squeeze_into}
use Rattle.trees.proofs.RowLaws.{length_cut, take_cut, drop_cut, cut_more, flat_append}
use Rattle.trees.proofs.EntryLaws.{entries_are, get_tens, held_within, length_tens, words_tens}

-- HOW MANY WORDS

pub length_packed : (e : List ℕ) → 8 ≤ length e → length (packed e) ≡ 1 + needed (get_or e 8 0)
unfolding packed
length_packed e h = omega (arith, length-take (needed (get_or e 8 0)) e)

-- one entry more
pub cut_push : (i : ℕ) (xs : List ℕ) → cut (i + 1) xs ≡ cut i xs ++ entry (take 9 (drop (10 * i) xs)) (get_or xs (10 * i + 9) 0) ∷ []
cut_push i xs =
    let a : i + 1 - i ≡ 1 = omega arith in
    sym (take-append-drop i (cut (i + 1) xs)) ∙ ap₂ (λ u v. u ++ v) (take_cut i (i + 1) xs (omega arith)) (drop_cut i (i + 1) xs ∙ cut_more (i + 1) i xs (omega arith))
    ∙ (let z : i + 1 - (i + 1) ≡ 0 = omega arith in ap (λ m. cut i xs ++ entry (take 9 (drop (10 * i) xs)) (get_or xs (10 * i + 9) 0) ∷ cut m (drop (10 * (i + 1)) xs)) z ∙ last)
  where
    last : cut i xs ++ entry (take 9 (drop (10 * i) xs)) (get_or xs (10 * i + 9) 0) ∷ cut 0 (drop (10 * (i + 1)) xs) ≡ cut i xs ++ entry (take 9 (drop (10 * i) xs)) (get_or xs (10 * i + 9) 0) ∷ []
    last = unfold cut in refl

-- the entries of a row, one after another
flat_each : {A : Type 0} (f : List ℕ → List ℕ) (g : A → List ℕ) (xs : List A) → flat (λ x. f (g x)) xs ≡ flat f (each g xs)
flat_each f g [] = refl
flat_each f g (x ∷ xs) = ap (λ u. f (g x) ++ u) (flat_each f g xs)

pub packed_entries : (ws : List ℕ) (es : List (List ℕ)) → es ≡ tens (held ws) (drop 2 ws) → flat packed es ≡ packed_all (entries_of ws)
packed_entries ws es e =
    ap (flat packed) (e ∙ sym (words_tens (held ws) (drop 2 ws) (held_within ws))) ∙ sym (flat_each packed in_words (entries_of ws))

pub packed_push : (i : ℕ) (es : List (List ℕ)) → i < length es → flat packed (take (i + 1) es) ≡ flat packed (take i es) ++ packed (get_or es i [])
packed_push i es h =
    ap (flat packed) (take_more es i [] h) ∙ flat_append packed (take i es) (get_or es i [] ∷ []) ∙ ap (λ u. flat packed (take i es) ++ u) (append-nil (packed (get_or es i [])))

pub packed_within : (i : ℕ) (es : List (List ℕ)) → i < length es → length (flat packed (take i es)) + length (packed (get_or es i [])) ≤ length (flat packed es)
packed_within i es h =
    let whole : flat packed es ≡ flat packed (take (i + 1) es) ++ flat packed (drop (i + 1) es) =
    ap (flat packed) (sym (take-append-drop (i + 1) es)) ∙ flat_append packed (take (i + 1) es) (drop (i + 1) es) in
    omega (
      arith,
      ap length whole,
      length-append (flat packed (take (i + 1) es)) (flat packed (drop (i + 1) es)),
      ap length (packed_push i es h),
      length-append (flat packed (take i es)) (packed (get_or es i [])),
    )

-- the references of a row, and of its entries as arrays
pub length_references : (n : ℕ) (xs : List ℕ) → length (each reference_of (cut n xs)) ≡ n
length_references n xs = length_each reference_of (cut n xs) ∙ length_cut n xs

pub each_each : {A B C : Type 0} (f : B → C) (g : A → B) (xs : List A) → each f (each g xs) ≡ each (λ x. f (g x)) xs
each_each f g [] = refl
each_each f g (x ∷ xs) = ap (λ u. f (g x) ∷ u) (each_each f g xs)

pub references_entries : (ws : List ℕ) (es : List (List ℕ)) → es ≡ tens (held ws) (drop 2 ws) → each (λ e. get_or e 9 0) es ≡ references ws
references_entries ws es e = sym (each_each reference_of as_entry es) ∙ ap (each reference_of) (entries_are ws es e)

pub references_push : (i : ℕ) (es : List (List ℕ)) → i < length es →
    each (λ e. get_or e 9 0) (take (i + 1) es) ≡ each (λ e. get_or e 9 0) (take i es) ++ get_or (get_or es i []) 9 0 ∷ []
references_push i es h = ap (each (λ e. get_or e 9 0)) (take_more es i [] h) ∙ each_append (λ e. get_or e 9 0) (take i es) (get_or es i [] ∷ [])

-- nine words at most
pub packed_bound : (es : Tree) → length (packed_all es) ≤ 9 * length es
unfolding packed
packed_bound [] = omega arith
packed_bound (f ∷ fs) =
    let e = in_words f in
    omega (arith, packed_bound fs, length-append (packed e) (packed_all fs), length-take (needed (get_or e 8 0)) e)

-- what is counted of entries is what they take
measured : (es : List (List ℕ)) → ((i : ℕ) → i < length es → length (get_or es i []) ≡ 10) → sum_by (λ e. 1 + needed (get_or e 8 0)) es ≡ length (flat packed es)
measured [] p = refl
measured (e ∷ es) p =
    omega (
      arith,
      measured es (λ i h. p (suc i) (omega arith)),
      sum_by-cons (λ e. 1 + needed (get_or e 8 0)) e es,
      length_packed e (omega (arith, p 0 (omega arith))),
      length-append (packed e) (flat packed es),
    )

pub measured_entries : (ws : List ℕ) (es : List (List ℕ)) → es ≡ tens (held ws) (drop 2 ws) →
    (sum_by (λ e. 1 + needed (get_or e 8 0)) es ≡ length (packed_all (entries_of ws))) × (length (packed_all (entries_of ws)) ≤ 36864)
measured_entries ws es e =
    let n : length es ≡ held ws = ap length e ∙ length_tens (held ws) (drop 2 ws) in
    let m = measured es (λ i h. ap (λ xs. length (get_or xs i [])) e ∙ ap length (get_tens (held ws) i (drop 2 ws) (omega arith))
    ∙ length-take-le 10 (drop (10 * i) (drop 2 ws)) (omega (arith, held_within ws, length-drop (10 * i) (drop 2 ws)))) in
    (m ∙ ap length (packed_entries ws es e), omega (arith, packed_bound (entries_of ws), length_cut (held ws) (drop 2 ws)))

-- WRITING ONE THING BEHIND ANOTHER

-- new words right behind what was written from a place on
pub over_more : (start at : ℕ) (front all new was out : List ℕ) → all ≡ front ++ new → at ≡ start + length front → at ≤ length was → out ≡ over start front was →
    over at new out ≡ over start all was
over_more start at front all new was out ea e l eo =
    let before : List ℕ = take start was ++ front in
    let lb : length before ≡ at = omega (arith, length-append (take start was) front, length-take start was) in
    let is : out ≡ before ++ drop at was = eo ∙ ap (λ i. take start was ++ (front ++ drop i was)) (sym e) ∙ sym (append_assoc (take start was) front (drop at was)) in
    let back : drop (at + length new) (before ++ drop at was) ≡ drop (at + length new) was =
    sym (drop-drop (length new) at (before ++ drop at was)) ∙ ap (drop (length new)) (drop_at before (drop at was) at lb) ∙ drop-drop (length new) at was in
    let n : at + length new ≡ start + length (front ++ new) = omega (arith, length-append front new) in
    ap (over at new) is ∙ ap₂ (λ u v. u ++ (new ++ v)) (take_at before (drop at was) at lb) back
    ∙ append_assoc (take start was) front (new ++ drop (at + length new) was) ∙ ap (λ u. take start was ++ u) (sym (append_assoc front new (drop (at + length new) was)))
    ∙ ap (λ i. take start was ++ ((front ++ new) ++ drop i was)) n ∙ ap (λ u. over start u was) (sym ea)

-- a word is written so
pub set_over : (out : List ℕ) (at x : ℕ) → at < length out → set out at x ≡ over at (x ∷ []) out
set_over out at x h =
    sym (take-append-drop (at + 1) (set out at x)) ∙ ap₂ (λ u v. u ++ v) (take_more_set out at x h) (drop-set-lt (at + 1) out at x (omega arith))
    ∙ append_assoc (take at out) (x ∷ []) (drop (at + 1) out)

-- a word and then others
pub pack_over : (at k m s : ℕ) (e out new : List ℕ) → m ≡ k → new ≡ take k e → at + 1 + k ≤ length out → k ≤ length e →
    put_mid (at + 1) m (set out at s) new ≡ over at (s ∷ take k e) out
pack_over at k m s e out new em en l h =
    let o : List ℕ = set out at s in
    let n : length new ≡ m = ap length en ∙ length-take-le k e h ∙ sym em in
    ap (λ u. take (at + 1) o ++ (new ++ u)) (drop-drop m (at + 1) o ∙ ap (λ i. drop (at + 1 + i) o) (sym n))
    ∙ over_more at (at + 1) (s ∷ []) (s ∷ take k e) new out (set out at s) (ap (λ u. s ∷ u) (sym en)) refl (omega arith) (set_over out at s (omega arith))

-- all parts of a stored row
all_over : (h w n : ℕ) (rs p out o₁ o₂ : List ℕ) → length rs ≡ n → 3 + n + length p ≤ length out →
    o₁ ≡ over 2 rs (set (set out 0 h) 1 0) → o₂ ≡ over (3 + n) p (set o₁ (2 + n) w) → o₂ ≡ over 0 (h ∷ 0 ∷ (rs ++ (w ∷ p))) out
all_over h w n rs p out o₁ o₂ ln l e₁ e₂ =
    let two : set (set out 0 h) 1 0 ≡ over 0 (h ∷ 0 ∷ []) out =
    set_over (set out 0 h) 1 0 (omega (arith, length-set out 0 h)) ∙ over_more 0 1 (h ∷ []) (h ∷ 0 ∷ []) (0 ∷ []) out (set out 0 h) refl refl (omega arith) (set_over out 0 h (omega arith)) in
    let three : o₁ ≡ over 0 (h ∷ 0 ∷ rs) out = e₁ ∙ over_more 0 2 (h ∷ 0 ∷ []) (h ∷ 0 ∷ rs) rs out (set (set out 0 h) 1 0) refl refl (omega arith) two in
    let long : length o₁ ≡ length out =
    ap length e₁ ∙ length_over 2 rs (set (set out 0 h) 1 0) (omega (arith, length-set (set out 0 h) 1 0, length-set out 0 h)) ∙ length-set (set out 0 h) 1 0 ∙ length-set out 0 h in
    let four : set o₁ (2 + n) w ≡ over 0 (h ∷ 0 ∷ (rs ++ w ∷ [])) out =
    set_over o₁ (2 + n) w (omega arith) ∙ over_more 0 (2 + n) (h ∷ 0 ∷ rs) (h ∷ 0 ∷ (rs ++ w ∷ [])) (w ∷ []) out o₁ refl (omega arith) (omega arith) three in
    e₂ ∙ over_more 0 (3 + n) (h ∷ 0 ∷ (rs ++ w ∷ [])) (h ∷ 0 ∷ (rs ++ (w ∷ p))) p out (set o₁ (2 + n) w)
    (ap (λ u. h ∷ 0 ∷ u) (sym (append_assoc rs (w ∷ []) p))) (omega (arith, length-append rs (w ∷ []))) (omega arith) four

pub length_squeezed : (ws : List ℕ) → length (squeezed ws) ≡ 3 + held ws + length (packed_all (entries_of ws))
unfolding squeezed
length_squeezed ws =
    omega (arith, length-append (references ws) (get_or ws 1 0 ∷ packed_all (entries_of ws)), length_references (held ws) (drop 2 ws))

pub squeeze_done : (ws out o₁ o₂ rs p : List ℕ) (h n w t : ℕ) → rs ≡ references ws → p ≡ packed_all (entries_of ws) → n ≡ held ws → t ≡ 3 + n + length p → t ≤ length out →
    h ≡ heading 2 n t → w ≡ get_or ws 1 0 → o₁ ≡ over 2 rs (set (set out 0 h) 1 0) → o₂ ≡ over (3 + n) p (set o₁ (2 + n) w) →
    (Some t ≡ squeeze_answer ws out) × (o₂ ≡ squeeze_into ws out)
unfolding squeezed squeeze_answer squeeze_into
squeeze_done ws out o₁ o₂ rs p h n w t er ep en et l eh ew e₁ e₂ =
    let st : t ≡ 3 + held ws + length (packed_all (entries_of ws)) = et ∙ ap₂ (λ i u. 3 + i + length u) en ep in
    let s : t ≡ length (squeezed ws) = st ∙ sym (length_squeezed ws) in
    let f : leb (length (squeezed ws)) (length out) ≡ true = le-leb _ _ (omega arith) in
    let head : h ≡ heading 2 (held ws) (3 + held ws + length (packed_all (entries_of ws))) = eh ∙ ap₂ (heading 2) en st in
    let all : h ∷ 0 ∷ (rs ++ (w ∷ p)) ≡ squeezed ws = λ i. head i ∷ 0 ∷ (er i ++ (ew i ∷ ep i)) in (
      ap Some s ∙ sym (pick_true (leb (length (squeezed ws)) (length out)) (Some (length (squeezed ws))) None f),
      all_over h w n rs p out o₁ o₂ (ap length er ∙ length_references (held ws) (drop 2 ws) ∙ sym en) (omega arith) e₁ e₂ ∙ ap (λ u. over 0 u out) all
          ∙ ap (λ i. squeezed ws ++ drop i out) (zero-add (length (squeezed ws)))
          ∙ sym (pick_true (leb (length (squeezed ws)) (length out)) (squeezed ws ++ drop (length (squeezed ws)) out) out f),
    )

pub squeeze_not : (ws out : List ℕ) → length out < 3 + held ws + length (packed_all (entries_of ws)) → (None ≡ squeeze_answer ws out) × (out ≡ squeeze_into ws out)
unfolding squeeze_answer squeeze_into
squeeze_not ws out l =
    let f : leb (length (squeezed ws)) (length out) ≡ false = lt-leb _ _ (omega (arith, length_squeezed ws)) in (
      sym (pick_false (leb (length (squeezed ws)) (length out)) (Some (length (squeezed ws))) None f),
      sym (pick_false (leb (length (squeezed ws)) (length out)) (squeezed ws ++ drop (length (squeezed ws)) out) out f),
    )
