-- Parts of a row that was written over. Assumes nothing.
use Rattle.std.proofs.Common.{◌≡◌, ℕ, ◌+◌, ◌-◌, ◌≤◌, ◌⊎◌, List, ◌++◌, length, take, drop, sym, refl, ap, ◌∙◌, inl, inr, arith, length-append, length-take}
use lib.Seq.{paste}
use Rattle.std.proofs.lemmas.List.{take-take, take-append-le, drop-take, take_at, drop_at, drop-drop, append_assoc}
use Rattle.pages.specs.Words.{over}
use Rattle.pages.proofs.WordLaws.{length_over}
use Rattle.objects.specs.Plan.{PartsStay}

pub part_before : (a n g : ℕ) (rest m : List ℕ) → a + n ≤ g → g ≤ length m → take n (drop a (take g m ++ rest)) ≡ take n (drop a m)
part_before a n g rest m h l =
    sym (drop-take a n (take g m ++ rest))
    ∙ ap (drop a) (take-append-le (a + n) (take g m) rest (omega (arith, length-take g m)) ∙ take-take (a + n) g m h) ∙ drop-take a n m

pub part_written : (g n : ℕ) (new m : List ℕ) → length new ≡ n → g ≤ length m → take n (drop g (over g new m)) ≡ new
part_written g n new m e l =
    ap (take n) (drop_at (take g m) (new ++ drop (g + length new) m) g (omega (arith, length-take g m))) ∙ take_at new (drop (g + length new) m) n e

pub paste_before : (a n g i : ℕ) (s m : List ℕ) → a + n ≤ g → g ≤ length m → take n (drop a (paste m g s i)) ≡ take n (drop a m)
paste_before a n g i s m h l =
    ap (λ xs. take n (drop a xs)) (append_assoc (take g m) (take i s) (drop (g + i) m))
    ∙ part_before a n g (take i s ++ drop (g + i) m) m h l

-- a part of a part
pub part_inside : (a n k from : ℕ) (m : List ℕ) → k + from ≤ n → take k (drop from (take n (drop a m))) ≡ take k (drop (a + from) m)
part_inside a n k from m h =
    let e : from + (n - from) ≡ n = omega arith in
    ap (take k) (ap (λ j. drop from (take j (drop a m))) (sym e) ∙ drop-take from (n - from) (drop a m))
    ∙ take-take k (n - from) (drop from (drop a m)) (omega arith) ∙ ap (take k) (drop-drop from a m)

part_after : (g a : ℕ) (new m : List ℕ) → g + length new ≤ length m → g + length new ≤ a → drop a (over g new m) ≡ drop a m
part_after g a new m l h =
    let s : ℕ = g + length new in
    let e : s + (a - s) ≡ a = omega arith in
    let seam : length (take g m ++ new) ≡ s = omega (arith, length-append (take g m) new, length-take g m) in
    let rest : drop s (over g new m) ≡ drop s m =
    ap (drop s) (sym (append_assoc (take g m) new (drop s m))) ∙ drop_at (take g m ++ new) (drop s m) s seam in
    ap (λ j. drop j (over g new m)) (sym e) ∙ sym (drop-drop (a - s) s (over g new m)) ∙ ap (drop (a - s)) rest ∙ drop-drop (a - s) s m
    ∙ ap (λ j. drop j m) e

pub parts_stay : PartsStay
parts_stay = record { here = λ g new m l. part_written g (length new) new m refl (omega arith); beside = beside; as_long = length_over }
  where
    beside : (g : ℕ) (new m : List ℕ) (a n : ℕ) → g + length new ≤ length m → (a + n ≤ g) ⊎ (g + length new ≤ a) → take n (drop a (over g new m)) ≡ take n (drop a m)
    beside g new m a n l (inl h) = part_before a n g (new ++ drop (g + length new) m) m h (omega arith)
    beside g new m a n l (inr h) = ap (take n) (part_after g a new m l h)
