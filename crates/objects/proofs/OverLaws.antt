-- Words laid over others one by one and part by part. Assumes nothing.
use Rattle.std.proofs.Common.{◌≡◌, ℕ, ◌+◌, ◌<◌, ◌≤◌, List, [], ◌∷◌, ◌++◌, length, get_or, take, drop, set, sym, ap, ◌∙◌, ap₂, arith, length-append}
use Rattle.std.proofs.lemmas.List.{append_assoc, take-append-drop, drop_at, drop_more, length-take-le, set_at, take-append-le, take_at, take_more, take-take}
use Rattle.pages.specs.Words.{over}
use Rattle.objects.proofs.PlanLaws.{over_drop}

-- nothing over others
pub over_nothing : (g : ℕ) (old : List ℕ) → g ≤ length old → over g [] old ≡ old
over_nothing g old h = ap (λ k. take g old ++ drop k old) e ∙ take-append-drop g old
  where
    e : g + 0 ≡ g
    e = omega arith

-- one word more behind
pub over_push : (g : ℕ) (new old : List ℕ) (v : ℕ) → g + length new < length old → set (over g new old) (g + length new) v ≡ over g (new ++ v ∷ []) old
over_push g new old v h =
    ap (λ z. set (take g old ++ (new ++ z)) n v) (drop_more old n 0 h)
    ∙ ap (λ z. set z n v) (sym (append_assoc (take g old) new (get_or old n 0 ∷ drop (n + 1) old)))
    ∙ set_at (take g old ++ new) (get_or old n 0) (drop (n + 1) old) v n long
    ∙ append_assoc (take g old) new (v ∷ drop (n + 1) old)
    ∙ ap (λ z. take g old ++ z) (sym (append_assoc new (v ∷ []) (drop (n + 1) old)))
    ∙ ap (λ k. take g old ++ ((new ++ v ∷ []) ++ drop k old)) e
  where
    n : ℕ
    n = g + length new

    long : length (take g old ++ new) ≡ g + length new
    long = omega (arith, length-append (take g old) new, length-take-le g old (omega arith))

    e : g + length new + 1 ≡ g + length (new ++ v ∷ [])
    e = omega (arith, length-append new (v ∷ []))

-- one word more in front
pub over_front : (g : ℕ) (new old : List ℕ) (v : ℕ) → g < length old → set (over (g + 1) new old) g v ≡ over g (v ∷ new) old
over_front g new old v h =
    ap (λ z. set (z ++ rest) g v) (take_more old g 0 h)
    ∙ ap (λ z. set z g v) (append_assoc (take g old) (get_or old g 0 ∷ []) rest)
    ∙ set_at (take g old) (get_or old g 0) rest v g (length-take-le g old (omega arith))
    ∙ ap (λ k. take g old ++ (v ∷ (new ++ drop k old))) e
  where
    rest : List ℕ
    rest = new ++ drop (g + 1 + length new) old

    e : g + 1 + length new ≡ g + length (v ∷ new)
    e = omega arith

-- a part behind another that was laid, and one in front of it
pub over_after : (g : ℕ) (a b old : List ℕ) → g + length a ≤ length old → over (g + length a) b (over g a old) ≡ over g (a ++ b) old
over_after g a b old h =
    ap₂ (λ x y. x ++ (b ++ y))
    (ap (take (g + length a)) (sym (append_assoc (take g old) a (drop (g + length a) old))) ∙ take_at (take g old ++ a) (drop (g + length a) old) (g + length a) long)
    (over_drop g (g + length a + length b) a old (omega arith) (omega arith))
    ∙ append_assoc (take g old) a (b ++ drop (g + length a + length b) old)
    ∙ ap (λ z. take g old ++ z) (sym (append_assoc a b (drop (g + length a + length b) old)))
    ∙ ap (λ k. take g old ++ ((a ++ b) ++ drop k old)) e
  where
    long : length (take g old ++ a) ≡ g + length a
    long = omega (arith, length-append (take g old) a, length-take-le g old (omega arith))

    e : g + length a + length b ≡ g + length (a ++ b)
    e = omega (arith, length-append a b)

pub over_before_part : (g : ℕ) (a b old : List ℕ) → g + length a ≤ length old → over g a (over (g + length a) b old) ≡ over g (a ++ b) old
over_before_part g a b old h =
    ap₂ (λ x y. x ++ (a ++ y))
    (take-append-le g (take (g + length a) old) (b ++ drop (g + length a + length b) old) (omega (arith, long)) ∙ take-take g (g + length a) old (omega arith))
    (drop_at (take (g + length a) old) (b ++ drop (g + length a + length b) old) (g + length a) long)
    ∙ ap (λ z. take g old ++ z) (sym (append_assoc a b (drop (g + length a + length b) old)))
    ∙ ap (λ k. take g old ++ ((a ++ b) ++ drop k old)) e
  where
    long : length (take (g + length a) old) ≡ g + length a
    long = length-take-le (g + length a) old h

    e : g + length a + length b ≡ g + length (a ++ b)
    e = omega (arith, length-append a b)
