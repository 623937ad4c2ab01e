use Rattle.std.proofs.Common.{◌≡◌, ℕ, ◌+◌, ◌-◌, ◌≤◌, List, ◌++◌, length, drop, sym, refl, ap, ◌∙◌, ap₂, arith}
use native.Mathlib.Nat.{sub-zero}
use borrow.Rule.Slice.PartMut.{post_of}
use Rattle.pages.specs.Lists.{zeros}
use Rattle.pages.proofs.WordLaws.{length_zeros, zeros_append}
use Rattle.std.proofs.lemmas.List.{drop_at}
use Rattle.trees.proofs.keys.padded.Goals as goal

filled : (p ys zs : List ℕ) → length p ≤ 64 → ys ≡ p → zs ≡ zeros 64 → ys ++ post_of 0 (length p - 0) zs ≡ p ++ zeros (64 - length p)
filled p ys zs h e z =
    let n : length p + (64 - length p) ≡ 64 = omega arith in
    ap₂ (λ a b. a ++ b) e
    (ap₂ (λ m l. drop m l) (sub-zero (length p)) (z ∙ ap zeros (sym n) ∙ sym (zeros_append (length p) (64 - length p)))
    ∙ drop_at (zeros (length p)) (zeros (64 - length p)) (length p) (length_zeros (length p)))

pub returns : goal.returns
unfolding zeros
returns c = filled c.args.path.now c.copy_from_slice.new.self _ c.requires c.copy_from_slice.ensures.after refl
