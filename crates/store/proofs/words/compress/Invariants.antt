use Rattle.std.proofs.Common.{◌≡◌, ℕ, ◌%◌, ◌≤◌, List, length}
use Rattle.store.specs.Mixing.{Mixed}
use Rattle.store.proofs.words.compress.Given as goal

abbrev pub invariant-loop-t : goal.invariant-loop-t
invariant-loop-t l =
    (l.t % 8 ≡ 0) × (l.t ≤ 48) × (length l.w ≡ 64) × ((M : List ℕ) → Mixed M l.s 0 l.initial.v l.initial.w → Mixed M l.s l.t l.v l.w)
