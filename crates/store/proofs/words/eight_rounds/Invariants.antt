use Rattle.std.proofs.Common.{◌≡◌, length}
use Rattle.store.specs.Mixing.{GoesOn}
use Rattle.store.proofs.words.eight_rounds.Given as goal

abbrev pub invariant-loop-i : goal.invariant-loop-i
invariant-loop-i l = (length l.w ≡ 64) × GoesOn l.i l.t l.initial.v l.initial.w l.v l.w
