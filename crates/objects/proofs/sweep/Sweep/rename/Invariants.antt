use Rattle.std.proofs.Common.{◌≡◌, ◌-◌}
use Rattle.objects.specs.Sweeping.{renaming}
use Rattle.objects.proofs.sweep.Sweep.rename.Given as goal

abbrev pub invariant-loop-i : goal.invariant-loop-i
invariant-loop-i l = l.memory ≡ renaming l.self.walk.first l.self.from l.at (l.i - l.at) l.initial.memory
