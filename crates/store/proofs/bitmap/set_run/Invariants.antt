use Rattle.std.proofs.Common.{◌≡◌, ◌-◌}
use Rattle.store.specs.Bitmap.{with_run}
use Rattle.store.proofs.bitmap.set_run.Given as goal

-- what is left gives the whole run
abbrev pub invariant-loop-unit : goal.invariant-loop-unit
invariant-loop-unit l = with_run (l.unit-end - l.unit) l.unit l.map ≡ with_run (l.unit-end - l.from) l.from l.initial.map
