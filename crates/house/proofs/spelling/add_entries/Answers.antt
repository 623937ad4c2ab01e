use Rattle.std.proofs.Common.{◌+◌, ◌-◌, ◌*◌, ap, ◌∙◌, arith}
use Rattle.store.specs.Running.{added, fresh}
use Rattle.house.proofs.FedLaws.{spelled_none, more_fed}
use Rattle.house.proofs.spelling.add_entries.Goals as goal

pub loop-i-init : goal.loop-i-init
loop-i-init c = λ x f. f ∙ ap (added fresh) (spelled_none x c.args.sums.now)

pub loop-i-preserved : goal.loop-i-preserved
loop-i-preserved c =
    λ x f. c.add_sum.ensures _ (c.add_path.ensures _ (c.loop-i.invariant x f))
    ∙ ap (added fresh) (more_fed x c.args.entries.now c.loop-i.i (4 * c.loop-i.i + 4 - 4 * c.loop-i.i) c.args.sums.now (omega arith) c.loop-i-test.true)
