use Rattle.std.proofs.Common.{arith}
use Rattle.house.specs.Entry.{own_sum}
use Rattle.house.proofs.ControlSteps.{next_sum, all_summed}
use Rattle.house.proofs.control.Control.sum_next.Goals as goal

pub returns-then-file-entries : goal.returns-then-file-entries
returns-then-file-entries c =
    all_summed own_sum c.args.self.now c.args.memory.now c.args.file _ (omega arith) c.summed.ensures

pub returns : goal.returns
returns c =
    next_sum own_sum c.args.self.now c.args.memory.now c.args.file c.place_of-at.result (omega arith) c.place_of-at.ensures
