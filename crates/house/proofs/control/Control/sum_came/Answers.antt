use Rattle.std.proofs.Common.{ap₂, ◌∙◌}
use Rattle.house.specs.Control.{sum_next}
use Rattle.house.specs.Entry.{own_sum}
use Rattle.house.proofs.control.Control.sum_came.Goals as goal

pub returns : goal.returns
returns c = c.sum_next.ensures ∙ ap₂ (sum_next own_sum c.args.self.now) c.put_sum.ensures c.saturating_add.ensures
