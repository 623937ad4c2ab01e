use Rattle.std.proofs.Common.{sym, ap, ◌∙◌}
use Rattle.house.specs.Control.{against}
use Rattle.house.specs.Entry.{own_sum}
use Rattle.house.proofs.ControlSteps.{against_else}
use Rattle.house.proofs.control.Control.against.Goals as goal

pub returns-in-Status : goal.returns-in-Status
returns-in-Status c = c.compare.ensures ∙ ap (against own_sum c.args.self.now c.args.memory.now) (sym c.in-Status.is)

pub returns-in-Note : goal.returns-in-Note
returns-in-Note c = c.changed.ensures ∙ ap (against own_sum c.args.self.now c.args.memory.now) (sym c.in-Note.is)

pub returns-in_default : goal.returns-in_default
returns-in_default c =
    let k = c.args.self.now in against_else own_sum k c.args.memory.now k.task c.in_default.not-Status c.in_default.not-Note
