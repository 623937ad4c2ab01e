use Rattle.std.proofs.Common.{sym, ap, ◌∙◌}
use Rattle.objects.specs.Marking.{asked_on}
use Rattle.house.specs.Control.{surveyed, surveying}
use Rattle.house.proofs.control.Control.surveyed.Goals as goal

pub returns-in_default : goal.returns-in_default
returns-in_default c =
    let k = c.args.self.now in
    c.settle.ensures ∙ ap (asked_on (surveying k) (surveyed k) k.walk c.args.memory.now) (sym c.in_default.is)
