use Rattle.std.proofs.Common.{ap, sym, ◌∙◌}
use Rattle.objects.specs.Marking.{begun}
use Rattle.house.specs.Control.{survey_roots}
use Rattle.house.proofs.ControlSteps.{roots_kept}
use Rattle.house.proofs.control.Control.mark.Goals as goal

pub returns-in-Note : goal.returns-in-Note
returns-in-Note c =
    let m = c.args.memory.now in
    c.mark_named.ensures ∙ ap (λ t. begun c.args.first (survey_roots t m) m) (sym c.in-Note.is)

pub returns-in_default : goal.returns-in_default
returns-in_default c =
    let m = c.args.memory.now in
    c.mark_kept.ensures ∙ ap (λ r. begun c.args.first r m) (roots_kept c.args.self.now.task m c.in_default.not-Note)
