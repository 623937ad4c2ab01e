use Rattle.std.proofs.Common.{ap, ap₂, ◌∙◌}
use Rattle.objects.specs.Marking.{sought, walked}
use Rattle.house.specs.Control.{surveyed, surveying}
use Rattle.house.proofs.ControlSteps.{window_is, kept_begun}
use Rattle.house.proofs.control.Control.survey.Goals as goal

pub returns : goal.returns
returns c =
    let k = c.args.self.now in
    let m = c.args.memory.now in
    let first = c.head_word-first.ensures in
    c.surveyed.ensures
    ∙ ap (walked (surveying k) (surveyed k))
    (c.seek-request.ensures
    ∙ ap₂ sought
    (window_is k m _ _ _ _ _ _ first c.head_word-last.ensures c.saturating_sub.ensures c.saturating_mul.ensures c.saturating_mul-2.ensures c.kind_sought.ensures)
    (kept_begun k.task m c.mark.new.memory _ _ first c.saturating_mul-3.ensures c.mark.ensures))
