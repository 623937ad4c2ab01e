use Rattle.std.proofs.Common.{ap, ◌∙◌}
use Rattle.objects.specs.Marking.{walked}
use Rattle.house.specs.Control.{surveyed, surveying}
use Rattle.house.proofs.control.Control.survey_on.Goals as goal

pub returns : goal.returns
returns c = let k = c.args.self.now in c.surveyed.ensures ∙ ap (walked (surveying k) (surveyed k)) c.go_on-request.ensures
