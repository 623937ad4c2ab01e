use Rattle.std.proofs.Common.{ap, ◌∙◌}
use Rattle.house.specs.Control.{identified, survey}
use Rattle.house.proofs.control.Control.summed.Goals as goal

pub returns : goal.returns
returns c = c.survey.ensures ∙ ap (λ s. survey (identified s c.args.self.now) c.args.memory.now) c.id-self.ensures
