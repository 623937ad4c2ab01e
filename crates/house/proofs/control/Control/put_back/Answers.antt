use Rattle.std.proofs.Common.{ap, ◌∙◌}
use Rattle.house.specs.Control.{rooted, survey}
use Rattle.house.proofs.control.Control.put_back.Goals as goal

pub returns : goal.returns
returns c = c.survey.ensures ∙ ap (survey (rooted c.args.root c.args.self.now)) c.start_row.ensures
