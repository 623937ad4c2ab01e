use Rattle.commands.specs.Laws.{ParsedRight}
use Rattle.commands.proofs.ParseLaws.{answered}
use Rattle.commands.proofs.laws.parsed_right.Goals as goal

pub returns : goal.returns
unfolding ParsedRight
returns c = answered
