use Rattle.commands.proofs.ParseLaws.{spelled_once}
use Rattle.commands.proofs.laws.spelled_once.Goals as goal

pub returns : goal.returns
returns c = spelled_once
