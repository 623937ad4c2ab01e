use Rattle.history.proofs.GrowLaws.{grows_behind}
use Rattle.history.proofs.laws.grows_behind.Goals as goal

pub returns : goal.returns
returns c = grows_behind
