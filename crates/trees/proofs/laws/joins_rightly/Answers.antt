use Rattle.trees.proofs.JoinLaws.{joined_right}
use Rattle.trees.proofs.laws.joins_rightly.Goals as goal

pub returns : goal.returns
returns c = joined_right
