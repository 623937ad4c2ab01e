use Rattle.trees.proofs.JoinLaws.{one_side}
use Rattle.trees.proofs.laws.one_side_is_taken.Goals as goal

pub returns : goal.returns
returns c = one_side
