use Rattle.trees.proofs.RowOfLaws.{keys_ordered}
use Rattle.trees.proofs.laws.keys_are_ordered.Goals as goal

pub returns : goal.returns
returns c = keys_ordered
