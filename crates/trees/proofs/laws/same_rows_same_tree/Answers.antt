use Rattle.trees.proofs.RowOfLaws.{same_right}
use Rattle.trees.proofs.laws.same_rows_same_tree.Goals as goal

pub returns : goal.returns
returns c = same_right
