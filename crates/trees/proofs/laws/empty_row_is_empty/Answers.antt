use Rattle.trees.proofs.RowOfLaws.{empty_right}
use Rattle.trees.proofs.laws.empty_row_is_empty.Goals as goal

pub returns : goal.returns
returns c = empty_right
