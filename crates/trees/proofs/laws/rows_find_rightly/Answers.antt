use Rattle.trees.proofs.RowOfLaws.{finds_right}
use Rattle.trees.proofs.laws.rows_find_rightly.Goals as goal

pub returns : goal.returns
returns c = finds_right
