use Rattle.trees.proofs.RowOfLaws.{takes_right}
use Rattle.trees.proofs.laws.rows_take_rightly.Goals as goal

pub returns : goal.returns
returns c = takes_right
