use Rattle.trees.proofs.RowOfLaws.{puts_right}
use Rattle.trees.proofs.laws.rows_put_rightly.Goals as goal

pub returns : goal.returns
returns c = puts_right
