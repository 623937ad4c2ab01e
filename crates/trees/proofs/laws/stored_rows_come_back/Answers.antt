use Rattle.trees.proofs.BackAgain.{stored_right}
use Rattle.trees.proofs.laws.stored_rows_come_back.Goals as goal

pub returns : goal.returns
returns c = stored_right
