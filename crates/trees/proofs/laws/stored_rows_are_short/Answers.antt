use Rattle.trees.proofs.ObjectLaws.{stored_bytes}
use Rattle.trees.proofs.laws.stored_rows_are_short.Goals as goal

pub returns : goal.returns
returns c = stored_bytes
