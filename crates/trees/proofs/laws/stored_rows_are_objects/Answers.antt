use Rattle.trees.proofs.ObjectLaws.{stored_objects}
use Rattle.trees.proofs.laws.stored_rows_are_objects.Goals as goal

pub returns : goal.returns
returns c = stored_objects
