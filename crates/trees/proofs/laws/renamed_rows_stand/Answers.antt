use Rattle.trees.proofs.ObjectLaws.{renamed_right}
use Rattle.trees.proofs.laws.renamed_rows_stand.Goals as goal

pub returns : goal.returns
returns c = renamed_right
