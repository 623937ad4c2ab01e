use Rattle.trees.proofs.JoinLaws.{files_found}
use Rattle.trees.proofs.laws.files_are_found.Goals as goal

pub returns : goal.returns
returns c = files_found
