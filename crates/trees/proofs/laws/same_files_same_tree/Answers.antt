use Rattle.trees.proofs.JoinLaws.{one_tree}
use Rattle.trees.proofs.laws.same_files_same_tree.Goals as goal

pub returns : goal.returns
returns c = one_tree
