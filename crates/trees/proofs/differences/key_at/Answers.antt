use Rattle.std.proofs.Common.{sym, arith}
use Rattle.trees.specs.Row.{path_of}
use Rattle.trees.proofs.ShowLaws.{path_none}
use Rattle.trees.proofs.differences.key_at.Goals as goal

pub returns-in_default : goal.returns-in_default
unfolding path_of
returns-in_default c = sym (path_none c.args.row.now c.args.i (omega (arith, c.in_default.ensures)))
