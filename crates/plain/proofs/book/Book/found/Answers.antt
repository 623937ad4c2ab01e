use Rattle.std.proofs.Common.{ap, ◌∙◌}
use Rattle.plain.specs.Sides.{rows}
use Rattle.plain.proofs.FileLaws.{found_none}
use Rattle.plain.proofs.book.Book.found.Goals as goal

pub returns-in_err-tree : goal.returns-in_err-tree
returns-in_err-tree c = ap rows c.from_residual.ensures ∙ found_none _ c.args.path.now c.in_err-tree.ensures
