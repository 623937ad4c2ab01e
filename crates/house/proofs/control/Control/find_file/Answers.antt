use Rattle.std.proofs.Common.{ap, ◌∙◌}
use Rattle.trees.specs.Row.{entries_of, reference_in}
use Rattle.trees.specs.Tree.{found}
use Rattle.house.specs.Control.{opened, row_of}
use Rattle.house.proofs.control.Control.find_file.Goals as goal

pub returns : goal.returns
returns c =
    let m = c.args.memory.now in
    c.open.ensures m ∙ ap (opened c.args.self.now m) (c.find_key.ensures ∙ ap (λ x. reference_in (found (entries_of (row_of m)) x)) c.path_key-key.ensures)
