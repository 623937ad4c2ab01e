use Rattle.std.proofs.Common.{sym, ap, ◌∙◌}
use Rattle.pages.specs.Machine.{asked}
use Rattle.pages.proofs.ListLaws.{pick_true, pick_false}
use Rattle.trees.specs.Row.{entries_of}
use Rattle.trees.specs.Tree.{same_tree}
use Rattle.house.specs.Control.{old_row_of, row_of}
use Rattle.house.proofs.control.Control.changed.Goals as goal

pub returns-then-same : goal.returns-then-same
returns-then-same c =
    let m = c.args.memory.now in
    ap (asked c.args.self.now m) c.refuse.ensures
    ∙ sym (pick_true (same_tree (entries_of (old_row_of m)) (entries_of (row_of m))) _ _ (sym c.same.ensures ∙ c.if-same.true))

pub returns : goal.returns
returns c =
    let m = c.args.memory.now in
    c.sum_next.ensures ∙ sym (pick_false (same_tree (entries_of (old_row_of m)) (entries_of (row_of m))) _ _ (sym c.same.ensures ∙ c.if-same.false))
