use Rattle.std.proofs.Common.{None, sym, ap, ◌∙◌}
use Rattle.pages.proofs.ListLaws.{pick_true, pick_false}
use Rattle.trees.specs.Tree.{found}
use Rattle.trees.specs.Row.{entries_of, find_in, good_path, key_of, reference_in}
use Rattle.trees.proofs.RowLaws.{key_some, key_none}
use Rattle.trees.proofs.rows.find.Goals as goal

pub returns-in_err-key : goal.returns-in_err-key
unfolding find_in
returns-in_err-key c =
    let p = c.args.path.now in
    c.from_residual.ensures
    ∙ sym (pick_false (good_path p) (reference_in (found (entries_of c.args.row.now) (key_of p))) None (key_none (good_path p) (key_of p) c.in_err-key.ensures))

pub returns : goal.returns
unfolding find_in
returns c =
    let p = c.args.path.now in let ws = c.args.row.now in
    let k = key_some (good_path p) c.in_ok-key.field-0 (key_of p) c.in_ok-key.ensures in
    c.find_key.ensures ∙ ap (λ x. reference_in (found (entries_of ws) x)) k.1
    ∙ sym (pick_true (good_path p) (reference_in (found (entries_of ws) (key_of p))) None k.0)
