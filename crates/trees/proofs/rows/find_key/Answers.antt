use Rattle.std.proofs.Common.{◌∙◌}
use Rattle.trees.proofs.EntryLaws.{reference_at, reference_none}
use Rattle.trees.proofs.rows.find_key.Goals as goal

pub returns-in_err-at : goal.returns-in_err-at
returns-in_err-at c = c.from_residual.ensures ∙ reference_none c.args.key.now c.args.row.now _ c.entries-entries.ensures.is c.in_err-at.ensures

pub returns : goal.returns
returns c = reference_at c.args.key.now c.args.row.now _ _ c.entries-entries.ensures.is c.in_ok-at.ensures
