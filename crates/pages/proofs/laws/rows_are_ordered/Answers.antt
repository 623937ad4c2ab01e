use Rattle.pages.proofs.ListLaws.{rows_ordered}
use Rattle.pages.proofs.laws.rows_are_ordered.Goals as goal

pub returns : goal.returns
returns c = rows_ordered
