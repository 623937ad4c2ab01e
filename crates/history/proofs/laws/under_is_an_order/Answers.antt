use Rattle.history.proofs.BackLaws.{under_right}
use Rattle.history.proofs.laws.under_is_an_order.Goals as goal

pub returns : goal.returns
returns c = under_right
