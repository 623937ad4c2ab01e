use Rattle.history.proofs.LogLaws.{log_order}
use Rattle.history.proofs.laws.log_is_in_order.Goals as goal

pub returns : goal.returns
returns c = log_order
