use Rattle.history.proofs.BackLaws.{latest_right}
use Rattle.history.proofs.laws.latest_common_is_right.Goals as goal

pub returns : goal.returns
returns c = latest_right
