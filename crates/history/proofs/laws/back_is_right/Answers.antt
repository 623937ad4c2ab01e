use Rattle.history.proofs.BackLaws.{back_right}
use Rattle.history.proofs.laws.back_is_right.Goals as goal

pub returns : goal.returns
returns c = back_right
