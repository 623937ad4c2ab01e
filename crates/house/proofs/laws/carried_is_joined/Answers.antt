use Rattle.house.proofs.CarryLaws.{carried_joined}
use Rattle.house.proofs.laws.carried_is_joined.Goals as goal

pub returns : goal.returns
returns c = carried_joined
