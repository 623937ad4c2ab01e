use Rattle.house.proofs.TurnLaws.{houses_apart}
use Rattle.house.proofs.laws.houses_are_apart.Goals as goal

pub returns : goal.returns
returns c = houses_apart
