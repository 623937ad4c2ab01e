use Rattle.house.proofs.WeightLaws.{reach_once}
use Rattle.house.proofs.laws.reached_once.Goals as goal

pub returns : goal.returns
returns c = reach_once
