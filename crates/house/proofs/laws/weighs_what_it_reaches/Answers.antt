use Rattle.house.proofs.WeightLaws.{weight_by_reach}
use Rattle.house.proofs.laws.weighs_what_it_reaches.Goals as goal

pub returns : goal.returns
returns c = weight_by_reach
