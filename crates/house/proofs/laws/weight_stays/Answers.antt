use Rattle.house.proofs.WeightLaws.{weight_stays}
use Rattle.house.proofs.laws.weight_stays.Goals as goal

pub returns : goal.returns
returns c = weight_stays
