use Rattle.house.proofs.FineLaws.{stays_fine}
use Rattle.house.proofs.laws.houses_stay_fine.Goals as goal

pub returns : goal.returns
returns c = stays_fine
