use Rattle.house.proofs.MorningLaws.{morning_told}
use Rattle.house.proofs.laws.morning_goes_as_told.Goals as goal

pub returns : goal.returns
returns c = morning_told
