use Rattle.pages.proofs.Crash.{runs_well}
use Rattle.pages.proofs.laws.runs_well.Goals as goal

pub returns : goal.returns
returns g c = runs_well _ _
