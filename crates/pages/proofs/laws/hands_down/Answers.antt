use Rattle.pages.proofs.Handing.{handed_down}
use Rattle.pages.proofs.laws.hands_down.Goals as goal

pub returns : goal.returns
returns g c = handed_down _ _
