use Rattle.pages.proofs.Sound.{on_the_device}
use Rattle.pages.proofs.laws.goes_on_the_device.Goals as goal

pub returns : goal.returns
returns g c = on_the_device _ _
