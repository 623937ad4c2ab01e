use Rattle.pages.proofs.DeviceLaws.{flushed_stays}
use Rattle.pages.proofs.laws.flushed_stays.Goals as goal

pub returns : goal.returns
returns c = flushed_stays
