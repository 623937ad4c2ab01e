use Rattle.pages.proofs.DeviceLaws.{byte_stays}
use Rattle.pages.proofs.laws.byte_stays.Goals as goal

pub returns : goal.returns
returns c = byte_stays
