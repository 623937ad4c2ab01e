use Rattle.objects.proofs.PartLaws.{parts_stay}
use Rattle.objects.proofs.laws.parts_stay.Goals as goal

pub returns : goal.returns
returns c = parts_stay
