use Rattle.objects.proofs.MarkLaws.{marks}
use Rattle.objects.proofs.laws.marks_what_is_live.Goals as goal

pub returns : goal.returns
returns g c = marks _ _
