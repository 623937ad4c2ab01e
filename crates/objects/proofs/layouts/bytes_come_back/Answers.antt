use Rattle.objects.proofs.LayoutLaws.{bytes_back}
use Rattle.objects.proofs.layouts.bytes_come_back.Goals as goal

pub returns : goal.returns
returns c = bytes_back
