use Rattle.objects.proofs.CountLaws.{counts_right}
use Rattle.objects.proofs.laws.counts_rightly.Goals as goal

pub returns : goal.returns
returns c = counts_right
