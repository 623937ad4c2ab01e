use Rattle.objects.proofs.CountLaws.{sets_counted}
use Rattle.objects.proofs.laws.counts_what_is_set.Goals as goal

pub returns : goal.returns
returns c = sets_counted
