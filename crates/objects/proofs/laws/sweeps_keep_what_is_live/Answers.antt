use Rattle.objects.proofs.SweepLaws.{sweeps}
use Rattle.objects.proofs.laws.sweeps_keep_what_is_live.Goals as goal

pub returns : goal.returns
returns g c = sweeps _ _
