use Rattle.store.proofs.Sums.{pads_least, pads_whole}
use Rattle.store.proofs.laws.pads_rightly.Goals as goal

pub returns : goal.returns
returns c = record { least = pads_least; whole = pads_whole }
