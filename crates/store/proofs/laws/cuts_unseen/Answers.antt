use Rattle.store.proofs.Sums.{cuts_unseen}
use Rattle.store.proofs.laws.cuts_unseen.Goals as goal

pub returns : goal.returns
returns c = cuts_unseen
