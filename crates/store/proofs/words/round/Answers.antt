use Rattle.store.specs.Sha256.{round}
use Rattle.store.proofs.words.round.Goals as goal

pub returns : goal.returns
unfolding round
returns c = cc
