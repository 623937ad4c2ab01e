use Rattle.store.specs.Sha256.{σ₁}
use Rattle.store.proofs.words.small_sigma1.Goals as goal

pub returns : goal.returns
unfolding σ₁
returns c = cc
