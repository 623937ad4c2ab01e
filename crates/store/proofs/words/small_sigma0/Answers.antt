use Rattle.store.specs.Sha256.{σ₀}
use Rattle.store.proofs.words.small_sigma0.Goals as goal

pub returns : goal.returns
unfolding σ₀
returns c = cc
