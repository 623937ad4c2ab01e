use Rattle.store.specs.Sha256.{Σ₀}
use Rattle.store.proofs.words.big_sigma0.Goals as goal

pub returns : goal.returns
unfolding Σ₀
returns c = cc
