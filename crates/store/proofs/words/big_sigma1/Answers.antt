use Rattle.store.specs.Sha256.{Σ₁}
use Rattle.store.proofs.words.big_sigma1.Goals as goal

pub returns : goal.returns
unfolding Σ₁
returns c = cc
