use Rattle.std.proofs.Common.{refl}
use Rattle.store.specs.Sha256.{Maj}
use Rattle.store.proofs.words.maj.Goals as goal

pub returns : goal.returns
unfolding Maj
returns c = refl
