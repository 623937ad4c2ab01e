use Rattle.std.proofs.Common.{refl}
use Rattle.store.specs.Sha256.{Ch}
use Rattle.store.proofs.words.ch.Goals as goal

pub returns : goal.returns
unfolding Ch
returns c = refl
