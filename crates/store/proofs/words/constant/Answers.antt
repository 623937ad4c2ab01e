use Rattle.std.proofs.Common.{refl}
use Rattle.store.specs.Sha256.{K}
use Rattle.store.proofs.words.constant.Goals as goal

pub returns : goal.returns
unfolding K
returns c = refl
