use Rattle.std.proofs.Common.{refl}
use Rattle.store.specs.Sha256.{initial}
use Rattle.store.proofs.Adding.{added_none}
use Rattle.store.proofs.hasher.Hasher.new.Goals as goal

pub returns : goal.returns
unfolding initial
returns c = record { value = refl; fed = added_none }
