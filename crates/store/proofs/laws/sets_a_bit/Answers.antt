use Rattle.store.proofs.BitLaws.{bits_set}
use Rattle.store.proofs.laws.sets_a_bit.Goals as goal

pub returns : goal.returns
returns c = bits_set
