use Rattle.store.proofs.BitLaws.{finds}
use Rattle.store.proofs.laws.finds_bits.Goals as goal

pub returns : goal.returns
returns c = finds
