use Rattle.store.proofs.Sums.{constants_are_roots}
use Rattle.store.proofs.laws.constants_are_roots.Goals as goal

pub returns : goal.returns
returns c = constants_are_roots
