use Rattle.store.proofs.Sums.{gives_bytes}
use Rattle.store.proofs.laws.gives_bytes.Goals as goal

pub returns : goal.returns
returns c = gives_bytes
