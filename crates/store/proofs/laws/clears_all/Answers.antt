use Rattle.store.proofs.BitLaws.{all_clear}
use Rattle.store.proofs.laws.clears_all.Goals as goal

pub returns : goal.returns
returns c = all_clear
