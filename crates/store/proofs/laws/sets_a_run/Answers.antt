use Rattle.store.proofs.BitLaws.{run_set}
use Rattle.store.proofs.laws.sets_a_run.Goals as goal

pub returns : goal.returns
returns c = run_set
