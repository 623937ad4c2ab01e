use Rattle.history.proofs.ChainLaws.{chain_log}
use Rattle.history.proofs.laws.logs_of_single_parents.Goals as goal

pub returns : goal.returns
returns c = chain_log
