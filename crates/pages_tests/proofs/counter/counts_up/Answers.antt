use Rattle.pages_tests.proofs.Counting.{counts_up}
use Rattle.pages_tests.proofs.counter.counts_up.Goals as goal

pub returns : goal.returns
returns c = counts_up
