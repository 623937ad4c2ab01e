use Rattle.std.proofs.Common.{arith}
use Rattle.std.proofs.lemmas.Bool.Decides.{nat_tests}
use Rattle.commands.specs.Parse.{one_row}
use Rattle.commands.proofs.reader.is_row.Goals as goal

pub returns-then-from-size : goal.returns-then-from-size
unfolding one_row
returns-then-from-size c = grind (arith, nat_tests)

pub returns-else-from-size : goal.returns-else-from-size
unfolding one_row
returns-else-from-size c = grind (arith, nat_tests)
