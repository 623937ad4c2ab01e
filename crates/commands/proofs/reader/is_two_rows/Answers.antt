use Rattle.std.proofs.Common.{arith}
use Rattle.std.proofs.lemmas.Bool.Decides.{nat_tests}
use Rattle.commands.specs.Parse.{two_rows}
use Rattle.commands.proofs.reader.is_two_rows.Goals as goal

pub returns-then-size-from : goal.returns-then-size-from
unfolding two_rows
returns-then-size-from c = grind (arith, nat_tests)

pub returns-else-size-from : goal.returns-else-size-from
unfolding two_rows
returns-else-size-from c = grind (arith, nat_tests)
