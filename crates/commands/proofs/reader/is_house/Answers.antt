use Rattle.std.proofs.Common.{arith}
use Rattle.std.proofs.lemmas.Bool.Decides.{nat_tests}
use Rattle.commands.specs.Parse.{one_house}
use Rattle.commands.proofs.reader.is_house.Goals as goal

pub returns-then-text-eq8 : goal.returns-then-text-eq8
unfolding one_house
returns-then-text-eq8 c = grind (arith, nat_tests)

pub returns-else-text-eq8 : goal.returns-else-text-eq8
unfolding one_house
returns-else-text-eq8 c = grind (arith, nat_tests)
