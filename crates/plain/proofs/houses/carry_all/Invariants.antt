use Rattle.plain.specs.Grown.{Grown}
use Rattle.plain.proofs.houses.carry_all.Given as goal

abbrev pub invariant-loop-k : goal.invariant-loop-k
invariant-loop-k l = Grown l.initial.book.commits.items l.book.commits.items
