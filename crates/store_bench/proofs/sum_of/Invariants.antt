use Rattle.std.proofs.Common.{◌≡◌, length}
use Rattle.store_bench.proofs.sum_of.Given as goal

abbrev pub invariant-loop : goal.invariant-loop
invariant-loop l = length l.piece ≡ 65536
