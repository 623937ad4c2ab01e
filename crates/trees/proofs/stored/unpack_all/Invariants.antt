use Rattle.std.proofs.Common.{◌≡◌, ◌+◌, ◌-◌, ◌*◌, ◌≤◌, ◌++◌, drop}
use Rattle.trees.specs.Row.{cut}
use Rattle.trees.specs.Packed.{unpacked_all}
use Rattle.trees.proofs.stored.unpack_all.Given as goal

-- what is spread and what is left are all of it
abbrev pub invariant-loop-i : goal.invariant-loop-i
invariant-loop-i l =
    (l.at ≤ 3 + l.n + 9 * l.i)
    × (cut l.i l.body ++ unpacked_all (l.n - l.i) (drop l.i (drop 2 l.stored)) (drop l.at l.stored) ≡ unpacked_all l.n (drop 2 l.stored) (drop (3 + l.n) l.stored))
    × (drop (10 * l.i) l.body ≡ drop (10 * l.i) l.initial.body)
