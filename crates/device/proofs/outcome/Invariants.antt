use Rattle.std.proofs.Common.{◌≡◌, ◌-◌, ◌++◌}
use Rattle.pages.specs.Lists.{each}
use Rattle.device.specs.Left.{code, digits}
use Rattle.device.proofs.outcome.Given as goal

-- what is there, and the digits that are still to come
abbrev pub invariant-loop : goal.invariant-loop
invariant-loop l = each code l.left.items ++ digits (l.waiting - l.counter) l.rest ≡ digits l.waiting l.number
