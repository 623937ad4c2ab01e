use Rattle.std.proofs.Common.{◌≡◌, drop}
use Rattle.plain.specs.Replies.{first_number}
use Rattle.plain.proofs.refusal.first_of.Given as goal

-- what is left gives it
abbrev pub invariant-loop-holds : goal.invariant-loop-holds
invariant-loop-holds l = first_number (drop l.holds-index l.conditions) ≡ first_number l.conditions
