use Rattle.std.proofs.Common.{◌≡◌, ◌+◌, length, take}
use Rattle.pages.specs.Lists.{flat}
use Rattle.pages.specs.Words.{over}
use Rattle.trees.specs.Packed.{packed}
use Rattle.trees.proofs.stored.pack_all.Given as goal

abbrev pub invariant-loop-entry : goal.invariant-loop-entry
invariant-loop-entry l =
    (l.at ≡ l.start + length (flat packed (take l.entry-index l.entries))) × (l.out ≡ over l.start (flat packed (take l.entry-index l.entries)) l.initial.out)
