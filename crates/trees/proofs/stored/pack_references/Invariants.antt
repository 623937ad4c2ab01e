use Rattle.std.proofs.Common.{◌≡◌, get_or, take}
use Rattle.pages.specs.Lists.{each}
use Rattle.pages.specs.Words.{over}
use Rattle.trees.proofs.stored.pack_references.Given as goal

abbrev pub invariant-loop-i : goal.invariant-loop-i
invariant-loop-i l = l.out ≡ over 2 (each (λ e. get_or e 9 0) (take l.i l.entries)) l.initial.out
