use Rattle.std.proofs.Common.{ℕ, List, ◌++◌, take}
use Rattle.pages.specs.Lists.{each}
use Rattle.store.specs.Running.{Fed}
use Rattle.trees.specs.Row.{as_entry}
use Rattle.house.specs.Control.{files_spelled}
use Rattle.house.proofs.spelling.add_entries.Given as goal

abbrev pub invariant-loop-i : goal.invariant-loop-i
invariant-loop-i l = (x : List ℕ) → Fed l.initial.hasher x → Fed l.hasher (x ++ files_spelled (each as_entry (take l.i l.entries)) l.sums)
