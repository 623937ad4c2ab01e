use Rattle.std.proofs.Common.{◌≡◌, ◌-◌, length, drop}
use Rattle.pages.specs.Lists.{each}
use Rattle.trees.specs.Row.{as_entry}
use Rattle.trees.specs.Differ.{first_difference}
use Rattle.trees.proofs.differences.differ.Given as goal

-- what is left gives it
abbrev pub invariant-loop-i : goal.invariant-loop-i
invariant-loop-i l = first_difference (drop l.i (each as_entry l.old)) (drop l.j (each as_entry l.new)) l.i l.j
    ≡ first_difference (drop l.initial.i (each as_entry l.old)) (drop l.initial.j (each as_entry l.new)) l.initial.i l.initial.j

abbrev pub decreases-loop-i : goal.decreases-loop-i
decreases-loop-i l = length l.old - l.i
