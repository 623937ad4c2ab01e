use Rattle.std.proofs.Common.{◌≡◌, take}
use Rattle.house.proofs.ControlLaws.{marked_by}
use Rattle.house.proofs.desk.mark_files.Given as goal

abbrev pub invariant-loop-entry : goal.invariant-loop-entry
invariant-loop-entry l = l.front ≡ marked_by l.first (take l.entry-index l.entry-items) l.initial.front
