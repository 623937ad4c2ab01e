use Rattle.std.proofs.Common.{◌≡◌, take}
use Rattle.objects.proofs.MarkLaws.{with_front}
use Rattle.objects.proofs.mark.mark_references.Given as goal

abbrev pub invariant-loop-reference : goal.invariant-loop-reference
invariant-loop-reference l = l.behind ≡ with_front l.first (take l.reference-index l.reference-items) l.initial.behind
