use Rattle.std.proofs.Common.{◌≡◌, ◌++◌}
use Rattle.pages.specs.Lists.{zeros}
use Rattle.pages.specs.Words.{over, words}
use Rattle.objects.proofs.layouts.put_bytes.Given as goal

abbrev pub invariant-loop-i : goal.invariant-loop-i
invariant-loop-i l = l.memory ≡ over l.at (words l.i (l.bytes ++ zeros 7)) l.initial.memory
