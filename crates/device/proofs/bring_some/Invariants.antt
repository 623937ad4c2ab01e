use Rattle.std.proofs.Common.{◌≡◌}
use Rattle.std.specs.Iterator.Adapters.{zip_first, zip_second}
use Rattle.std.specs.Slice.Iter.{iter_rest}
use Rattle.pages.specs.Device.{left}
use Rattle.pages.specs.Lists.{each}
use Rattle.device.specs.Held.{meant}
use Rattle.device.specs.Left.{code}
use Rattle.device.proofs.bring_some.Given as goal

-- what is still to come leaves on these pages what all leaves on those at the start
abbrev pub invariant-loop-write : goal.invariant-loop-write
invariant-loop-write l =
    left l.pages (each meant (iter_rest (zip_first l.write-iterator))) (each code (iter_rest (zip_second l.write-iterator)))
    ≡ left l.initial.pages (each meant l.queue) (each code l.left)
