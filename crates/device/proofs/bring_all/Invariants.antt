use Rattle.std.proofs.Common.{◌≡◌, drop}
use Rattle.pages.specs.Device.{all_written}
use Rattle.pages.specs.Lists.{each}
use Rattle.device.specs.Held.{meant}
use Rattle.device.proofs.bring_all.Given as goal

abbrev pub invariant-loop-write : goal.invariant-loop-write
invariant-loop-write l = all_written l.pages (each meant (drop l.write-index l.queue)) ≡ all_written l.initial.pages (each meant l.queue)
