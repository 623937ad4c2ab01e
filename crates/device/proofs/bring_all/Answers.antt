use Rattle.std.proofs.Common.{arith}
use Rattle.std.proofs.lemmas.Grind.{common_steps}
use Rattle.pages.specs.Device.{all_written}
use Rattle.device.proofs.bring_all.Goals as goal

pub loop-write-preserved : goal.loop-write-preserved
unfolding all_written
loop-write-preserved c = grind (arith, common_steps)

pub returns : goal.returns
unfolding all_written
returns c = grind (arith, common_steps)
