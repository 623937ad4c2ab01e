use Rattle.std.proofs.Common.{ap}
use Rattle.pages.specs.Machine.{asked}
use Rattle.pages.specs.declared.machine.Request.TheVariants.{Publish}
use Rattle.house.specs.Control.{at_phase}
use Rattle.house.specs.declared.control.Phase.TheVariants.{Publishing}
use Rattle.house.proofs.control.Control.publish.Goals as goal

pub returns : goal.returns
returns c = ap (λ m. asked (at_phase Publishing c.args.self.now) m Publish) c.put_head.ensures
