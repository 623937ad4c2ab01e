use Rattle.std.proofs.Common.{ap, ◌∙◌}
use Rattle.objects.specs.Sweeping.{swung}
use Rattle.house.specs.Control.{again, sweeping}
use Rattle.house.proofs.control.Control.sweep_on.Goals as goal

pub returns : goal.returns
returns c = let k = c.args.self.now in c.swept.ensures c.go_on-request.new.memory ∙ ap (swung (sweeping k) (again k)) c.go_on-request.ensures
