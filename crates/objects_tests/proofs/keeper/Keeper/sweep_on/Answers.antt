use Rattle.std.proofs.Common.{ap, ◌∙◌}
use Rattle.objects.specs.Sweeping.{swung}
use Rattle.objects_tests.specs.Keeper.{sweeping, swept}
use Rattle.objects_tests.proofs.keeper.Keeper.sweep_on.Goals as goal

pub returns : goal.returns
returns c =
    let w = c.args.self.now.walk in
    c.swept.ensures c.go_on-request.new.memory ∙ ap (swung (sweeping w) (swept w)) c.go_on-request.ensures
