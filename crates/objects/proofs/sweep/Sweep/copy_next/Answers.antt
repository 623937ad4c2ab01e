use Rattle.std.proofs.Common.{Some}
use Rattle.objects.specs.Sweeping.{swing}
use Rattle.objects.proofs.SweepSteps.{copying_none}
use Rattle.objects.proofs.sweep.Sweep.copy_next.Goals as goal

pub returns-in_default : goal.returns-in_default
returns-in_default c =
    let s = c.args.self.now in
    copying_none s.walk s.at s.from s.page s.waiting c.args.memory.now c.lowest_from.result c.requires c.lowest_from.ensures c.in_default.is
    (swing c.close.new.self c.close.new.memory (Some c.close.result)) c.close.ensures
