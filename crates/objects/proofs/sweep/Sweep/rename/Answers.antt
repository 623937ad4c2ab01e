use Rattle.std.proofs.Common.{set, ap, ◌∙◌, arith}
use Rattle.objects.proofs.PackSteps.{renamed_more}
use Rattle.objects.proofs.sweep.Sweep.rename.Goals as goal

pub loop-i-preserved : goal.loop-i-preserved
loop-i-preserved c =
    ap (set c.loop-i.memory c.loop-i.i) c.new_name.ensures
    ∙ renamed_more c.args.self.now.walk.first c.args.self.now.from c.args.at c.loop-i.i c.args.memory.now c.loop-i.memory c.requires.0 (omega arith) (omega arith)
    c.loop-i.invariant
