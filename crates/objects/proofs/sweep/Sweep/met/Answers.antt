use Rattle.std.proofs.Common.{sym, ap, ◌∙◌}
use Rattle.objects.specs.Marking.{stride}
use Rattle.objects.specs.Sweeping.{copying, marking}
use Rattle.objects.proofs.sweep.Sweep.met.Goals as goal

pub returns-in_default : goal.returns-in_default
returns-in_default c =
    c.copy_next.ensures ∙ ap (copying c.args.walk 0 c.args.from c.args.from 0) c.tally.ensures
    ∙ ap (λ q. marking c.args.from (stride c.args.walk c.args.memory.now q)) (sym c.in_default.is)
