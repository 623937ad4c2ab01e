use Rattle.std.proofs.Common.{◌≡◌, ◌+◌, ◌*◌, Some, sym, ap, ◌∙◌, arith}
use Rattle.pages.specs.Machine.{capped}
use Rattle.pages.specs.declared.machine.Request.TheVariants.{Object}
use Rattle.objects.specs.Marking.{glance, stride, sought_at, walk}
use Rattle.objects.proofs.MarkLaws.{sought_is, sought_short}
use Rattle.objects.proofs.mark.Walk.seek.Goals as goal

pub returns-then-memory-lt-END : goal.returns-then-memory-lt-END
returns-then-memory-lt-END c = sym (sought_short c.args.self.now c.args.memory.now c.if-memory-lt-END.true)

pub returns-in_default : goal.returns-in_default
returns-in_default c =
    let w = c.args.self.now in
    let m = c.args.memory.now in
    sym (sought_is w m c.if-memory-lt-END.false ∙ ap (sought_at w m) (sym c.highest_below.ensures ∙ c.in_default.is))

pub returns : goal.returns
returns c =
    let w = c.args.self.now in
    let m = c.args.memory.now in
    let u = c.in-Some.unit in
    let e : c.saturating_mul.result ≡ capped (8 * capped (w.first + u)) = omega arith in
    ap (λ x. stride (walk w.first u w.weight w.kind w.key w.found) m (Some (Object x glance))) e
    ∙ sym (sought_is w m c.if-memory-lt-END.false ∙ ap (sought_at w m) (sym c.highest_below.ensures ∙ c.in-Some.is))
