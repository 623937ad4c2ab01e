use Rattle.std.proofs.Common.{sym, ◌∙◌, ap₂}
use Rattle.objects.specs.Marking.{sought}
use Rattle.objects.proofs.MarkLaws.{went_on_is, went_on_short}
use Rattle.objects.proofs.mark.Walk.go_on.Goals as goal

pub returns-then-memory-lt-END : goal.returns-then-memory-lt-END
returns-then-memory-lt-END c = sym (went_on_short c.args.self.now c.args.memory.now c.if-memory-lt-END.true)

pub returns : goal.returns
returns c =
    c.seek.ensures ∙ ap₂ sought c.meet.ensures.walk c.meet.ensures.memory ∙ sym (went_on_is c.args.self.now c.args.memory.now c.if-memory-lt-END.false)
