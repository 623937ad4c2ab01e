use Rattle.std.proofs.Common.{◌∙◌}
use Rattle.objects.specs.declared.sweep.Stage.TheVariants.{Marking, Copying, Laying, Closing, Publishing}
use Rattle.objects.proofs.SweepSteps.{went_on_at, went_on_short}
use Rattle.objects.proofs.sweep.Sweep.go_on.Goals as goal

pub returns-then-memory-lt-END : goal.returns-then-memory-lt-END
returns-then-memory-lt-END c = went_on_short c.args.self.now c.args.memory.now c.if-memory-lt-END.true

pub returns-in-Marking : goal.returns-in-Marking
returns-in-Marking c = c.meet.ensures ∙ went_on_at c.args.self.now c.args.memory.now Marking c.if-memory-lt-END.false c.in-Marking.is

pub returns-in-Copying : goal.returns-in-Copying
returns-in-Copying c = c.copy.ensures ∙ went_on_at c.args.self.now c.args.memory.now Copying c.if-memory-lt-END.false c.in-Copying.is

pub returns-in-Laying : goal.returns-in-Laying
returns-in-Laying c = c.copy_next.ensures ∙ went_on_at c.args.self.now c.args.memory.now Laying c.if-memory-lt-END.false c.in-Laying.is

pub returns-in-Closing : goal.returns-in-Closing
returns-in-Closing c = c.publish.ensures ∙ went_on_at c.args.self.now c.args.memory.now Closing c.if-memory-lt-END.false c.in-Closing.is

pub returns-in-Publishing : goal.returns-in-Publishing
returns-in-Publishing c = went_on_at c.args.self.now c.args.memory.now Publishing c.if-memory-lt-END.false c.in-Publishing.is
