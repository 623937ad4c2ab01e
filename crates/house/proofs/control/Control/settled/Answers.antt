use Rattle.std.proofs.Common.{sym, ap, ap₂, ◌∙◌}
use Rattle.house.specs.Control.{publish, settled}
use Rattle.house.proofs.ControlSteps.{settled_else}
use Rattle.house.proofs.control.Control.settled.Goals as goal

pub returns-in-Write : goal.returns-in-Write
returns-in-Write c = let k = c.args.self.now in c.settle_file.ensures ∙ ap (settled k k.walk c.args.memory.now) (sym c.in-Write.is)

pub returns-in-Note : goal.returns-in-Note
returns-in-Note c = let k = c.args.self.now in c.settle_commit.ensures ∙ ap (settled k k.walk c.args.memory.now) (sym c.in-Note.is)

pub returns-in-Leave : goal.returns-in-Leave
returns-in-Leave c =
    let k = c.args.self.now in
    c.publish.ensures ∙ ap₂ (λ page tip. publish k c.args.memory.now page k.root tip) c.head_word-page.ensures c.head_word-tip.ensures
    ∙ ap (settled k k.walk c.args.memory.now) (sym c.in-Leave.is)

pub returns-in_default : goal.returns-in_default
returns-in_default c = let k = c.args.self.now in settled_else k k.walk c.args.memory.now k.task c.in_default.not-Write c.in_default.not-Note c.in_default.not-Leave
