use Rattle.std.proofs.Common.{ap}
use Rattle.pages.specs.Machine.{asked}
use Rattle.house.proofs.ControlSteps.{no_tip, some_tip}
use Rattle.house.proofs.control.Control.look_into.Goals as goal

pub returns-then-tip-eq0 : goal.returns-then-tip-eq0
returns-then-tip-eq0 c =
    let k = c.args.self.now in
    let m = c.args.memory.now in
    no_tip m c.head_word-tip.result _ _ _ c.head_word-tip.ensures c.if-tip-eq0.true (ap (asked k m) c.refuse.ensures)

pub returns : goal.returns
returns c =
    let m = c.args.memory.now in
    some_tip c.args.self.now m c.head_word-tip.result _ _ c.head_word-tip.ensures c.if-tip-eq0.false (c.ask.ensures m)
