use Rattle.std.proofs.Common.{ap, ◌∙◌}
use Rattle.house.specs.Control.{publish}
use Rattle.house.proofs.ControlSteps.{no_tip, some_tip}
use Rattle.house.proofs.control.Control.leave.Goals as goal

pub returns-then-tip-eq0 : goal.returns-then-tip-eq0
returns-then-tip-eq0 c =
    let k = c.args.self.now in
    let m = c.args.memory.now in
    no_tip m c.head_word-tip.result _ _ _ c.head_word-tip.ensures c.if-tip-eq0.true (c.publish.ensures ∙ ap (λ p. publish k m p 0 0) c.head_word-page.ensures)

pub returns : goal.returns
returns c =
    let m = c.args.memory.now in
    some_tip c.args.self.now m c.head_word-tip.result _ _ c.head_word-tip.ensures c.if-tip-eq0.false (c.ask.ensures m)
