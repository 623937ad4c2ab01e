use Rattle.std.proofs.Common.{sym, ◌∙◌}
use Rattle.house.proofs.ControlSteps.{is_zero, not_zero}
use Rattle.house.proofs.control.Control.log_from.Goals as goal

pub returns-then-reference-eq0 : goal.returns-then-reference-eq0
returns-then-reference-eq0 c = λ m. sym (is_zero c.args.reference _ _ c.if-reference-eq0.true)

pub returns : goal.returns
returns c = λ m. c.ask.ensures m ∙ sym (not_zero c.args.reference _ _ c.if-reference-eq0.false)
