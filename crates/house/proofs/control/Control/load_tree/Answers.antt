use Rattle.std.proofs.Common.{sym, ap, ◌∙◌}
use Rattle.house.specs.Control.{loaded}
use Rattle.house.specs.Entry.{own_sum}
use Rattle.house.proofs.ControlSteps.{is_zero, not_zero}
use Rattle.house.proofs.control.Control.load_tree.Goals as goal

pub returns-then-root-eq0 : goal.returns-then-root-eq0
returns-then-root-eq0 c =
    let k = c.args.self.now in c.loaded.ensures ∙ ap (λ x. loaded own_sum k x k.task) c.empty_row.ensures ∙ sym (is_zero c.args.root _ _ c.if-root-eq0.true)

pub returns : goal.returns
returns c = c.ask.ensures c.args.memory.now ∙ sym (not_zero c.args.root _ _ c.if-root-eq0.false)
