use Rattle.std.proofs.Common.{sym, ap, ◌∙◌, inl, inr}
use Rattle.house.specs.Control.{under_tip}
use Rattle.house.specs.Entry.{own_sum}
use Rattle.house.proofs.ControlSteps.{under_tip_else}
use Rattle.house.proofs.control.Control.under_tip.Goals as goal

pub returns-in-Status : goal.returns-in-Status
returns-in-Status c =
    let k = c.args.self.now in
    let m = c.args.memory.now in
    let root = c.args.root in
    let weight = c.args.weight in
    c.load_old.ensures ∙ elim c.in-Status.is [ inl e ↦ ap (under_tip own_sum k m root weight) (sym e) | inr e ↦ ap (under_tip own_sum k m root weight) (sym e) ]

pub returns-in-Leave : goal.returns-in-Leave
returns-in-Leave c = c.put_back.ensures ∙ ap (under_tip own_sum c.args.self.now c.args.memory.now c.args.root c.args.weight) (sym c.in-Leave.is)

pub returns-in-View : goal.returns-in-View
returns-in-View c = c.load_tree.ensures ∙ ap (under_tip own_sum c.args.self.now c.args.memory.now c.args.root c.args.weight) (sym c.in-View.is)

pub returns-in_default : goal.returns-in_default
returns-in_default c =
    let k = c.args.self.now in
    let n = c.in_default in
    under_tip_else own_sum k c.args.memory.now c.args.root c.args.weight k.task n.not-Status n.not-Note n.not-Leave n.not-View
