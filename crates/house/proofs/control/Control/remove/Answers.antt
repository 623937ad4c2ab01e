use Rattle.std.proofs.Common.{sym, ◌∙◌}
use Rattle.house.specs.Entry.{own_sum}
use Rattle.house.proofs.ControlSteps.{take_none, take_some}
use Rattle.house.proofs.control.Control.remove.Goals as goal

pub returns-then-not-take_key : goal.returns-then-not-take_key
returns-then-not-take_key c =
    take_none own_sum c.args.self.now c.args.memory.now c.take_key.new.row c.path_key-key.result c.entry_weight-weight.result c.refuse.result c.requires c.take_key.auto.row
    c.take_key.ensures.after c.path_key-key.ensures (sym c.take_key.ensures.answer ∙ c.if-not-take_key.true) c.refuse.ensures

pub returns : goal.returns
returns c =
    take_some own_sum c.args.self.now c.args.memory.now c.take_key.new.row c.path_key-key.result c.entry_weight-weight.result c.head_word.result _ c.requires c.take_key.auto.row
    c.take_key.ensures.after c.path_key-key.ensures c.entry_weight-weight.ensures (sym c.take_key.ensures.answer ∙ c.if-not-take_key.false) c.head_word.ensures c.lay_tree.ensures
