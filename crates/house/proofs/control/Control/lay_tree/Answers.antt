use Rattle.house.specs.Control.{row_of}
use Rattle.house.proofs.ControlSteps.{tree_words, tree_none, tree_some}
use Rattle.house.proofs.control.Control.lay_tree.Goals as goal

pub returns-in_default : goal.returns-in_default
returns-in_default c =
    tree_none c.args.self.now c.args.memory.now c.squeeze_row.new.memory c.args.page c.squeeze_row.result c.refuse.result c.in_default.is c.squeeze_row.ensures.answer
    c.squeeze_row.ensures.memory c.refuse.ensures

pub lay-requires : goal.lay-requires
lay-requires c = tree_words c.args.memory.now (row_of c.args.memory.now) c.in-Some.words c.squeeze_row.result c.in-Some.is c.squeeze_row.ensures.answer

pub returns : goal.returns
returns c =
    tree_some c.args.self.now c.lay.new.self c.args.memory.now c.squeeze_row.new.memory c.args.page c.in-Some.words c.reference_at.result c.squeeze_row.result c.lay.result c.in-Some.is
    c.squeeze_row.ensures.answer c.squeeze_row.ensures.memory c.reference_at.ensures (c.lay.ensures c.squeeze_row.new.memory)
