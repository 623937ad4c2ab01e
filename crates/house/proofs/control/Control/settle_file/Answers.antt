use Rattle.house.proofs.ControlSteps.{file_is_new, file_is_there}
use Rattle.house.proofs.control.Control.settle_file.Goals as goal

pub returns-then-self-eq0 : goal.returns-then-self-eq0
returns-then-self-eq0 c =
    file_is_new c.args.self.now c.args.memory.now c.head_word-page.result _ c.if-self-eq0.true c.head_word-page.ensures c.lay_file.ensures

pub returns : goal.returns
returns c =
    file_is_there c.args.self.now c.args.memory.now c.name_file.new.memory c.head_word-page.result _ c.if-self-eq0.false c.head_word-page.ensures c.name_file.ensures c.lay_tree.ensures
