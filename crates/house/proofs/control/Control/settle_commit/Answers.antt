use Rattle.house.proofs.ControlSteps.{commit_is_new, commit_is_there}
use Rattle.house.proofs.control.Control.settle_commit.Goals as goal

pub returns-then-self-eq0 : goal.returns-then-self-eq0
returns-then-self-eq0 c =
    commit_is_new c.args.self.now c.args.memory.now c.head_word-page.result _ c.if-self-eq0.true c.head_word-page.ensures c.lay_commit.ensures

pub returns : goal.returns
returns c =
    commit_is_there c.args.self.now c.args.memory.now c.head_word-page.result c.head_word-root.result _ c.if-self-eq0.false c.head_word-page.ensures c.head_word-root.ensures c.publish.ensures
