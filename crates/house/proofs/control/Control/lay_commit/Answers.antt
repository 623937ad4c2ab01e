use Rattle.std.proofs.Common.{sym, ap, ◌∙◌}
use Rattle.pages.specs.Machine.{asked}
use Rattle.house.specs.Control.{commit_put, laid_from}
use Rattle.house.specs.declared.control.Phase.TheVariants.{LayingCommit}
use Rattle.house.proofs.ControlSteps.{commit_words, commit_answered}
use Rattle.house.proofs.control.Control.lay_commit.Goals as goal

pub returns-in_default : goal.returns-in_default
returns-in_default c =
    let k = c.args.self.now in
    let m₁ = c.compose_commit.new.memory in
    commit_answered k k c.args.memory.now m₁ c.args.page c.layout-commit.result c.compose_commit.result c.refuse.result c.layout-commit.ensures c.compose_commit.ensures.answer
    c.compose_commit.ensures.memory (ap (asked k m₁) c.refuse.ensures ∙ ap (commit_put k m₁ c.args.page) (sym c.in_default.is))

pub lay-requires : goal.lay-requires
lay-requires c =
    commit_words c.args.self.now c.args.memory.now c.layout-commit.result c.in-Some.words c.compose_commit.result c.layout-commit.ensures c.compose_commit.ensures.answer c.in-Some.is

pub returns : goal.returns
returns c =
    let k = c.args.self.now in
    let m₁ = c.compose_commit.new.memory in
    commit_answered k c.lay.new.self c.args.memory.now m₁ c.args.page c.layout-commit.result c.compose_commit.result c.lay.result c.layout-commit.ensures c.compose_commit.ensures.answer
    c.compose_commit.ensures.memory
    (c.lay.ensures m₁ ∙ ap (laid_from LayingCommit k m₁ c.args.page c.in-Some.words) c.reference_at.ensures ∙ ap (commit_put k m₁ c.args.page) (sym c.in-Some.is))
