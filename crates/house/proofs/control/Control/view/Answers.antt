use Rattle.std.proofs.Common.{sym, ap, ap₂, ◌∙◌}
use Rattle.pages.specs.Lists.{same}
use Rattle.pages.specs.Machine.{asked}
use Rattle.pages.specs.declared.machine.Request.TheVariants.{Recall}
use Rattle.pages.proofs.ListLaws.{pick_true, pick_false}
use Rattle.house.specs.Control.{hearing, no_sum, the_branch}
use Rattle.house.specs.declared.control.Task.TheVariants.{View}
use Rattle.house.proofs.control.Control.view.Goals as goal

pub returns-then-not-is_branch : goal.returns-then-not-is_branch
returns-then-not-is_branch c =
    ap (asked c.args.self.now c.args.memory.now) c.refuse.ensures
    ∙ sym (pick_false (same the_branch c.args.name.now) _ _ (sym c.is_branch.ensures ∙ c.if-not-is_branch.true))

pub returns : goal.returns
returns c =
    ap₂ (λ s q. asked s c.put_path.new.memory q) c.begin.ensures.state c.begin.ensures.request
    ∙ ap (λ x. asked (hearing View 0 no_sum c.args.self.now) x Recall) c.put_path.ensures
    ∙ sym (pick_true (same the_branch c.args.name.now) _ _ (sym c.is_branch.ensures ∙ c.if-not-is_branch.false))
