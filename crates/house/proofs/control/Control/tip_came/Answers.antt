use Rattle.std.proofs.Common.{sym, ap, ◌∙◌}
use Rattle.pages.specs.Machine.{asked}
use Rattle.house.specs.Control.{tip_came}
use Rattle.house.specs.Entry.{own_sum}
use Rattle.house.proofs.control.Control.tip_came.Goals as goal

pub returns-in_default : goal.returns-in_default
returns-in_default c =
    let k = c.args.self.now in
    let m = c.args.memory.now in
    ap (asked k m) c.refuse.ensures ∙ ap (tip_came own_sum k m) (sym c.in_default.is ∙ c.read_commit.ensures)

pub returns : goal.returns
returns c =
    let k = c.args.self.now in
    let m = c.args.memory.now in
    c.under_tip.ensures ∙ ap (tip_came own_sum k m) (sym c.in-Some.is ∙ c.read_commit.ensures)
