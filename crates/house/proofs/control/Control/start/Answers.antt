use Rattle.std.proofs.Common.{sym, ap, ◌∙◌}
use Rattle.house.specs.Control.{log_from, started}
use Rattle.house.specs.Entry.{own_sum}
use Rattle.house.proofs.ControlSteps.{started_loads}
use Rattle.house.proofs.control.Control.start.Goals as goal

pub returns-in-Leave : goal.returns-in-Leave
returns-in-Leave c = c.leave.ensures ∙ ap (started own_sum c.args.self.now c.args.memory.now) (sym c.in-Leave.is)

pub returns-in-Log : goal.returns-in-Log
returns-in-Log c =
    let k = c.args.self.now in
    let m = c.args.memory.now in
    c.log_from.ensures m ∙ ap (log_from k m) c.head_word.ensures ∙ ap (started own_sum k m) (sym c.in-Log.is)

pub returns-in-View : goal.returns-in-View
returns-in-View c = c.look_into.ensures ∙ ap (started own_sum c.args.self.now c.args.memory.now) (sym c.in-View.is)

pub returns-in_default : goal.returns-in_default
returns-in_default c =
    let k = c.args.self.now in
    let n = c.in_default in
    started_loads own_sum k c.args.memory.now k.task _ _ n.not-Nothing n.not-Leave n.not-Log n.not-View c.head_word-in_default.ensures c.load_tree.ensures
