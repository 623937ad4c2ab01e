use Rattle.std.proofs.Common.{ap, ◌∙◌}
use Rattle.objects.specs.Sweeping.{swung}
use Rattle.house.specs.Control.{again, recalled, sweeping}
use Rattle.house.specs.Entry.{own_sum}
use Rattle.house.proofs.ControlSteps.{sweep_comes, goes_on}
use Rattle.house.proofs.control.Control.recalled.Goals as goal

pub returns-then-sweeps_first : goal.returns-then-sweeps_first
returns-then-sweeps_first c =
    let k = c.args.self.now in
    let m = c.copy_words.new.memory in
    sweep_comes own_sum k m c.sweeps_first.result _ c.sweeps_first.ensures c.if-sweeps_first.true
    (c.swept.ensures c.begin-request.new.memory ∙ ap (swung (sweeping k) (again k)) c.begin-request.ensures) ∙ ap (recalled own_sum k) c.copy_words.ensures

pub returns : goal.returns
returns c =
    let k = c.args.self.now in
    goes_on own_sum k c.copy_words.new.memory c.sweeps_first.result _ c.sweeps_first.ensures c.if-sweeps_first.false c.start.ensures ∙ ap (recalled own_sum k) c.copy_words.ensures
