use Rattle.std.proofs.Common.{Some, sym, ap, ◌∙◌}
use Rattle.pages.specs.Machine.{asked}
use Rattle.commands.specs.Meaning.{meaning}
use Rattle.house.specs.Control.{heard_of, sum_key}
use Rattle.house.specs.Entry.{own_sum}
use Rattle.house.proofs.ControlSteps.{not_known, write_heard}
use Rattle.house.proofs.control.Control.take.Goals as goal

pub returns-in-WriteFile : goal.returns-in-WriteFile
returns-in-WriteFile c =
    let k = c.args.self.now in
    let m = c.args.memory.now in
    write_heard own_sum k c.begin.new.self m c.put_path.new.memory c.put_bytes.new.memory c.in-WriteFile.path.now c.in-WriteFile.bytes.now c.key_of.result c.begin.result c.put_path.ensures
    c.put_bytes.ensures (c.key_of.ensures ∙ ap sum_key c.sum.ensures) c.begin.ensures.state c.begin.ensures.request
    ∙ ap (λ x. heard_of own_sum k m (meaning x)) (sym (c.in-Some.is ∙ ap Some c.in-WriteFile.is))

pub returns-in_default-command : goal.returns-in_default-command
returns-in_default-command c =
    let k = c.args.self.now in
    let m = c.args.memory.now in
    let n = c.in_default-command in
    ap (asked k m) c.refuse-in_default-command.ensures
    ∙ not_known own_sum k m c.in-Some.command n.not-WriteFile n.not-DropFile n.not-Commit n.not-History n.not-ShowFile n.not-ReadFile n.not-Status n.not-Leave
    ∙ ap (λ x. heard_of own_sum k m (meaning x)) (sym c.in-Some.is)
