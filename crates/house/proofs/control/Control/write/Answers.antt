use Rattle.std.proofs.Common.{not, ap, ◌∙◌}
use Rattle.trees.specs.Row.{room_for}
use Rattle.house.specs.Control.{row_of}
use Rattle.house.specs.Entry.{own_sum}
use Rattle.house.proofs.ControlSteps.{put_said, write_full, write_fits}
use Rattle.house.proofs.control.Control.write.Goals as goal

pub returns-then-is_err : goal.returns-then-is_err
returns-then-is_err c =
    write_full own_sum c.args.self.now c.args.memory.now c.put_key.new.row c.path_key-key.result c.entry_weight-weight.result c.refuse.result c.requires c.put_key.auto.row c.put_key.ensures.after
    c.path_key-key.ensures (put_said (room_for c.path_key-key.result 0 (row_of c.args.memory.now)) c.is_err.result c.put_key.result c.put_key.ensures.answer c.is_err.ensures.value ∙ ap not c.if-is_err.true)
    c.refuse.ensures

pub returns : goal.returns
returns c =
    write_fits own_sum c.args.self.now c.args.memory.now c.put_key.new.row c.path_key-key.result c.entry_weight-weight.result _ c.requires c.put_key.auto.row c.put_key.ensures.after
    c.path_key-key.ensures c.entry_weight-weight.ensures
    (put_said (room_for c.path_key-key.result 0 (row_of c.args.memory.now)) c.is_err.result c.put_key.result c.put_key.ensures.answer c.is_err.ensures.value ∙ ap not c.if-is_err.false) c.survey.ensures
