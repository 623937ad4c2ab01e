use Rattle.std.proofs.Common.{ap₂, ◌∙◌}
use Rattle.trees.specs.Row.{put_key}
use Rattle.house.specs.Control.{row_of}
use Rattle.house.proofs.ControlLaws.{row_written}
use Rattle.house.proofs.desk.name_file.Goals as goal

pub returns : goal.returns
returns c =
    let m = c.args.memory.now in
    row_written m c.put_key.new.row _ c.requires c.put_key.auto.row
    (c.put_key.ensures.after ∙ ap₂ (λ k w. put_key k w c.args.reference (row_of m)) c.path_key-key.ensures c.entry_weight-weight.ensures)
