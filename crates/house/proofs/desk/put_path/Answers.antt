use Rattle.house.proofs.ControlLaws.{path_written}
use Rattle.house.proofs.desk.put_path.Goals as goal

pub returns-in-Some : goal.returns-in-Some
returns-in-Some c =
    path_written c.args.path.now c.args.memory.now c.in-Some.key c.copy_from_slice.new.self c.key.result c.requires c.copy_from_slice.ensures.len c.in-Some.is c.key.ensures
    c.copy_from_slice.ensures.after
