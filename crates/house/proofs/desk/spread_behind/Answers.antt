use Rattle.house.proofs.ControlLaws.{behind_written}
use Rattle.house.proofs.desk.spread_behind.Goals as goal

pub returns : goal.returns
returns c = behind_written c.args.behind.now c.spread.new.row _ c.requires.1 c.spread.auto.row c.spread.ensures.after
