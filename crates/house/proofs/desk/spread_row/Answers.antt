use Rattle.house.proofs.ControlLaws.{spread_behind_front}
use Rattle.house.proofs.desk.spread_row.Goals as goal

pub returns : goal.returns
returns c =
    let s = c.split_at_mut-front in
    spread_behind_front c.args.at c.args.memory.now s.result.0.now s.result.1.now c.spread_behind.new.behind c.requires.0 s.ensures.front s.ensures.back c.spread_behind.ensures
