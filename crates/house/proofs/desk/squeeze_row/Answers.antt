use Rattle.house.proofs.ControlLaws.{squeezed_before, squeezed_says}
use Rattle.house.proofs.desk.squeeze_row.Goals as goal

pub returns-clause-answer : goal.returns-clause-answer
returns-clause-answer c =
    let s = c.split_at_mut-front in
    squeezed_says c.args.memory.now s.result.0.now s.result.1.now c.squeeze_before.result s.ensures.front s.ensures.back c.squeeze_before.ensures.answer

pub returns-clause-memory : goal.returns-clause-memory
returns-clause-memory c =
    let s = c.split_at_mut-front in
    squeezed_before c.args.memory.now s.result.0.now s.result.1.now c.squeeze_before.new.front s.ensures.front s.ensures.back c.squeeze_before.ensures.front
