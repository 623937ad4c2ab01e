use Rattle.house.proofs.ControlSteps.{no_room, room_left}
use Rattle.house.proofs.control.Control.settle.Goals as goal

pub returns-then-kept-quarter : goal.returns-then-kept-quarter
returns-then-kept-quarter c =
    no_room c.args.self.now c.args.memory.now c.kept.result c.quarter.result c.refuse.result c.kept.ensures c.quarter.ensures c.if-kept-quarter.true c.refuse.ensures

pub returns : goal.returns
returns c =
    room_left c.args.self.now c.args.memory.now c.kept.result c.quarter.result _ c.kept.ensures c.quarter.ensures c.if-kept-quarter.false c.settled.ensures
