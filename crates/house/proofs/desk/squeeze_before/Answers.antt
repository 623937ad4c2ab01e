use Rattle.std.proofs.Common.{◌++◌, drop, ap}
use Rattle.house.proofs.desk.squeeze_before.Goals as goal

pub returns-clause-front : goal.returns-clause-front
returns-clause-front c = ap (λ x. x ++ drop 41088 c.args.front.now) c.squeeze.ensures.after
