-- A plain house's turn is refused by the first condition that holds.
use Rattle.std.proofs.Common.{arith}
use Rattle.house.specs.House.{turn}
use Rattle.plain.specs.Replies.{RefusalsRight}

pub refusals_right : RefusalsRight
unfolding turn
refusals_right sum w c x n s = (grind arith, grind arith, grind arith, grind arith, grind arith)
