-- The memory of the house's own engine has the length that it starts with.
use Rattle.std.proofs.Common.{◌≡◌, length}
use Rattle.pages.specs.Engine.{engine}
use Rattle.pages.proofs.WordLaws.{length_zeros}
use Rattle.house.specs.Entry.{own, own_sum}

pub start_length : length (own own_sum).start ≡ 262144
unfolding own engine
start_length = length_zeros 262144
