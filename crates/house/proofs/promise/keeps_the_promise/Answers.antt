use Rattle.house.proofs.Keeping.{whole_noting}
use Rattle.house.proofs.promise.keeps_the_promise.Goals as goal

pub returns : goal.returns
returns c = whole_noting
