use Rattle.history.proofs.BookLaws.{ids_tell}
use Rattle.history.proofs.laws.ids_tell.Goals as goal

pub returns : goal.returns
returns c = ids_tell
