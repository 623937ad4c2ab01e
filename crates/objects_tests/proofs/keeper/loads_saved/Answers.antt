use Rattle.objects_tests.proofs.Keeping.{loads_saved}
use Rattle.objects_tests.proofs.keeper.loads_saved.Goals as goal

pub returns : goal.returns
returns c = loads_saved
