use Rattle.objects_tests.proofs.Keeping.{keeper_sweeps, keeper_walks}
use Rattle.objects_tests.proofs.keeper.sweeps_and_marks.Goals as goal

pub returns : goal.returns
returns c = record { sweeps = keeper_sweeps; walks = keeper_walks }
