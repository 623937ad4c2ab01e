use Rattle.house.proofs.Simulation.{simulated}
use Rattle.house.proofs.promise.simulates.Goals as goal

pub returns : goal.returns
returns g c = simulated _ _
