use Rattle.std.proofs.Common.{ℕ, ◌∷◌, ap}
use Rattle.pages.specs.Lists.{zeros}
use Rattle.pages_tests.specs.Counter.{counter_saves}
use Rattle.pages_tests.proofs.counter.CounterClient.save.Goals as goal

pub returns : goal.returns
unfolding counter_saves zeros
returns c = ap (λ (n : ℕ). n ∷ c.args.self.now.last ∷ c.args.self.now.count ∷ zeros 117) c.code.ensures
