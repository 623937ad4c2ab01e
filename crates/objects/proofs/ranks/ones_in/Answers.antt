use Rattle.std.proofs.Common.{◌≡◌, ℕ, ◌≤◌, List, sum_by, get_or, arith, rules}
use lib.Count.{ones, ones-le}
use Rattle.std.proofs.Math.Facts.{Fits-lt-pow}
use Rattle.std.proofs.lemmas.List.Sums.{sum_by-le}
use Rattle.std.proofs.lemmas.List.Elements.{All-from_get_or}
use Rattle.std.specs.List.{All}
use Rattle.objects.proofs.ranks.ones_in.Goals as goal

pub returns-clause-bound : goal.returns-clause-bound
returns-clause-bound c =
    let ws : List ℕ = c.args.words.now in
    let each : All (λ x. ones x ≤ 64) ws = All-from_get_or (λ x. ones x ≤ 64) ws 0 (λ i h. ones-le 64 (get_or ws i 0) (Fits-lt-pow (c.type_inv.words i))) in
    let value : c.sum.result ≡ sum_by ones ws = search rules in
    omega (arith, sum_by-le ones 64 ws each, value)
