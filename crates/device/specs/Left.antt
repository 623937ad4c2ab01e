-- The numbers by which a stop says what came of each waiting write. Assumes nothing: these are definitions.
use Rattle.std.specs.Prelude.{ℕ, zero, suc, ◌/◌, ◌%◌, List, [], ◌∷◌}
use Rattle.device.specs.declared.Left.{Left}
use Rattle.device.specs.declared.Left.TheVariants.{Nothing, All, FirstHalf}

abbrev pub code : Left → ℕ
code Nothing = 0
code All = 1
code FirstHalf = 2

-- so many digits to the base 3, the last one first
unfoldable pub digits : ℕ → ℕ → List ℕ
digits zero n = []
digits (suc k) n = n % 3 ∷ digits k (n / 3)
