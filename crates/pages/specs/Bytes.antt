-- Numbers as eight bytes, the highest first; rows of bytes with their length in front. Assumes nothing: these are definitions.
use Rattle.std.specs.Prelude.{ℕ, zero, suc, ◌+◌, ◌*◌, ◌/◌, ◌%◌, Bool, List, [], ◌∷◌, ◌++◌, length, nat_lt}
use Rattle.pages.specs.Lists.{every}

-- eight bytes, the highest first
unfoldable pub in_bytes : ℕ → ℕ → List ℕ → List ℕ
in_bytes zero n bs = bs
in_bytes (suc k) n bs = in_bytes k (n / 256) (n % 256 ∷ bs)

abbrev pub eight : ℕ → List ℕ
eight n = in_bytes 8 n []

abbrev pub with_length : List ℕ → List ℕ
with_length bs = eight (length bs) ++ bs

unfoldable pub from_bytes : ℕ → List ℕ → ℕ
from_bytes n [] = n
from_bytes n (b ∷ bs) = from_bytes (256 * n + b) bs

unfoldable pub all_bytes : List ℕ → Bool
all_bytes bs = every (λ b. nat_lt b 256) bs
