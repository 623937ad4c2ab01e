-- The laws of the sum, each stated here and proved by the contract of a function.
use Rattle.std.specs.Prelude.{◌≡◌, ℕ, zero, suc, ◌+◌, ◌-◌, ◌*◌, ◌%◌, ◌^◌, ◌≤◌, Bool, true, false, not, ◌&&◌, ltb, List, [], ◌∷◌, length, ◌==◌, nat_le, nat_lt}
use Rattle.pages.specs.Lists.{every, any, flat, those}
use Rattle.store.specs.Sha256.{K, initial, zero_bytes, padded, sha256}
use Rattle.store.specs.Running.{Progress, fresh, added, finished}

-- a sum is 32 bytes, whatever was summed
abbrev pub GivesBytes : Type 0
GivesBytes = (bs : List ℕ) → (length (sha256 bs) ≡ 32) × (every (λ b. ltb b 256) (sha256 bs) ≡ true)

-- pieces give the sum of the whole message, however it was cut
abbrev pub all_added : Progress → List (List ℕ) → Progress
all_added p [] = p
all_added p (bs ∷ pieces) = all_added (added p bs) pieces

abbrev pub CutsUnseen : Type 0
CutsUnseen = (pieces : List (List ℕ)) → finished (all_added fresh pieces) ≡ sha256 (flat (λ bs. bs) pieces)

-- the zeros are the fewest that leave eight bytes of a block, so a padded message is whole blocks
abbrev pub PadsLeast : Type 0
PadsLeast =
    (l : ℕ) → ((l + 1 + zero_bytes l) % 64 ≡ 56) × ((k : ℕ) → (l + 1 + k) % 64 ≡ 56 → zero_bytes l ≤ k)

abbrev pub PadsWhole : Type 0
PadsWhole = (m : List ℕ) → length (padded m) % 64 ≡ 0

-- n numbers from k on, and the primes among them
unfoldable pub numbers : ℕ → ℕ → List ℕ
numbers k zero = []
numbers k (suc n) = k ∷ numbers (k + 1) n

unfoldable pub primes : ℕ → ℕ → List ℕ
primes k n = those (λ p. every (λ d. not (p % d == 0)) (numbers 2 (p - 2))) (numbers k n)

-- b is the first 32 bits of the fraction of the n-th root of p, whose whole part is below 8
unfoldable pub root_bits : ℕ → ℕ → ℕ → Bool
root_bits n p b =
    any (λ w. nat_le ((w * 2 ^ 32 + b) ^ n) (p * 2 ^ (32 * n)) && nat_lt (p * 2 ^ (32 * n)) ((w * 2 ^ 32 + b + 1) ^ n)) (numbers 0 8)

unfoldable pub roots : ℕ → List ℕ → List ℕ → Bool
roots n [] [] = true
roots n [] (b ∷ bs) = false
roots n (p ∷ ps) [] = false
roots n (p ∷ ps) (b ∷ bs) = root_bits n p b && roots n ps bs

-- the constants come from the cube roots of the first 64 primes, 2 to 311, the initial value from the square roots of the first 8
abbrev pub ConstantsAreRoots : Type 0
ConstantsAreRoots =
    (roots 3 (primes 2 310) K ≡ true) × (roots 2 (primes 2 18)
    (initial.a ∷ initial.b ∷ initial.c ∷ initial.d ∷ initial.e ∷ initial.f ∷ initial.g ∷ initial.h ∷ []) ≡ true)
