-- A bitmap: a bit for each unit, 64 to a word, the lowest first. Assumes nothing: these are definitions.
use Rattle.std.specs.Prelude.{◌≡◌, ℕ, zero, suc, ◌+◌, ◌*◌, ◌/◌, ◌%◌, ◌^◌, ◌<◌, ◌≤◌, Bool, true, false, ◌&&◌, ◌⊎◌, List, length, Some, None, Option, ◌==◌, bit_or, nat_lt, slice_index, slice_set}
use Rattle.pages.specs.Lists.{pick, or, zeros}

abbrev pub bit : List ℕ → ℕ → Bool
bit ws u = slice_index ws (u / 64) / 2 ^ (u % 64) % 2 == 1

-- a bit set; what lies past the end stays 0
abbrev pub with_bit : List ℕ → ℕ → List ℕ
with_bit ws u = slice_set ws (u / 64) (bit_or (slice_index ws (u / 64)) (2 ^ (u % 64)))

-- a run of bits set
unfoldable pub with_run : ℕ → ℕ → List ℕ → List ℕ
with_run zero from ws = ws
with_run (suc n) from ws = with_run n (from + 1) (with_bit ws from)

-- the highest place below a bound, and the lowest of so many from a place on, where a test holds
unfoldable pub highest : (ℕ → Bool) → ℕ → Option ℕ
highest p zero = None
highest p (suc u) = pick (p u) (Some u) (highest p u)

unfoldable pub lowest : (ℕ → Bool) → ℕ → ℕ → Option ℕ
lowest p zero from = None
lowest p (suc n) from = pick (p from) (Some from) (lowest p n (from + 1))

-- the highest number is the end of all maps, and names no unit
abbrev pub named : ℕ → Option ℕ
named u = pick (nat_lt u 18446744073709551615) (Some u) None

-- the nearest word that has bits, from the front or from the back of a row
abbrev pub FirstFilled : List ℕ → Option ℕ → Type 0
FirstFilled ws None = (k : ℕ) → k < length ws → slice_index ws k ≡ 0
FirstFilled ws (Some i) = (i < length ws) × (0 < slice_index ws i) × ((k : ℕ) → k < i → slice_index ws k ≡ 0)

abbrev pub LastFilled : List ℕ → Option ℕ → Type 0
LastFilled ws None = (k : ℕ) → k < length ws → slice_index ws k ≡ 0
LastFilled ws (Some i) = (i < length ws) × (0 < slice_index ws i) × ((k : ℕ) → i < k → k < length ws → slice_index ws k ≡ 0)

-- What the functions on a bitmap do, by its bits alone.
abbrev pub BitsSet : Type 0
BitsSet =
    (ws : List ℕ) (u v : ℕ) → (bit (with_bit ws u) v ≡ or (u == v && nat_lt u (64 * length ws)) (bit ws v)) × (length (with_bit ws u) ≡ length ws)

abbrev pub RunSet : Type 0
RunSet =
    (n : ℕ) (ws : List ℕ) (from v : ℕ) →
    (from ≤ v → v < from + n → v < 64 * length ws → bit (with_run n from ws) v ≡ true)
    × ((v < from) ⊎ (from + n ≤ v) → bit (with_run n from ws) v ≡ bit ws v)
    × (length (with_run n from ws) ≡ length ws)

-- a row of zeros has no bits
abbrev pub AllClear : Type 0
AllClear = (n u : ℕ) → bit (zeros n) u ≡ false

-- what a search finds: a place where the test holds, and none nearer
abbrev pub HighestIs : (ℕ → Bool) → ℕ → Option ℕ → Type 0
HighestIs p n (Some u) = (u < n) × (p u ≡ true) × ((v : ℕ) → u < v → v < n → p v ≡ false)
HighestIs p n None = (v : ℕ) → v < n → p v ≡ false

abbrev pub LowestIs : (ℕ → Bool) → ℕ → ℕ → Option ℕ → Type 0
LowestIs p n from (Some u) = (from ≤ u) × (u < from + n) × (p u ≡ true) × ((v : ℕ) → from ≤ v → v < u → p v ≡ false)
LowestIs p n from None = (v : ℕ) → from ≤ v → v < from + n → p v ≡ false

abbrev pub Finds : Type 0
Finds = (p : ℕ → Bool) (n from : ℕ) → HighestIs p n (highest p n) × LowestIs p n from (lowest p n from)
