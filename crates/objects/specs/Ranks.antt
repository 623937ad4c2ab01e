-- How many bits are set below a unit: counted, and by counts that stand beside the map, one for each eight words. Assumes nothing: these are definitions.
use Rattle.std.specs.Prelude.{◌≡◌, ℕ, zero, suc, ◌+◌, ◌-◌, ◌*◌, ◌/◌, ◌%◌, ◌^◌, ◌<◌, ◌≤◌, min, Bool, true, false, not, List, map, length, take, drop, sum_by, count_ones, nat_lt, slice_index}
use Rattle.std.specs.List.{range_with_len}
use Rattle.pages.specs.Lists.{pick}
use Rattle.pages.specs.Words.{over, small}
use Rattle.store.specs.Bitmap.{bit, with_bit, with_run}
use Rattle.objects.specs.Plan.{map_of, map_units, counts_of, counts_at, counts_words, plan_end}

abbrev pub one_if : Bool → ℕ
one_if true = 1
one_if false = 0

-- how many places below a bound pass a test
unfoldable pub count_below : (ℕ → Bool) → ℕ → ℕ
count_below p zero = 0
count_below p (suc u) = count_below p u + one_if (p u)

-- the bits set in the words before each eighth, so often
unfoldable pub counts : ℕ → List ℕ → List ℕ
counts n ws = map (λ i. sum_by count_ones (take (8 * i) ws)) (range_with_len 0 n)

-- a memory with the counts of its map; one that is too short stays
unfoldable pub tallied : List ℕ → List ℕ
tallied m = pick (nat_lt (length m) plan_end) m (over counts_at (counts counts_words (map_of m)) m)

-- the last block is full at the map's end
abbrev pub block_of : ℕ → ℕ
block_of u = min (u / 512) 16383

-- the bits set below a unit: before its block, in the words of the block before its own, and in its own
unfoldable pub ranked_by : List ℕ → List ℕ → ℕ → ℕ
ranked_by cs ws u =
    (slice_index cs (block_of u) + (sum_by count_ones (take (u / 64 - 8 * block_of u) (drop (8 * block_of u) ws)) + count_ones (slice_index ws (u / 64) % 2 ^ (u % 64)))) % 2 ^ 64

unfoldable pub ranked : List ℕ → ℕ → ℕ
ranked m u = pick (nat_lt (length m) plan_end) 0 (ranked_by (counts_of m) (map_of m) (min u map_units))

-- the counts are those of the map
abbrev pub Tallied : List ℕ → Type 0
Tallied m = counts_of m ≡ counts counts_words (map_of m)

-- Tallying leaves the map, and then the counts are those of the map; so long as they are, a rank is the number of bits set below a unit.
abbrev pub TallyHolds : Type 0
TallyHolds =
    (m : List ℕ) → plan_end ≤ length m → Tallied (tallied m) × (map_of (tallied m) ≡ map_of m) × (length (tallied m) ≡ length m)

abbrev pub Ranks : Type 0
Ranks = (m : List ℕ) (u : ℕ) → plan_end ≤ length m → small (map_of m) ≡ true → Tallied m → ranked m u ≡ count_below (bit (map_of m)) u

abbrev pub RanksTallied : Type 0
RanksTallied = (m : List ℕ) (u : ℕ) → plan_end ≤ length m → small (map_of m) ≡ true → ranked (tallied m) u ≡ count_below (bit (map_of m)) u

-- Counts, whatever the test.
pub record CountsRight : Type 0 where
  pub alike : (p q : ℕ → Bool) (n : ℕ) → ((u : ℕ) → u < n → p u ≡ q u) → count_below p n ≡ count_below q n
  pub rises : (p : ℕ → Bool) (m n : ℕ) → m ≤ n → count_below p m ≤ count_below p n
  pub passes : (p : ℕ → Bool) (u v : ℕ) → p u ≡ true → u < v → count_below p u < count_below p v
  pub full : (p : ℕ → Bool) (u n : ℕ) → ((v : ℕ) → u ≤ v → v < u + n → p v ≡ true) → count_below p (u + n) ≡ count_below p u + n
  pub blank : (p : ℕ → Bool) (u n : ℕ) → ((v : ℕ) → u ≤ v → v < u + n → p v ≡ false) → count_below p (u + n) ≡ count_below p u
  pub bounded : (p : ℕ → Bool) (n : ℕ) → count_below p n ≤ n

-- What setting bits adds to the count: one where the bit was clear, and as many as a run has where all were.
pub record SetsCounted : Type 0 where
  pub one : (ws : List ℕ) (u n : ℕ) → u < n → u < 64 * length ws → count_below (bit (with_bit ws u)) n ≡ count_below (bit ws) n + one_if (not (bit ws u))
  pub run : (ws : List ℕ) (from many n : ℕ) → from + many ≤ n → from + many ≤ 64 * length ws → ((v : ℕ) → from ≤ v → v < from + many → bit ws v ≡ false) →
      count_below (bit (with_run many from ws)) n ≡ count_below (bit ws) n + many
