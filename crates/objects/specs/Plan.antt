-- Where things stand in a house's memory, in words from its front: the buffer, the rest, the head, the map, its counts. Assumes nothing: these are definitions.
use Rattle.std.specs.Prelude.{◌≡◌, ℕ, ◌+◌, ◌≤◌, ◌⊎◌, List, length, take, drop}
use Rattle.pages.specs.Words.{over}

abbrev pub rest_at : ℕ
rest_at = 41088

abbrev pub head_at : ℕ
head_at = 41152

abbrev pub map_at : ℕ
map_at = 41184

abbrev pub map_words : ℕ
map_words = 131072

-- as many bits as the map has
abbrev pub map_units : ℕ
map_units = 8388608

abbrev pub counts_at : ℕ
counts_at = 172256

abbrev pub counts_words : ℕ
counts_words = 16384

abbrev pub plan_end : ℕ
plan_end = 188640

abbrev pub map_of : List ℕ → List ℕ
map_of m = take map_words (drop map_at m)

abbrev pub counts_of : List ℕ → List ℕ
counts_of m = take counts_words (drop counts_at m)

-- a map put back
abbrev pub with_map : List ℕ → List ℕ → List ℕ
with_map ws m = over map_at ws m

-- What is written over a part of a row stands there, and every part beside it stays.
pub record PartsStay : Type 0 where
  pub here : (g : ℕ) (new old : List ℕ) → g + length new ≤ length old → take (length new) (drop g (over g new old)) ≡ new
  pub beside : (g : ℕ) (new old : List ℕ) (a n : ℕ) → g + length new ≤ length old → (a + n ≤ g) ⊎ (g + length new ≤ a) →
      take n (drop a (over g new old)) ≡ take n (drop a old)
  pub as_long : (g : ℕ) (new old : List ℕ) → g + length new ≤ length old → length (over g new old) ≡ length old
