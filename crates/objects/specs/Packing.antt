-- Packing: objects follow each other unit by unit, and are laid in whole pages. What is more than whole pages waits for the next object.
-- Assumes nothing: these are definitions.
use Rattle.std.specs.Prelude.{ℕ, ◌+◌, ◌-◌, ◌*◌, ◌/◌, min, List, ◌++◌, length, take, drop, nat_lt}
use Rattle.pages.specs.Lists.{pick, zeros}
use Rattle.pages.specs.Words.{over}
use Rattle.objects.specs.Plan.{rest_at, plan_end}

-- the words that wait, and then the first words of the buffer; less than a page waits, and the buffer takes no more
abbrev pub gathered : ℕ → ℕ → List ℕ → List ℕ
gathered waiting words m = take (min waiting 63) (drop rest_at m) ++ take (min words 41024) m

abbrev pub pages_in : ℕ → ℕ → ℕ
pages_in waiting words = (min waiting 63 + min words 41024) / 64

-- in the buffer all that is gathered, of which what is more than whole pages waits from now on
abbrev pub kept_back : ℕ → List ℕ → List ℕ
kept_back pages m = over rest_at (take 64 (drop (64 * pages) m)) m

unfoldable pub packed : ℕ → ℕ → List ℕ → List ℕ
packed waiting words m =
    pick (nat_lt (length m) plan_end) m (kept_back (pages_in waiting words) (over 0 (gathered waiting words m) m))

unfoldable pub pages_packed : ℕ → ℕ → List ℕ → ℕ
pages_packed waiting words m = pick (nat_lt (length m) plan_end) 0 (pages_in waiting words)

-- at the end a page is filled up
unfoldable pub filled : ℕ → List ℕ → List ℕ
filled waiting m =
    pick (nat_lt (length m) plan_end) m (over 0 (take (min waiting 63) (drop rest_at m) ++ zeros (64 - min waiting 63)) m)
