-- Where a search for a key stops among entries.
use Rattle.std.specs.Prelude.{◌≡◌, ℕ, suc, Bool, true, false, not, ◌&&◌, List, [], ◌∷◌, drop}
use Rattle.pages.specs.Lists.{pick, or, each, same, earlier}
use Rattle.trees.specs.Tree.{Tree}
use Rattle.trees.specs.Row.{as_entry}

-- a search for a key stops at the key itself; one for its place also at the first key behind it
abbrev pub halts : Bool → List ℕ → List ℕ → Bool
halts exact k q = or (same k q) (not exact && earlier k q)

-- how many entries such a search passes
unfoldable pub spot : Bool → List ℕ → Tree → ℕ
spot exact k [] = 0
spot exact k (f ∷ fs) = pick (halts exact k f.path) 0 (suc (spot exact k fs))

-- whether a key itself comes first in what is left
abbrev pub there : List ℕ → Tree → Bool
there k [] = false
there k (f ∷ fs) = same k f.path

-- a key stands at a place among entries of ten words, or belongs there
abbrev pub StandsAt : List ℕ → List (List ℕ) → ℕ → Type 0
StandsAt k es at = (at ≡ spot false k (each as_entry es)) × (there k (drop at (each as_entry es)) ≡ true)

abbrev pub BelongsAt : List ℕ → List (List ℕ) → ℕ → Type 0
BelongsAt k es at = (at ≡ spot false k (each as_entry es)) × (there k (drop at (each as_entry es)) ≡ false)
