-- What stored trees promise, as statements: each is a type whose proof stands on a contract of this crate.
use Rattle.std.specs.Prelude.{◌≡◌, ℕ, ◌+◌, ◌*◌, ◌≤◌, true, List, length}
use Rattle.pages.specs.Lists.{each, has}
use Rattle.pages.specs.Object.{size_of, kind_of, own_weight, references_of, data_of}
use Rattle.trees.specs.Tree.{Tree}
use Rattle.trees.specs.Row.{held, references}
use Rattle.trees.specs.RowOf.{weight_of, RowOf}
use Rattle.trees.specs.Packed.{squeezed, files_in, entries_in, weight_in, spread_fits, spread_into, renamed, renamed_entry}

-- a row, stored, is an object of kind 2 that weighs nothing by itself and has the row's references; no tree takes more than 40,963 words
pub record TreeObject (ws : List ℕ) : Type 0 where
  pub refers : references_of (squeezed ws) ≡ references ws
  pub sized : size_of (squeezed ws) ≡ length (squeezed ws)
  pub kind : kind_of (squeezed ws) ≡ 2
  pub light : own_weight (squeezed ws) ≡ 0
  pub within : length (squeezed ws) ≤ 3 + 10 * held ws
  pub most : length (squeezed ws) ≤ 40963

-- Every row is stored as such an object.
abbrev pub StoredObjects : Type 0
StoredObjects = (ws : List ℕ) → TreeObject ws

-- what is stored, under other references: the entries have them too, and all else stays
pub record RenamedTree (g : ℕ → ℕ) (xs : List ℕ) : Type 0 where
  pub refers : references_of (renamed g xs) ≡ each g (references_of xs)
  pub kept : data_of (renamed g xs) ≡ data_of xs
  pub entries : entries_in (renamed g xs) ≡ each (renamed_entry g) (entries_in xs)
  pub weight : weight_in (renamed g xs) ≡ weight_in xs
  pub fits : (into : List ℕ) → spread_fits (renamed g xs) into ≡ spread_fits xs into

-- Other references in the place of what is stored are the same references in the place of what is spread; so where the new ones stand for what the old ones
-- stood for, the tree is the same.
abbrev pub RenamedRight : Type 0
RenamedRight =
    (g : ℕ → ℕ) (xs : List ℕ) → 2 + files_in xs ≤ length xs →
    RenamedTree g xs
    × ((before after : ℕ → List ℕ) (into : List ℕ) (t : Tree) → spread_fits xs into ≡ true → ((r : ℕ) → has (references_of xs) r ≡ true → after (g r) ≡ before r) →
    RowOf before (spread_into xs into) t → RowOf after (spread_into (renamed g xs) into) t)

-- A stored tree has few bytes for what its files weigh: 23 and the path for each at most, of 64 and the path.
abbrev pub StoredBytes : Type 0
StoredBytes = (stands : ℕ → List ℕ) (ws : List ℕ) (t : Tree) → RowOf stands ws t → 8 * length (squeezed ws) + 41 * length t ≤ weight_of t + 24
