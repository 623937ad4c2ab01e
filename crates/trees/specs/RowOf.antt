-- Which plain tree a row stands for, given what each reference stands for. Assumes nothing: these are definitions.
use Rattle.std.specs.Prelude.{◌≡◌, ℕ, ◌+◌, ◌≤◌, Bool, true, ◌&&◌, List, length, slice_index_or}
use Rattle.pages.specs.Lists.{every, each, same, first_or, added_up}
use Rattle.pages.specs.Bytes.{all_bytes}
use Rattle.trees.specs.Tree.{File, Tree, rising_paths}
use Rattle.trees.specs.Row.{good_path, key_of, path_of, held, entries_of}

-- a path of 1 to 64 bytes
abbrev pub proper : List ℕ → Bool
proper p = good_path p && all_bytes p

-- nine words that are the key of such a path: so its padding is zero
abbrev pub good_key : List ℕ → Bool
good_key k = proper (path_of k) && same (key_of (path_of k)) k

-- the file that an entry stands for
abbrev pub file_of : (ℕ → List ℕ) → File → File
file_of stands f = record { path = path_of f.path; bytes = stands (first_or 0 f.bytes) }

-- a file weighs 64 and the length of its path
unfoldable pub weight_of : Tree → ℕ
weight_of t = added_up (λ f. 64 + length f.path) t

-- a well-formed row, and its tree: it holds as many entries as it says, with good keys that rise, and its weight is the tree's
pub record RowOf (stands : ℕ → List ℕ) (ws : List ℕ) (t : Tree) : Type 0 where
  pub long : 2 ≤ length ws
  pub counted : slice_index_or ws 0 0 ≡ held ws
  pub keys : every (λ f. good_key f.path) (entries_of ws) ≡ true
  pub rising : rising_paths (entries_of ws) ≡ true
  pub weighed : slice_index_or ws 1 0 ≡ weight_of t
  pub is : each (file_of stands) (entries_of ws) ≡ t
