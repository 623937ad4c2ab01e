-- A tree as it is stored, an object like all others: the first word with its kind, how many files and how many words there are; 0, since what counts a tree adds
-- its weight itself; the references, one for each file by rising path; the weight; then for each file the length of its path, and the path in only the words that
-- it needs. Assumes nothing: these are definitions, total on any words.
use Rattle.std.specs.Prelude.{ℕ, zero, suc, ◌+◌, ◌/◌, min, Bool, ◌&&◌, List, [], ◌∷◌, ◌++◌, length, take, drop, Some, None, Option, nat_le, slice_index}
use Rattle.pages.specs.Lists.{pick, each, flat, zeros}
use Rattle.pages.specs.Object.{heading, references_in, references_of, data_of}
use Rattle.trees.specs.Tree.{File, Tree}
use Rattle.trees.specs.Row.{entry, in_words, held, room, entries_of, reference_of, references, rewritten}

-- how many words a path of so many bytes needs, out of eight
abbrev pub needed : ℕ → ℕ
needed n = (min n 64 + 7) / 8

-- the path of an entry of ten words, as it is stored
unfoldable pub packed : List ℕ → List ℕ
packed e = slice_index e 8 ∷ take (needed (slice_index e 8)) e

abbrev pub packed_all : Tree → List ℕ
packed_all es = flat (λ f. packed (in_words f)) es

-- a row, as it is stored
unfoldable pub squeezed : List ℕ → List ℕ
squeezed ws =
    heading 2 (held ws) (3 + held ws + length (packed_all (entries_of ws))) ∷ 0 ∷ (references ws ++ (slice_index ws 1 ∷ packed_all (entries_of ws)))

-- it is stored where there is room for it, and the answer says how many words it has
unfoldable pub squeeze_into : List ℕ → List ℕ → List ℕ
squeeze_into ws out = pick (nat_le (length (squeezed ws)) (length out)) (squeezed ws ++ drop (length (squeezed ws)) out) out

unfoldable pub squeeze_answer : List ℕ → List ℕ → Option ℕ
squeeze_answer ws out = pick (nat_le (length (squeezed ws)) (length out)) (Some (length (squeezed ws))) None

-- the entry with a reference and the path that stands first in stored words; words that are not there are 0
unfoldable pub unpacked : ℕ → List ℕ → File
unpacked r xs = entry (take 8 (take (needed (slice_index xs 0)) (drop 1 xs) ++ zeros 8) ++ slice_index xs 0 ∷ []) r

-- how many words the path takes
abbrev pub stride : List ℕ → ℕ
stride xs = 1 + needed (slice_index xs 0)

-- so many entries, out of their references and their paths
unfoldable pub unpacked_all : ℕ → List ℕ → List ℕ → Tree
unpacked_all zero rs xs = []
unpacked_all (suc n) rs xs = unpacked (slice_index rs 0) xs ∷ unpacked_all n (drop 1 rs) (drop (stride xs) xs)

-- how many files are stored, their entries, and their weight
abbrev pub files_in : List ℕ → ℕ
files_in xs = references_in (slice_index xs 0)

abbrev pub entries_in : List ℕ → Tree
entries_in xs = unpacked_all (files_in xs) (references_of xs) (drop 1 (data_of xs))

abbrev pub weight_in : List ℕ → ℕ
weight_in xs = slice_index (data_of xs) 0

-- a row out of what is stored, where there is room for its files
abbrev pub spread_fits : List ℕ → List ℕ → Bool
spread_fits xs ws = nat_le 2 (length ws) && nat_le (files_in xs) (room ws)

unfoldable pub spread_into : List ℕ → List ℕ → List ℕ
spread_into xs ws = pick (spread_fits xs ws) (rewritten (weight_in xs) (entries_in xs) ws) ws

-- what is stored, with other references
abbrev pub renamed : (ℕ → ℕ) → List ℕ → List ℕ
renamed g xs = take 2 xs ++ (each g (references_of xs) ++ data_of xs)

-- an entry, with another reference
abbrev pub renamed_entry : (ℕ → ℕ) → File → File
renamed_entry g f = entry f.path (g (reference_of f))
