-- A tree in memory, as a row of words: the number of files, the weight, then ten words for each file by rising path: the path, eight bytes to a word
-- and padded with zeros (eight words), its length, and a reference, a number that stands for the file's bytes.
-- An entry is a file again: its path is the nine words of path and length, the key; its bytes are the one reference. Assumes nothing: these are definitions, total on any row.
use Rattle.std.specs.Prelude.{ℕ, zero, suc, ◌+◌, ◌-◌, ◌*◌, ◌/◌, min, Bool, not, ◌&&◌, List, [], ◌∷◌, ◌++◌, length, take, drop, Some, None, Ok, Err, Option, Result, nat_le, nat_lt, slice_index}
use Rattle.std.specs.Simd.{first_chunks}
use Rattle.pages.specs.Lists.{pick, each, flat, first_or, none_of, zeros}
use Rattle.pages.specs.Words.{words, bytes_of}
use Rattle.trees.specs.declared.rows.Refused.{Refused}
use Rattle.trees.specs.declared.rows.Refused.TheVariants.{Path, Full}
use Rattle.trees.specs.Tree.{File, Tree, found, put, without}

-- KEYS

-- a path that a row can hold
abbrev pub good_path : List ℕ → Bool
good_path p = nat_le 1 (length p) && nat_le (length p) 64

unfoldable pub key_of : List ℕ → List ℕ
key_of p = words 8 (p ++ zeros (64 - length p)) ++ length p ∷ []

-- the path that a key stands for
unfoldable pub path_of : List ℕ → List ℕ
path_of k = take (slice_index k 8) (bytes_of (take 8 k))

-- ENTRIES

abbrev pub entry : List ℕ → ℕ → File
entry k r = record { path = k; bytes = r ∷ [] }

-- the first entries of words, ten words to each
unfoldable pub cut : ℕ → List ℕ → Tree
cut zero ws = []
cut (suc n) ws = entry (take 9 ws) (slice_index ws 9) ∷ cut n (drop 10 ws)

-- ten words as an entry
abbrev pub as_entry : List ℕ → File
as_entry e = entry (take 9 e) (slice_index e 9)

-- the first words, ten and ten
abbrev pub tens : ℕ → List ℕ → List (List ℕ)
tens n ws = first_chunks 10 n ws

-- how many entries a row has room for
abbrev pub room : List ℕ → ℕ
room ws = min 4096 ((length ws - 2) / 10)

-- as many as the first word says, and no more than there is room for
abbrev pub held : List ℕ → ℕ
held ws = min (slice_index ws 0) (room ws)

abbrev pub entries_of : List ℕ → Tree
entries_of ws = cut (held ws) (drop 2 ws)

-- the reference of an entry, and those of a row
abbrev pub reference_of : File → ℕ
reference_of f = first_or 0 f.bytes

abbrev pub references : List ℕ → List ℕ
references ws = each reference_of (entries_of ws)

-- the ten words of an entry
abbrev pub in_words : File → List ℕ
in_words f = f.path ++ f.bytes

-- entries written at the front of words
abbrev pub laid : Tree → List ℕ → List ℕ
laid es ws = flat in_words es ++ drop (10 * length es) ws

-- a row with these entries and this weight in place of its own; what is behind them stays
unfoldable pub rewritten : ℕ → Tree → List ℕ → List ℕ
rewritten w es ws = length es ∷ w ∷ laid es (drop 2 ws)

-- WHAT IS DONE TO A ROW

abbrev pub reference_in : List (List ℕ) → Option ℕ
reference_in [] = None
reference_in (b ∷ bs) = Some (first_or 0 b)

-- the reference at a path
unfoldable pub find_in : List ℕ → List ℕ → Option ℕ
find_in p ws = pick (good_path p) (reference_in (found (entries_of ws) (key_of p))) None

-- the entries after a reference is put at a key
abbrev pub putting : List ℕ → ℕ → List ℕ → Tree
putting k r ws = put k (r ∷ []) (entries_of ws)

-- whether there is room for them
abbrev pub room_for : List ℕ → ℕ → List ℕ → Bool
room_for k r ws = nat_le (length (putting k r ws)) (room ws)

-- the weight grows with a new entry
abbrev pub weight_put : List ℕ → ℕ → ℕ → List ℕ → ℕ
weight_put k size r ws = pick (nat_lt (held ws) (length (putting k r ws))) (min (slice_index ws 1 + size) 18446744073709551615) (slice_index ws 1)

unfoldable pub put_key : List ℕ → ℕ → ℕ → List ℕ → List ℕ
put_key k size r ws = pick (room_for k r ws) (rewritten (weight_put k size r ws) (putting k r ws) ws) ws

-- an entry weighs 64 and the length of its path
unfoldable pub put_in : List ℕ → ℕ → List ℕ → List ℕ
put_in p r ws = pick (good_path p) (put_key (key_of p) (64 + length p) r ws) ws

-- done, or why not
unfoldable pub put_answer : List ℕ → ℕ → List ℕ → Result (Unit {0}) Refused
put_answer p r ws = pick (good_path p) (pick (room_for (key_of p) r ws) (Ok tt) (Err Full)) (Err Path)

-- whether there is an entry
abbrev pub has_key : List ℕ → List ℕ → Bool
has_key k ws = not (none_of (found (entries_of ws) k))

unfoldable pub take_key : List ℕ → ℕ → List ℕ → List ℕ
take_key k size ws = pick (has_key k ws) (rewritten (slice_index ws 1 - size) (without k (entries_of ws)) ws) ws

unfoldable pub take_from : List ℕ → List ℕ → List ℕ
take_from p ws = pick (good_path p) (take_key (key_of p) (64 + length p) ws) ws

unfoldable pub taken_from : List ℕ → List ℕ → Bool
taken_from p ws = good_path p && has_key (key_of p) ws
