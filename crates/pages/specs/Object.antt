-- Objects on the tape. An object's first word says how many words it has, how many of them are references, and of what kind it is; its second is what it
-- weighs by itself; then come its references, then all else. It starts at a multiple of eight words, a unit; a reference is one more than the unit where an
-- earlier object starts, and 0 is none. Assumes nothing: these are definitions.
use Rattle.std.specs.Prelude.{ℕ, ◌+◌, ◌-◌, ◌*◌, ◌/◌, ◌%◌, List, take, drop, slice_index}

abbrev pub heading : (kind references size : ℕ) → ℕ
heading kind references size = size + 4294967296 * references + 281474976710656 * kind

abbrev pub size_in : ℕ → ℕ
size_in w = w % 4294967296

abbrev pub references_in : ℕ → ℕ
references_in w = w / 4294967296 % 65536

abbrev pub kind_in : ℕ → ℕ
kind_in w = w / 281474976710656

-- of an object's words
abbrev pub size_of : List ℕ → ℕ
size_of o = size_in (slice_index o 0)

abbrev pub kind_of : List ℕ → ℕ
kind_of o = kind_in (slice_index o 0)

abbrev pub own_weight : List ℕ → ℕ
own_weight o = slice_index o 1

abbrev pub references_of : List ℕ → List ℕ
references_of o = take (references_in (slice_index o 0)) (drop 2 o)

-- all that lies behind the references
abbrev pub data_of : List ℕ → List ℕ
data_of o = drop (2 + references_in (slice_index o 0)) o

-- the words of the object that a reference names
unfoldable pub object_at : List ℕ → ℕ → List ℕ
object_at t r = take (size_in (slice_index t (8 * (r - 1)))) (drop (8 * (r - 1)) t)
