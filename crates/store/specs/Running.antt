-- The sum of a message that comes in pieces. Assumes nothing: these are definitions.
use Rattle.std.specs.Prelude.{◌≡◌, ℕ, ◌+◌, ◌*◌, ◌/◌, ◌%◌, ◌^◌, List, [], ◌++◌, length, take, drop}
use Rattle.store.specs.declared.words.Words.{Words}
use Rattle.store.specs.declared.hasher.Hasher.{Hasher}
use Rattle.store.specs.Sha256.{initial, padding, hashed, digest}

-- the hash value after all whole blocks so far, the bytes that wait for a whole one, and the number of all bytes, modulo 2 ^ 64
pub record Progress : Type 0 where
  pub state : Words
  pub waiting : List ℕ
  pub count : ℕ

abbrev pub fresh : Progress
fresh = record { state = initial; waiting = []; count = 0 }

-- what a hasher has come to
abbrev pub progress : Hasher → Progress
progress h = record { state = h.state; waiting = take (h.count % 64) h.buffer; count = h.count }

-- as many blocks of all that waits are taken as are whole
abbrev pub taken : Words → List ℕ → ℕ → Progress
taken s all n = record { state = hashed (length all / 64) s all; waiting = drop (64 * (length all / 64)) all; count = n % 2 ^ 64 }

unfoldable pub added : Progress → List ℕ → Progress
added p bs = taken p.state (p.waiting ++ bs) (p.count + length bs)

unfoldable pub finished : Progress → List ℕ
finished p =
    digest (hashed (length (p.waiting ++ padding p.count) / 64) p.state (p.waiting ++ padding p.count))

-- a hasher that was given just the bytes of m, however they were cut
abbrev pub Fed : Hasher → List ℕ → Type 0
Fed h m = progress h ≡ added fresh m
