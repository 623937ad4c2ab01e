-- How far a block is worked in: its schedule is made beside the rounds, sixteen words ahead. Assumes nothing: this is a definition.
use Rattle.std.specs.Prelude.{◌≡◌, ℕ, ◌+◌, List, length, take}
use Rattle.store.specs.declared.words.Words.{Words}
use Rattle.store.specs.Sha256.{schedule, rounds}

-- v are the working variables after t rounds from s on, w has the words of M's schedule for sixteen rounds more
pub record Mixed (M : List ℕ) (s : Words) (t : ℕ) (v : Words) (w : List ℕ) : Type 0 where
  pub size : length w ≡ 64
  pub ahead : take (t + 16) w ≡ schedule (t + 16) M
  pub done : v ≡ rounds t (schedule 64 M) s

-- whatever the block and the state that it started from, n rounds more
abbrev pub GoesOn : ℕ → ℕ → Words → List ℕ → Words → List ℕ → Type 0
GoesOn n t v w v' w' = (M : List ℕ) (s : Words) → Mixed M s t v w → Mixed M s (t + n) v' w'
