-- A row of bytes with a part of it written over. Assumes nothing: this is a definition.
use Rattle.std.specs.Prelude.{ℕ, ◌+◌, List, ◌++◌, length, take, drop}

abbrev pub over : List ℕ → ℕ → List ℕ → List ℕ
over row at bs = take at row ++ (bs ++ drop (at + length bs) row)
