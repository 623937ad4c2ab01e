-- A list that only grows at its end. Assumes nothing: this is a definition.
use Rattle.std.specs.Prelude.{◌≡◌, List, length, take}

abbrev pub Grown : {A : Type 0} → List A → List A → Type 0
Grown old new = take (length old) new ≡ old
