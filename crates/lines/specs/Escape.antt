-- Text with escapes, and the bytes that it stands for.
use Rattle.std.specs.Prelude.{◌≡◌, ℕ, ◌<◌, cond, List, [], ◌∷◌, length, Some, None, Option, ◌==◌, ◌≢◌}
use Rattle.lines.specs.Hex.{byte_read}

-- \s \n \t \\
abbrev pub letter_read : ℕ → Option ℕ
letter_read c = cond (c == 115) (Some 32) (cond (c == 110) (Some 10) (cond (c == 116) (Some 9) (cond (c == 92) (Some 92) None)))

pub data Stands : List ℕ → List ℕ → Type 0 where
  nothing : Stands [] []
  itself : (b : ℕ) (text bytes : List ℕ) → (b ≢ 92) → Stands text bytes → Stands (b ∷ text) (b ∷ bytes)
  named : (c b : ℕ) (text bytes : List ℕ) → letter_read c ≡ Some b → Stands text bytes → Stands (92 ∷ c ∷ text) (b ∷ bytes)
  hexed : (h l b : ℕ) (text bytes : List ℕ) → byte_read h l ≡ Some b → Stands text bytes → Stands (92 ∷ 120 ∷ h ∷ l ∷ text) (b ∷ bytes)

-- the text stands for no bytes: in it a backslash begins no escape
abbrev pub StandsForNone : List ℕ → Type 0
StandsForNone text = (bytes : List ℕ) → Stands text bytes → ⊥

-- the front of the text stands for a byte, and the shorter rest is behind it
pub record Gives (text : List ℕ) (b : ℕ) (rest : List ℕ) : Type 0 where
  pub shorter : length rest < length text
  pub stands : (bytes : List ℕ) → Stands rest bytes → Stands text (b ∷ bytes)
  pub fails : StandsForNone rest → StandsForNone text
