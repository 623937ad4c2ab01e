-- Bytes in hexadecimal, and back.
use Rattle.std.specs.Prelude.{◌≡◌, ℕ, ◌+◌, ◌-◌, ◌*◌, ◌/◌, ◌%◌, Bool, true, cond, ◌&&◌, List, [], ◌∷◌, ◌++◌, take, Some, None, Option, nat_le, nat_lt}
use Rattle.pages.specs.Bytes.{all_bytes}

-- the digit of a number below 16
abbrev pub digit : ℕ → ℕ
digit n = cond (nat_lt n 10) (48 + n) (97 + (n - 10))

-- each byte is two digits
abbrev pub digits : List ℕ → List ℕ
digits [] = []
digits (b ∷ bs) = digit (b / 16) ∷ digit (b % 16) ∷ digits bs

-- some of the digits stand behind the text
abbrev pub Begun : List ℕ → List ℕ → List ℕ → Type 0
Begun old bytes new = (n : ℕ) × (new ≡ old ++ take n (digits bytes))

abbrev pub within : ℕ → ℕ → ℕ → Bool
within low high n = nat_le low n && nat_le n high

-- small letters and large ones
abbrev pub digit_read : ℕ → Option ℕ
digit_read d =
    cond (within 48 57 d) (Some (d - 48))
    (cond (within 97 102 d) (Some (d - 97 + 10))
    (cond (within 65 70 d) (Some (d - 65 + 10)) None))

abbrev pub two : Option ℕ → Option ℕ → Option ℕ
two (Some m) (Some n) = Some (16 * m + n)
two (Some m) None = None
two None (Some n) = None
two None None = None

abbrev pub byte_read : ℕ → ℕ → Option ℕ
byte_read high low = two (digit_read high) (digit_read low)

abbrev pub before : Option ℕ → Option (List ℕ) → Option (List ℕ)
before (Some b) (Some bs) = Some (b ∷ bs)
before (Some b) None = None
before None (Some bs) = None
before None None = None

abbrev pub bytes_read : List ℕ → Option (List ℕ)
bytes_read [] = Some []
bytes_read (d ∷ []) = None
bytes_read (high ∷ low ∷ ds) = before (byte_read high low) (bytes_read ds)

abbrev pub ReadBack : Type 0
ReadBack = (bs : List ℕ) → all_bytes bs ≡ true → bytes_read (digits bs) ≡ Some bs
