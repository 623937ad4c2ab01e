-- SHA-256 as FIPS 180-4 has it, under the standard's names, over bytes: a message is a list of bytes, a word a number below
-- 2 ^ 32. (Of a list with larger numbers the definitions still say something; no code can hold one.)
-- Assumes nothing: these are definitions.
use Rattle.std.specs.Prelude.{ℕ, zero, suc, ◌+◌, ◌-◌, ◌*◌, ◌/◌, ◌%◌, ◌^◌, List, [], ◌∷◌, ◌++◌, length, take, drop, replicate, bit_and, bit_or, bit_xor, nat_lt, slice_index, slice_index_or}
use Rattle.pages.specs.Lists.{pick, flat}
use Rattle.pages.specs.Bytes.{in_bytes, eight}
use Rattle.store.specs.declared.words.Words.{Words}

-- operations on words: the sum modulo 2 ^ 32, the complement, the shift and the rotation to the right
infixl 60 ◌⊞◌
abbrev pub ◌⊞◌ : ℕ → ℕ → ℕ
x ⊞ y = (x + y) % 2 ^ 32

abbrev pub NOT : ℕ → ℕ
NOT x = 2 ^ 32 - 1 - x

abbrev pub SHR : ℕ → ℕ → ℕ
SHR n x = x / 2 ^ n

abbrev pub ROTR : ℕ → ℕ → ℕ
ROTR n x = bit_or (x / 2 ^ n) (x * 2 ^ (32 - n) % 2 ^ 32)

-- the six functions, each of words to a word
unfoldable pub Ch : ℕ → ℕ → ℕ → ℕ
Ch x y z = bit_xor (bit_and x y) (bit_and (NOT x) z)

unfoldable pub Maj : ℕ → ℕ → ℕ → ℕ
Maj x y z = bit_xor (bit_xor (bit_and x y) (bit_and x z)) (bit_and y z)

unfoldable pub Σ₀ : ℕ → ℕ
Σ₀ x = bit_xor (bit_xor (ROTR 2 x) (ROTR 13 x)) (ROTR 22 x)

unfoldable pub Σ₁ : ℕ → ℕ
Σ₁ x = bit_xor (bit_xor (ROTR 6 x) (ROTR 11 x)) (ROTR 25 x)

unfoldable pub σ₀ : ℕ → ℕ
σ₀ x = bit_xor (bit_xor (ROTR 7 x) (ROTR 18 x)) (SHR 3 x)

unfoldable pub σ₁ : ℕ → ℕ
σ₁ x = bit_xor (bit_xor (ROTR 17 x) (ROTR 19 x)) (SHR 10 x)

-- the 64 constants: the first 32 bits of the fractional parts of the cube roots of the first 64 primes
unfoldable pub K : List ℕ
K =
    0x428a_2f98 ∷ 0x7137_4491 ∷ 0xb5c0_fbcf ∷ 0xe9b5_dba5 ∷ 0x3956_c25b ∷ 0x59f1_11f1 ∷ 0x923f_82a4 ∷ 0xab1c_5ed5 ∷
    0xd807_aa98 ∷ 0x1283_5b01 ∷ 0x2431_85be ∷ 0x550c_7dc3 ∷ 0x72be_5d74 ∷ 0x80de_b1fe ∷ 0x9bdc_06a7 ∷ 0xc19b_f174 ∷
    0xe49b_69c1 ∷ 0xefbe_4786 ∷ 0x0fc1_9dc6 ∷ 0x240c_a1cc ∷ 0x2de9_2c6f ∷ 0x4a74_84aa ∷ 0x5cb0_a9dc ∷ 0x76f9_88da ∷
    0x983e_5152 ∷ 0xa831_c66d ∷ 0xb003_27c8 ∷ 0xbf59_7fc7 ∷ 0xc6e0_0bf3 ∷ 0xd5a7_9147 ∷ 0x06ca_6351 ∷ 0x1429_2967 ∷
    0x27b7_0a85 ∷ 0x2e1b_2138 ∷ 0x4d2c_6dfc ∷ 0x5338_0d13 ∷ 0x650a_7354 ∷ 0x766a_0abb ∷ 0x81c2_c92e ∷ 0x9272_2c85 ∷
    0xa2bf_e8a1 ∷ 0xa81a_664b ∷ 0xc24b_8b70 ∷ 0xc76c_51a3 ∷ 0xd192_e819 ∷ 0xd699_0624 ∷ 0xf40e_3585 ∷ 0x106a_a070 ∷
    0x19a4_c116 ∷ 0x1e37_6c08 ∷ 0x2748_774c ∷ 0x34b0_bcb5 ∷ 0x391c_0cb3 ∷ 0x4ed8_aa4a ∷ 0x5b9c_ca4f ∷ 0x682e_6ff3 ∷
    0x748f_82ee ∷ 0x78a5_636f ∷ 0x84c8_7814 ∷ 0x8cc7_0208 ∷ 0x90be_fffa ∷ 0xa450_6ceb ∷ 0xbef9_a3f7 ∷ 0xc671_78f2 ∷ []

-- the initial hash value: the same of the square roots of the first eight primes
unfoldable pub initial : Words
initial =
    record { a = 0x6a09_e667; b = 0xbb67_ae85; c = 0x3c6e_f372; d = 0xa54f_f53a; e = 0x510e_527f; f = 0x9b05_688c; g = 0x1f83_d9ab; h = 0x5be0_cd19 }

-- padding after l bytes: the bit 1, the fewest bits 0 that leave 64 bits of a block, and the length in bits as 64 bits
abbrev pub zero_bytes : ℕ → ℕ
zero_bytes l = (119 - l % 64) % 64

unfoldable pub padding : ℕ → List ℕ
padding l = 0x80 ∷ (replicate (zero_bytes l) 0 ++ eight (8 * l))

abbrev pub padded : List ℕ → List ℕ
padded m = m ++ padding (length m)

-- block i of a message: 512 bits
abbrev pub block : ℕ → List ℕ → List ℕ
block i m = take 64 (drop (64 * i) m)

-- word t of a block: 32 bits, the highest first
abbrev pub word : List ℕ → ℕ → ℕ
word M t = slice_index M (4 * t) * 2 ^ 24 + slice_index M (4 * t + 1) * 2 ^ 16 + slice_index M (4 * t + 2) * 2 ^ 8 + slice_index M (4 * t + 3)

-- word t of the message schedule, from the words W before it: a word of the block, and then
abbrev pub extension : List ℕ → ℕ → ℕ
extension W t = σ₁ (slice_index W (t - 2)) ⊞ slice_index_or W (t - 7) 0 ⊞ σ₀ (slice_index W (t - 15)) ⊞ slice_index_or W (t - 16) 0

unfoldable pub next_word : List ℕ → ℕ → List ℕ → ℕ
next_word M t W = pick (nat_lt t 16) (word M t) (extension W t)

-- the first t words of the message schedule of a block
unfoldable pub schedule : ℕ → List ℕ → List ℕ
schedule zero M = []
schedule (suc t) M = schedule t M ++ next_word M t (schedule t M) ∷ []

-- one round on the eight working variables
abbrev pub T₁ : ℕ → ℕ → Words → ℕ
T₁ k w s = s.h ⊞ Σ₁ s.e ⊞ Ch s.e s.f s.g ⊞ k ⊞ w

abbrev pub T₂ : Words → ℕ
T₂ s = Σ₀ s.a ⊞ Maj s.a s.b s.c

unfoldable pub round : ℕ → ℕ → Words → Words
round k w s =
    record { a = T₁ k w s ⊞ T₂ s; b = s.a; c = s.b; d = s.c; e = s.d ⊞ T₁ k w s; f = s.e; g = s.f; h = s.g }

-- the working variables after t rounds
unfoldable pub rounds : ℕ → List ℕ → Words → Words
rounds zero W s = s
rounds (suc t) W s = round (slice_index K t) (slice_index W t) (rounds t W s)

abbrev pub plus : Words → Words → Words
plus s v =
    record { a = s.a ⊞ v.a; b = s.b ⊞ v.b; c = s.c ⊞ v.c; d = s.d ⊞ v.d; e = s.e ⊞ v.e; f = s.f ⊞ v.f; g = s.g ⊞ v.g; h = s.h ⊞ v.h }

-- the next hash value, from the one before and a block
unfoldable pub compressed : Words → List ℕ → Words
compressed H M = plus H (rounds 64 (schedule 64 M) H)

-- the hash value after the first i blocks of m
unfoldable pub hashed : ℕ → Words → List ℕ → Words
hashed zero H m = H
hashed (suc i) H m = compressed (hashed i H m) (block i m)

-- a hash value as eight words, and as 32 bytes
abbrev pub words_of : Words → List ℕ
words_of s = s.a ∷ s.b ∷ s.c ∷ s.d ∷ s.e ∷ s.f ∷ s.g ∷ s.h ∷ []

unfoldable pub digest : Words → List ℕ
digest s = flat (λ w. in_bytes 4 w []) (words_of s)

unfoldable pub sha256 : List ℕ → List ℕ
sha256 m = digest (hashed (length (padded m) / 64) initial (padded m))
