-- Bytes in hexadecimal, and back.
use Rattle.std.proofs.Common.{◌≡◌, ℕ, ◌+◌, ◌*◌, ◌/◌, ◌%◌, ◌<◌, ◌≤◌, Bool, true, ◌&&◌, ltb, List, [], ◌∷◌, ◌++◌, length, get_or, take, drop, Some, None, Option, sym, refl, ap, ◌∙◌, append_assoc, arith, zero, suc, eqb, Vec, Global, vec_items, MatchOption, append-nil}
use Rattle.std.specs.Simd.{first_chunks}
use Rattle.std.specs.Bool.{then_some}
use Rattle.std.proofs.lemmas.List.{take_more}
use Rattle.std.proofs.lemmas.Bool.Decides.{nat_tests}
use Rattle.pages.specs.Bytes.{all_bytes}
use Rattle.lines.specs.Hex.{Begun, ReadBack, before, byte_read, bytes_read, digit, digit_read, digits}

pub digits-++ : (xs ys : List ℕ) → digits (xs ++ ys) ≡ digits xs ++ digits ys
digits-++ [] ys = refl
digits-++ (x ∷ xs) ys = ap (λ r. digit (x / 16) ∷ digit (x % 16) ∷ r) (digits-++ xs ys)

pub digit_back : (n : ℕ) → n < 16 → digit_read (digit n) ≡ Some n
digit_back n h = grind (arith, nat_tests)

pub byte_back : (b : ℕ) → b < 256 → byte_read (digit (b / 16)) (digit (b % 16)) ≡ Some b
byte_back b h =
    let high : b / 16 < 16 = omega arith in
    let low : b % 16 < 16 = omega arith in
    let whole : 16 * (b / 16) + b % 16 ≡ b = omega arith in
    rw (digit_back (b / 16) high, digit_back (b % 16) low) (ap Some whole)

-- what was read, in front of what is still to be read
abbrev pub behind : List ℕ → Option (List ℕ) → Option (List ℕ)
behind xs (Some ys) = Some (xs ++ ys)
behind xs None = None

pub behind_more : (xs : List ℕ) (b : ℕ) (o : Option (List ℕ)) → behind xs (before (Some b) o) ≡ behind (xs ++ b ∷ []) o
behind_more xs b (Some ys) = ap Some (simp append_assoc)
behind_more xs b None = refl

pub and_right : (a b : Bool) → a && b ≡ true → b ≡ true
and_right a b h = grind arith

pub read_back : ReadBack
unfolding all_bytes
read_back [] h = refl
read_back (b ∷ bs) h =
    let small : b < 256 = grind (arith, nat_tests) in
    let rest : bytes_read (digits bs) ≡ Some bs = read_back bs (and_right (ltb b 256) (all_bytes bs) h) in
    rw (byte_back b small, rest)

-- one byte more, in digits
pub digits_more : (bytes : List ℕ) (i : ℕ) (old items items' items'' : List ℕ) → i < length bytes → items ≡ old ++ digits (take i bytes)
    → items' ≡ items ++ digit (get_or bytes i 0 / 16) ∷ [] → items'' ≡ items' ++ digit (get_or bytes i 0 % 16) ∷ [] → items'' ≡ old ++ digits (take (i + 1) bytes)
digits_more bytes i old items items' items'' h e f g =
    rw (g, f, e, take_more bytes i 0 h, digits-++ (take i bytes) (get_or bytes i 0 ∷ [])) (simp append_assoc)

-- the digits of the first few bytes are the first few digits
pub digits_front : (bytes : List ℕ) (i : ℕ) → i ≤ length bytes → digits (take i bytes) ≡ take (2 * i) (digits bytes)
digits_front bs zero h = refl
digits_front [] (suc i) h = absurd (omega arith)
digits_front (b ∷ bs) (suc i) h =
    let two : suc (suc (2 * i)) ≡ 2 * suc i = omega arith in
    ap (λ r. digit (b / 16) ∷ digit (b % 16) ∷ r) (digits_front bs i (omega arith)) ∙ ap (λ n. take n (digits (b ∷ bs))) two

-- and one digit more
pub digits_half : (bytes : List ℕ) (i : ℕ) → i < length bytes → digits (take i bytes) ++ digit (get_or bytes i 0 / 16) ∷ [] ≡ take (2 * i + 1) (digits bytes)
digits_half [] i h = absurd (omega arith)
digits_half (b ∷ bs) zero h = refl
digits_half (b ∷ bs) (suc i) h =
    let two : suc (suc (2 * i + 1)) ≡ 2 * suc i + 1 = omega arith in
    ap (λ r. digit (b / 16) ∷ digit (b % 16) ∷ r) (digits_half bs i (omega arith)) ∙ ap (λ n. take n (digits (b ∷ bs))) two

-- whole bytes stand there, or one digit more
pub begun : (bytes : List ℕ) (i : ℕ) (old items : List ℕ) → i ≤ length bytes → items ≡ old ++ digits (take i bytes) → Begun old bytes items
begun bytes i old items h e = (2 * i, e ∙ ap (λ r. old ++ r) (digits_front bytes i h))

pub begun_half : (bytes : List ℕ) (i : ℕ) (old items items' : List ℕ) → i < length bytes → items ≡ old ++ digits (take i bytes)
    → items' ≡ items ++ digit (get_or bytes i 0 / 16) ∷ [] → Begun old bytes items'
begun_half bytes i old items items' h e f = (
  2 * i + 1,
  f ∙ ap (λ r. r ++ digit (get_or bytes i 0 / 16) ∷ []) e ∙ append_assoc old (digits (take i bytes)) (digit (get_or bytes i 0 / 16) ∷ [])
      ∙ ap (λ r. old ++ r) (digits_half bytes i h),
)

pub pair_at : (k i : ℕ) (xs : List ℕ) → i < k → 2 * k ≤ length xs →
    drop (2 * i) xs ≡ get_or (get_or (first_chunks 2 k xs) i []) 0 0 ∷ get_or (get_or (first_chunks 2 k xs) i []) 1 0 ∷ drop (2 * (i + 1)) xs
pair_at zero i xs lt h = absurd (omega arith)
pair_at (suc k) i [] lt h = absurd (omega arith)
pair_at (suc k) i (x ∷ []) lt h = absurd (omega arith)
pair_at (suc k) zero (x ∷ y ∷ zs) lt h = refl
pair_at (suc k) (suc i) (x ∷ y ∷ zs) lt h =
    let a : 2 * suc i ≡ suc (suc (2 * i)) = omega arith in
    let b : suc (suc (2 * (i + 1))) ≡ 2 * (suc i + 1) = omega arith in
    ap (λ m. drop m (x ∷ y ∷ zs)) a ∙ pair_at k i zs (omega arith) (omega arith)
    ∙ ap (λ m. get_or (get_or (first_chunks 2 k zs) i []) 0 0 ∷ get_or (get_or (first_chunks 2 k zs) i []) 1 0 ∷ drop m (x ∷ y ∷ zs)) b

-- the pairs and what is left behind them
pub next_pair : (xs : List ℕ) (ps : List (List ℕ)) (i : ℕ) → ps ≡ first_chunks 2 (length xs / 2) xs → i < length ps → length ps ≡ length xs / 2 →
    drop (2 * i) xs ≡ get_or (get_or ps i []) 0 0 ∷ get_or (get_or ps i []) 1 0 ∷ drop (2 * (i + 1)) xs
next_pair xs ps i e lt l =
    pair_at (length xs / 2) i xs (omega arith) (omega arith)
    ∙ ap (λ qs. get_or (get_or qs i []) 0 0 ∷ get_or (get_or qs i []) 1 0 ∷ drop (2 * (i + 1)) xs) (sym e)

none_before : (items : List ℕ) (o : Option (List ℕ)) → behind items (before None o) ≡ None
none_before items (Some ys) = refl
none_before items None = refl

pub read_none : (text rest after items : List ℕ) (high low : ℕ) → bytes_read text ≡ behind items (bytes_read rest) → rest ≡ high ∷ low ∷ after
    → None ≡ byte_read high low → bytes_read text ≡ None
read_none text rest after items high low inv e r =
    inv ∙ ap (λ t. behind items (bytes_read t)) e ∙ ap (λ o. behind items (before o (bytes_read after))) (sym r) ∙ none_before items (bytes_read after)

pub read_all : (text odd : List ℕ) (v : Vec ℕ Global) → length odd < 2 → bytes_read text ≡ behind (vec_items v) (bytes_read odd) →
    MatchOption (then_some (eqb (length odd) 0) v) (bytes_read text ≡ None) (λ w. bytes_read text ≡ Some w.items)
read_all text [] v h e = e ∙ ap Some (append-nil (vec_items v))
read_all text (d ∷ []) v h e = e
read_all text (d ∷ f ∷ ds) v h e = absurd (omega arith)

-- one byte more is read
pub read_more : (text rest after items items' : List ℕ) (high low b : ℕ) → bytes_read text ≡ behind items (bytes_read rest) → rest ≡ high ∷ low ∷ after
    → Some b ≡ byte_read high low → items' ≡ items ++ b ∷ [] → bytes_read text ≡ behind items' (bytes_read after)
read_more text rest after items items' high low b inv e r g =
    inv ∙ ap (λ t. behind items (bytes_read t)) e ∙ ap (λ o. behind items (before o (bytes_read after))) (sym r) ∙ behind_more items b (bytes_read after)
    ∙ ap (λ t. behind t (bytes_read after)) (sym g)
