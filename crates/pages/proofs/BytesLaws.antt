-- Laws of numbers in bytes: how many there are, that each is a byte, and that reading undoes writing, both ways.
use Rattle.std.proofs.Common.{◌≡◌, ℕ, zero, suc, ◌+◌, ◌*◌, ◌/◌, ◌%◌, ◌^◌, ◌<◌, ◌≤◌, true, ◌&&◌, ltb, List, [], ◌∷◌, ◌++◌, length, get_or, take, drop, sym, refl, ap, ◌∙◌, ap₂, append_assoc, append-nil, add-zero, add-suc, suc-add, pow-suc, zero-add, arith, length-append, length-drop, w8, Fits}
use mathlib.Core.Bool.{and_assoc}
use Rattle.std.proofs.lemmas.Bool.{ltb-true, lt-ltb, and_parts, and_from}
use Rattle.std.proofs.lemmas.List.{take_at, drop_at, take-append-drop, length-take-le}
use Rattle.pages.specs.Bytes.{in_bytes, eight, with_length, from_bytes, all_bytes}

pub length_in_bytes : (k n : ℕ) (bs : List ℕ) → length (in_bytes k n bs) ≡ k + length bs
unfolding in_bytes
length_in_bytes zero n bs = omega arith
length_in_bytes (suc k) n bs = omega (arith, length_in_bytes k (n / 256) (n % 256 ∷ bs))

pub length_eight : (n : ℕ) → length (eight n) ≡ 8
length_eight n = length_in_bytes 8 n []

pub length_with_length : (bs : List ℕ) → length (with_length bs) ≡ 8 + length bs
length_with_length bs = omega (arith, length-append (eight (length bs)) bs, length_eight (length bs))

pub all_bytes_append : (xs ys : List ℕ) → all_bytes (xs ++ ys) ≡ (all_bytes xs && all_bytes ys)
unfolding all_bytes
all_bytes_append [] ys = refl
all_bytes_append (x ∷ xs) ys = ap (λ b. ltb x 256 && b) (all_bytes_append xs ys) ∙ sym (and_assoc (ltb x 256) _ _)

pub all_bytes_in_bytes : (k n : ℕ) (bs : List ℕ) → all_bytes (in_bytes k n bs) ≡ all_bytes bs
unfolding in_bytes all_bytes
all_bytes_in_bytes zero n bs = refl
all_bytes_in_bytes (suc k) n bs =
    all_bytes_in_bytes k (n / 256) (n % 256 ∷ bs) ∙ ap (λ b. b && all_bytes bs) (lt-ltb (n % 256) 256 (omega arith))

all_bytes_parts : (k : ℕ) (xs : List ℕ) → all_bytes xs ≡ true → (all_bytes (take k xs) ≡ true) × (all_bytes (drop k xs) ≡ true)
all_bytes_parts k xs h =
    and_parts (all_bytes (take k xs)) (all_bytes (drop k xs)) (sym (all_bytes_append (take k xs) (drop k xs)) ∙ ap all_bytes (take-append-drop k xs) ∙ h)

pub all_bytes_take : (k : ℕ) (xs : List ℕ) → all_bytes xs ≡ true → all_bytes (take k xs) ≡ true
all_bytes_take k xs h = (all_bytes_parts k xs h).0

pub all_bytes_drop : (k : ℕ) (xs : List ℕ) → all_bytes xs ≡ true → all_bytes (drop k xs) ≡ true
all_bytes_drop k xs h = (all_bytes_parts k xs h).1

-- reading what was written
pub from_in_bytes : (k n : ℕ) (bs : List ℕ) → n < 256 ^ k → from_bytes 0 (in_bytes k n bs) ≡ from_bytes n bs
unfolding in_bytes from_bytes
from_in_bytes zero n bs h = let z : n ≡ 0 = omega arith in rw z
from_in_bytes (suc k) n bs h =
    from_in_bytes k (n / 256) (n % 256 ∷ bs) (omega (arith, pow-suc 256 k)) ∙ (let e : 256 * (n / 256) + n % 256 ≡ n = omega arith in ap (λ m. from_bytes m bs) e)

pub from_eight : (n : ℕ) → n < 2 ^ 64 → from_bytes 0 (eight n) ≡ n
unfolding from_bytes
from_eight n h = from_in_bytes 8 n [] h

pub eight_once : (m n : ℕ) → m < 2 ^ 64 → n < 2 ^ 64 → eight m ≡ eight n → m ≡ n
eight_once m n hm hn e = sym (from_eight m hm) ∙ ap (from_bytes 0) e ∙ from_eight n hn

-- writing what was read
pub in_from_bytes : (xs : List ℕ) (k n : ℕ) (ys : List ℕ) → all_bytes xs ≡ true → in_bytes (k + length xs) (from_bytes n xs) ys ≡ in_bytes k n (xs ++ ys)
unfolding in_bytes from_bytes all_bytes
in_from_bytes [] k n ys h = rw add-zero
in_from_bytes (x ∷ xs) k n ys h =
    let hs = and_parts (ltb x 256) (all_bytes xs) h in
    let b : x < 256 = ltb-true x 256 hs.0 in
    let d : (256 * n + x) / 256 ≡ n = omega arith in
    let r : (256 * n + x) % 256 ≡ x = omega arith in
    rw (add-suc k (length xs), ← suc-add k (length xs)) (in_from_bytes xs (suc k) (256 * n + x) ys hs.1 ∙ ap₂ (λ q b. in_bytes k q (b ∷ (xs ++ ys))) d r)

pub eight_from : (xs : List ℕ) → length xs ≡ 8 → all_bytes xs ≡ true → eight (from_bytes 0 xs) ≡ xs
unfolding in_bytes
eight_from xs l h =
    sym (ap (λ k. in_bytes k (from_bytes 0 xs) []) (zero-add (length xs) ∙ l)) ∙ in_from_bytes xs 0 0 [] h ∙ append-nil xs

pub from_bytes_below : (xs : List ℕ) (k n : ℕ) → all_bytes xs ≡ true → n < 256 ^ k → from_bytes n xs < 256 ^ (k + length xs)
unfolding from_bytes all_bytes
from_bytes_below [] k n h b = rw add-zero b
from_bytes_below (x ∷ xs) k n h b =
    let hs = and_parts (ltb x 256) (all_bytes xs) h in
    let l : x < 256 = ltb-true x 256 hs.0 in
    rw (add-suc k (length xs), ← suc-add k (length xs)) (from_bytes_below xs (suc k) (256 * n + x) hs.1 (omega (arith, pow-suc 256 k)))

-- a row with its length in front, cut again
pub cut_length : (bs t : List ℕ) → length bs < 2 ^ 64 → from_bytes 0 (take 8 (with_length bs ++ t)) ≡ length bs
cut_length bs t h =
    ap (from_bytes 0) (ap (take 8) (append_assoc (eight (length bs)) bs t) ∙ take_at (eight (length bs)) (bs ++ t) 8 (length_eight (length bs))) ∙ from_eight (length bs) h

pub cut_rest : (bs t : List ℕ) → drop 8 (with_length bs ++ t) ≡ bs ++ t
cut_rest bs t = ap (drop 8) (append_assoc (eight (length bs)) bs t) ∙ drop_at (eight (length bs)) (bs ++ t) 8 (length_eight (length bs))

-- and what is cut so was a row with its length in front
pub cut_back : (t : List ℕ) (n : ℕ) → all_bytes t ≡ true → n ≡ from_bytes 0 (take 8 t) → 8 + n ≤ length t → t ≡ with_length (take n (drop 8 t)) ++ drop n (drop 8 t)
cut_back t n h e l =
    let b = take n (drop 8 t) in
    let lb : length b ≡ n = length-take-le n (drop 8 t) (omega (arith, length-drop 8 t)) in
    let f : eight (length b) ≡ take 8 t = ap eight (lb ∙ e) ∙ eight_from (take 8 t) (length-take-le 8 t (omega arith)) (all_bytes_take 8 t h) in
    sym (ap (λ x. (x ++ b) ++ drop n (drop 8 t)) f ∙ append_assoc (take 8 t) b (drop n (drop 8 t)) ∙ ap (λ x. take 8 t ++ x) (take-append-drop n (drop 8 t)) ∙ take-append-drop 8 t)

-- what a proof about code knows of a slice of bytes
pub all_bytes_by : (xs : List ℕ) → ((i : ℕ) → Fits w8 (get_or xs i 0)) → all_bytes xs ≡ true
unfolding all_bytes
all_bytes_by [] h = refl
all_bytes_by (x ∷ xs) h = and_from (ltb x 256) (all_bytes xs) (lt-ltb x 256 (omega (arith, h 0))) (all_bytes_by xs (λ i. h (suc i)))
