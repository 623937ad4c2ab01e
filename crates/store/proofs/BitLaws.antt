-- Laws of the bitmap. Assumes nothing.
use Rattle.std.proofs.Common.{◌≡◌, ℕ, zero, suc, ◌+◌, ◌*◌, ◌/◌, ◌%◌, ◌^◌, ◌<◌, ◌≤◌, ◌≢◌, max, Bool, true, false, ◌&&◌, eqb, ltb, ◌⊎◌, List, [], ◌∷◌, length, get_or, set, replicate, Some, None, Option, sym, refl, ap, ◌∙◌, subst, inl, inr, arith, length-set}
use lib.Bits.{bit_or, or_lt}
use lib.ListN.{length-replicate}
use Rattle.std.specs.Int.{bit_at}
use Rattle.std.proofs.lemmas.Nat.{pow_below}
use Rattle.std.proofs.lemmas.Nat.Bits.{bit_at-zero, bit_at-lt, bit_at_or, bit_at-pow_same, bit_at-pow_other}
use Rattle.std.proofs.lemmas.List.{get_or_past, set_past, get_or-set_same, get_or-set_other, get_or-replicate}
use Rattle.std.proofs.lemmas.Bool.{cases_lt, cases_eq, eq-eqb, ne_eqb, lt-ltb, le-ltb, and_left, and_right, and_from}
use Rattle.pages.specs.Lists.{pick, or, zeros}
use Rattle.pages.specs.Words.{small}
use Rattle.pages.proofs.WordLaws.{small_first, small_from, small_get_or}
use Rattle.store.specs.Bitmap.{bit, with_bit, with_run, highest, lowest, BitsSet, RunSet, HighestIs, LowestIs, Finds, AllClear}

pub bit_past : (ws : List ℕ) (u : ℕ) → length ws ≤ u / 64 → bit ws u ≡ false
bit_past ws u h = ap (λ w. eqb (bit_at w (u % 64)) 1) (get_or_past ws (u / 64) 0 h) ∙ ap (λ b. eqb b 1) (bit_at-zero (u % 64))

-- a bit set, and the others as they were
pub set_here : (ws : List ℕ) (u : ℕ) → u / 64 < length ws → bit (with_bit ws u) u ≡ true
set_here ws u h =
    let w : ℕ = get_or ws (u / 64) 0 in
    let k : ℕ = u % 64 in
    let e : bit_at (bit_or w (2 ^ k)) k ≡ 1 = bit_at_or w (2 ^ k) k ∙ ap (max (bit_at w k)) (bit_at-pow_same k) ∙ omega (arith, bit_at-lt w k) in
    ap (λ x. eqb (bit_at x k) 1) (get_or-set_same ws (u / 64) (bit_or w (2 ^ k)) 0 h) ∙ ap (λ x. eqb x 1) e

pub set_elsewhere : (ws : List ℕ) (u v : ℕ) → (u ≡ v → ⊥) → bit (with_bit ws u) v ≡ bit ws v
set_elsewhere ws u v ne = go (cases_eq (v / 64) (u / 64))
  where
    w : ℕ
    w = get_or ws (u / 64) 0

    inside : v / 64 ≡ u / 64 → (u / 64 < length ws) ⊎ (length ws ≤ u / 64) → bit (with_bit ws u) v ≡ bit ws v
    inside e (inl h) =
        let k : ℕ = v % 64 in
        let apart : k ≢ u % 64 = λ x. ne (omega arith) in
        let f : bit_at (bit_or w (2 ^ (u % 64))) k ≡ bit_at w k = bit_at_or w (2 ^ (u % 64)) k ∙ ap (max (bit_at w k)) (bit_at-pow_other (u % 64) k apart) ∙ omega arith in
        ap (λ i. eqb (bit_at (get_or (with_bit ws u) i 0) k) 1) e ∙ ap (λ x. eqb (bit_at x k) 1) (get_or-set_same ws (u / 64) (bit_or w (2 ^ (u % 64))) 0 h)
        ∙ ap (λ x. eqb x 1) f ∙ ap (λ i. eqb (bit_at (get_or ws i 0) k) 1) (sym e)
    inside e (inr h) = ap (λ xs. bit xs v) (set_past ws (u / 64) (bit_or w (2 ^ (u % 64))) h)

    go : (v / 64 ≡ u / 64) ⊎ (v / 64 ≡ u / 64 → ⊥) → bit (with_bit ws u) v ≡ bit ws v
    go (inl e) = inside e (cases_lt (u / 64) (length ws))
    go (inr n) = ap (λ x. eqb (x / 2 ^ (v % 64) % 2) 1) (get_or-set_other ws (u / 64) (v / 64) (bit_or w (2 ^ (u % 64))) 0 n)

pub bits_set : BitsSet
bits_set ws u v = (go (cases_eq u v) (cases_lt u (64 * length ws)), length-set ws (u / 64) (bit_or (get_or ws (u / 64) 0) (2 ^ (u % 64))))
  where
    go : (u ≡ v) ⊎ (u ≡ v → ⊥) → (u < 64 * length ws) ⊎ (64 * length ws ≤ u) → bit (with_bit ws u) v ≡ or (eqb u v && ltb u (64 * length ws)) (bit ws v)
    go (inl e) (inl h) =
        ap (bit (with_bit ws u)) (sym e) ∙ set_here ws u (omega arith)
        ∙ sym (ap (λ b. or b (bit ws v)) (and_from (eqb u v) (ltb u (64 * length ws)) (eq-eqb u v e) (lt-ltb u (64 * length ws) h)))
    go (inl e) (inr h) =
        ap (λ xs. bit xs v) (set_past ws (u / 64) (bit_or (get_or ws (u / 64) 0) (2 ^ (u % 64))) (omega arith))
        ∙ sym (ap (λ b. or b (bit ws v)) (and_right (eqb u v) (ltb u (64 * length ws)) (le-ltb u (64 * length ws) h)))
    go (inr n) h = set_elsewhere ws u v n ∙ sym (ap (λ b. or b (bit ws v)) (and_left (eqb u v) (ltb u (64 * length ws)) (ne_eqb u v n)))

-- words stay below 2^64
pub small_set : (ws : List ℕ) (i w : ℕ) → small ws ≡ true → w < 2 ^ 64 → small (set ws i w) ≡ true
small_set [] i w h l = h
small_set (x ∷ ws) zero w h l = small_from w ws l (small_first x ws h).1
small_set (x ∷ ws) (suc i) w h l = small_from x (set ws i w) (small_first x ws h).0 (small_set ws i w (small_first x ws h).1 l)

pub small_with_bit : (ws : List ℕ) (u : ℕ) → small ws ≡ true → small (with_bit ws u) ≡ true
small_with_bit ws u h =
    small_set ws (u / 64) (bit_or (get_or ws (u / 64) 0) (2 ^ (u % 64))) h
    (or_lt 64 (get_or ws (u / 64) 0) (2 ^ (u % 64)) (small_get_or ws (u / 64) h) (pow_below (u % 64) 64 (omega arith)))

pub small_with_run : (n from : ℕ) (ws : List ℕ) → small ws ≡ true → small (with_run n from ws) ≡ true
unfolding with_run
small_with_run zero from ws h = h
small_with_run (suc n) from ws h = small_with_run n (from + 1) (with_bit ws from) (small_with_bit ws from h)

-- a run of bits
pub run_set : RunSet
unfolding with_run
run_set zero ws from v = (λ lo hi inside. absurd (omega arith), λ _. refl, refl)
run_set (suc n) ws from v =
    let r = run_set n (with_bit ws from) (from + 1) v in
    let l : length (with_bit ws from) ≡ length ws = (bits_set ws from v).1 in (
      λ lo hi inside. go lo hi inside l r.0 r.1 (cases_eq from v),
      λ out. r.1 (outside out) ∙ set_elsewhere ws from v (apart out),
      r.2 ∙ l,
    )
  where
    outside : (v < from) ⊎ (from + suc n ≤ v) → (v < from + 1) ⊎ (from + 1 + n ≤ v)
    outside (inl h) = inl (omega arith)
    outside (inr h) = inr (omega arith)

    apart : (v < from) ⊎ (from + suc n ≤ v) → from ≡ v → ⊥
    apart (inl h) e = omega arith
    apart (inr h) e = omega arith

    go : from ≤ v → v < from + suc n → v < 64 * length ws → length (with_bit ws from) ≡ length ws →
        (from + 1 ≤ v → v < from + 1 + n → v < 64 * length (with_bit ws from) → bit (with_run n (from + 1) (with_bit ws from)) v ≡ true) →
        ((v < from + 1) ⊎ (from + 1 + n ≤ v) → bit (with_run n (from + 1) (with_bit ws from)) v ≡ bit (with_bit ws from) v) → (from ≡ v) ⊎ (from ≡ v → ⊥) →
        bit (with_run n (from + 1) (with_bit ws from)) v ≡ true
    go lo hi inside l later before (inl e) = before (inl (omega arith)) ∙ ap (bit (with_bit ws from)) (sym e) ∙ set_here ws from (omega arith)
    go lo hi inside l later before (inr ne) = later (omega arith) (omega arith) (omega arith)

-- SEARCHES
highest_finds : (p : ℕ → Bool) (n : ℕ) → HighestIs p n (highest p n)
unfolding highest
highest_finds p zero = λ v h. absurd (omega arith)
highest_finds p (suc n) = go (p n) refl (highest p n) (highest_finds p n)
  where
    last : (v : ℕ) → p n ≡ false → v < suc n → (v < n → p v ≡ false) → (v < n) ⊎ (n ≤ v) → p v ≡ false
    last v e hi f (inl l) = f l
    last v e hi f (inr l) = let q : n ≡ v = omega arith in subst (λ i. p i ≡ false) q e

    go : (b : Bool) → p n ≡ b → (o : Option ℕ) → HighestIs p n o → HighestIs p (suc n) (pick b (Some n) o)
    go true e o x = (omega arith, e, λ v lo hi. absurd (omega arith))
    go false e (Some u) x = (omega (arith, x.0), x.1, λ v lo hi. last v e hi (x.2 v lo) (cases_lt v n))
    go false e None x = λ v hi. last v e hi (x v) (cases_lt v n)

lowest_finds : (p : ℕ → Bool) (n from : ℕ) → LowestIs p n from (lowest p n from)
unfolding lowest
lowest_finds p zero from = λ v lo hi. absurd (omega arith)
lowest_finds p (suc n) from = go (p from) refl (lowest p n (from + 1)) (lowest_finds p n (from + 1))
  where
    first : (v : ℕ) → p from ≡ false → from ≤ v → (from + 1 ≤ v → p v ≡ false) → (from < v) ⊎ (v ≤ from) → p v ≡ false
    first v e lo f (inl l) = f (omega arith)
    first v e lo f (inr l) = let q : from ≡ v = omega arith in subst (λ i. p i ≡ false) q e

    go : (b : Bool) → p from ≡ b → (o : Option ℕ) → LowestIs p n (from + 1) o → LowestIs p (suc n) from (pick b (Some from) o)
    go true e o x = (omega arith, omega arith, e, λ v lo hi. absurd (omega arith))
    go false e (Some u) x = (omega (arith, x.0), omega (arith, x.1), x.2, λ v lo hi. first v e lo (λ l. x.3 v l hi) (cases_lt from v))
    go false e None x = λ v lo hi. first v e lo (λ l. x v l (omega arith)) (cases_lt from v)

pub finds : Finds
finds p n from = (highest_finds p n, lowest_finds p n from)

-- a cleared map
pub zeros_are : (n : ℕ) → zeros n ≡ replicate n 0
unfolding zeros
zeros_are zero = refl
zeros_are (suc n) = ap (λ ws. 0 ∷ ws) (zeros_are n)

pub all_clear : AllClear
all_clear n u = ap (λ ws. bit ws u) (zeros_are n) ∙ go (cases_lt (u / 64) n)
  where
    go : (u / 64 < n) ⊎ (n ≤ u / 64) → bit (replicate n 0) u ≡ false
    go (inl h) = ap (λ w. eqb (bit_at w (u % 64)) 1) (get_or-replicate n (u / 64) 0 0 h) ∙ ap (λ b. eqb b 1) (bit_at-zero (u % 64))
    go (inr h) = bit_past (replicate n 0) u (rw length-replicate h)
