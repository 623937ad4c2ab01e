-- Searches of the map by words: the nearest word that has bits, and its highest or lowest bit.
use Rattle.std.proofs.Common.{◌≡◌, ℕ, suc, ◌+◌, ◌-◌, ◌*◌, ◌/◌, ◌%◌, ◌^◌, ◌<◌, ◌≤◌, min, Bool, true, false, eqb, ◌⊎◌, List, length, get_or, drop, Some, None, Option, sym, refl, ap, ◌∙◌, inl, inr, pow-suc, arith, length-drop, length-take, take}
use Rattle.std.specs.Int.{bit_at, trailing_zeros, w64}
use Rattle.std.specs.Int.RustNames.{bit_and}
use Rattle.std.proofs.Math.Nat.{mod-add-div', mod-lt, div-eq_of_lt-le, mod-eq_of_lt}
use Rattle.std.proofs.lemmas.Nat.{pow_pos}
use Rattle.std.proofs.lemmas.Nat.Bits.{bit_at-zero, bit_at_and, bit_at-lt, bit_at-trailing_zeros, bit_at_above, bit_at_cat_low, bit_at_mask_inside, bit_at_mask_below}
use Rattle.std.proofs.lemmas.List.{get_or-drop, get_or-take}
use Rattle.std.proofs.lemmas.Bool.{cases_lt, lt-ltb, le-ltb}
use Rattle.store.specs.Bitmap.{bit, highest, lowest, named, HighestIs, LowestIs, FirstFilled, LastFilled}
use Rattle.store.proofs.BitLaws.{bit_past, finds}

-- a search finds one thing
module _ (p : ℕ → Bool) where
  both : (u : ℕ) → p u ≡ true → p u ≡ false → ⊥
  both u t f = let e : true ≡ false = sym t ∙ f in cc

  pub highest_is : (n : ℕ) (o : Option ℕ) → HighestIs p n o → o ≡ highest p n
  highest_is n o h = one o (highest p n) h (finds p n 0).0
    where
      same : (u v : ℕ) → HighestIs p n (Some u) → HighestIs p n (Some v) → (u < v) ⊎ (v ≤ u) → (v < u) ⊎ (u ≤ v) → u ≡ v
      same u v x y (inl l) k = absurd (both v y.1 (x.2 v l y.0))
      same u v x y (inr j) (inl l) = absurd (both u x.1 (y.2 u l x.0))
      same u v x y (inr j) (inr k) = omega arith

      one : (a b : Option ℕ) → HighestIs p n a → HighestIs p n b → a ≡ b
      one None None x y = refl
      one None (Some v) x y = absurd (both v y.1 (x v y.0))
      one (Some u) None x y = absurd (both u x.1 (y u x.0))
      one (Some u) (Some v) x y = ap Some (same u v x y (cases_lt u v) (cases_lt v u))

  pub lowest_is : (n from : ℕ) (o : Option ℕ) → LowestIs p n from o → o ≡ lowest p n from
  lowest_is n from o h = one o (lowest p n from) h (finds p n from).1
    where
      same : (u v : ℕ) → LowestIs p n from (Some u) → LowestIs p n from (Some v) → (u < v) ⊎ (v ≤ u) → (v < u) ⊎ (u ≤ v) → u ≡ v
      same u v x y (inl l) k = absurd (both u x.2 (y.3 u x.0 l))
      same u v x y (inr j) (inl l) = absurd (both v y.2 (x.3 v y.0 l))
      same u v x y (inr j) (inr k) = omega arith

      one : (a b : Option ℕ) → LowestIs p n from a → LowestIs p n from b → a ≡ b
      one None None x y = refl
      one None (Some v) x y = absurd (both v y.2 (x v y.0 y.1))
      one (Some u) None x y = absurd (both u x.2 (y u x.0 x.1))
      one (Some u) (Some v) x y = ap Some (same u v x y (cases_lt u v) (cases_lt v u))

module _ (ws : List ℕ) where
  bit_in : (i k v : ℕ) → v ≡ 64 * i + k → k < 64 → bit ws v ≡ eqb (bit_at (get_or ws i 0) k) 1
  bit_in i k v e h =
      let a : v / 64 ≡ i = omega arith in
      let b : v % 64 ≡ k = omega arith in
      rw (a, b)

  no_bit : (w i k v : ℕ) → bit_at w k ≡ bit_at (get_or ws i 0) k → bit_at w k ≡ 0 → v ≡ 64 * i + k → k < 64 → bit ws v ≡ false
  no_bit w i k v s z e h = bit_in i k v e h ∙ ap (λ b. eqb b 1) (sym s ∙ z)

  a_bit : (w i k v : ℕ) → bit_at w k ≡ bit_at (get_or ws i 0) k → bit_at w k ≡ 1 → v ≡ 64 * i + k → k < 64 → bit ws v ≡ true
  a_bit w i k v s z e h = bit_in i k v e h ∙ ap (λ b. eqb b 1) (sym s ∙ z)

  -- the low bits of a word are its own
  low_same : (i s k : ℕ) → k < s → bit_at (get_or ws i 0 % 2 ^ s) k ≡ bit_at (get_or ws i 0) k
  low_same i s k h =
      let f : ℕ = get_or ws i 0 in
      let e : f / 2 ^ s * 2 ^ s + f % 2 ^ s ≡ f = omega (arith, mod-add-div' f (2 ^ s)) in
      sym (bit_at_cat_low (f / 2 ^ s) s (f % 2 ^ s) k h) ∙ ap (λ x. bit_at x k) e

  -- the highest bit of a word's low bits, with none set between them and the bound
  pub highest_in : (i s j w n : ℕ) → w ≡ get_or ws i 0 % 2 ^ s → s ≤ 64 → 2 ^ j ≤ w → w < 2 * 2 ^ j
      → 64 * i + s ≤ n → ((v : ℕ) → 64 * i + s ≤ v → v < n → bit ws v ≡ false) → HighestIs (bit ws) n (Some (64 * i + j))
  highest_in i s j w n e h lo hi up none = (
    omega (arith, inside),
    a_bit w i j (64 * i + j) (same j inside) one refl (omega (arith, inside)),
    λ v l r. above v l r (cases_lt v (64 * i + s)),
  )
    where
      same : (k : ℕ) → k < s → bit_at w k ≡ bit_at (get_or ws i 0) k
      same k l = ap (λ x. bit_at x k) e ∙ low_same i s k l

      one : bit_at w j ≡ 1
      one = ap (λ x. x % 2) (div-eq_of_lt-le {k = 1} (2 ^ j) (omega arith) (omega arith))

      below : w < 2 ^ s
      below = let l : get_or ws i 0 % 2 ^ s < 2 ^ s = mod-lt (get_or ws i 0) (pow_pos s) in omega arith

      inside : j < s
      inside = go (cases_lt j s)
        where
          go : (j < s) ⊎ (s ≤ j) → j < s
          go (inl l) = l
          go (inr l) = absurd (omega (arith, one, bit_at_above w s j below l))

      above : (v : ℕ) → 64 * i + j < v → v < n → (v < 64 * i + s) ⊎ (64 * i + s ≤ v) → bit ws v ≡ false
      above v l r (inr o) = none v o r
      above v l r (inl o) =
          let high : w < 2 ^ suc j = rw (pow-suc 2 j) (omega arith) in
          no_bit w i (v - 64 * i) v (same (v - 64 * i) (omega arith)) (bit_at_above w (suc j) (v - 64 * i) high (omega arith)) (omega arith) (omega arith)

  -- no bits in words that are 0
  pub no_bits : (i v : ℕ) → get_or ws i 0 ≡ 0 → v / 64 ≡ i → bit ws v ≡ false
  no_bits i v z e = no_bit 0 i (v % 64) v (ap (λ x. bit_at x (v % 64)) (sym z)) (bit_at-zero (v % 64)) (omega arith) (omega arith)

  no_low : (i s v : ℕ) → get_or ws i 0 % 2 ^ s ≡ 0 → s ≤ 64 → 64 * i ≤ v → v < 64 * i + s → bit ws v ≡ false
  no_low i s v z h l r =
      no_bit 0 i (v - 64 * i) v (ap (λ x. bit_at x (v - 64 * i)) (sym z) ∙ low_same i s (v - 64 * i) (omega arith)) (bit_at-zero (v - 64 * i)) (omega arith) (omega arith)

  -- where the bound's own word has none below it, the last word before it that has bits
  module _ (unit m : ℕ) (bound : m ≡ min (unit / 64) (length ws)) (low : get_or ws (unit / 64) 0 % 2 ^ (unit % 64) ≡ 0) where
    before : length (take m ws) ≡ m
    before = simp length-take (omega arith)

    outside : (v : ℕ) → v < unit → m ≤ v / 64 → (v / 64 < unit / 64) ⊎ (unit / 64 ≤ v / 64) → bit ws v ≡ false
    outside v l g (inl k) = bit_past ws v (omega arith)
    outside v l g (inr k) = no_low (unit / 64) (unit % 64) v low (omega arith) (omega arith) (omega arith)

    clear : (v : ℕ) → v < unit → (v / 64 < m → get_or (take m ws) (v / 64) 0 ≡ 0) → (v / 64 < m) ⊎ (m ≤ v / 64) → bit ws v ≡ false
    clear v l f (inl k) = no_bits (v / 64) v (sym (get_or-take m ws (v / 64) 0 k) ∙ f k) refl
    clear v l f (inr k) = outside v l k (cases_lt (v / 64) (unit / 64))

    pub highest_none : LastFilled (take m ws) None → None ≡ highest (bit ws) unit
    highest_none f = highest_is (bit ws) unit None (λ v l. clear v l (λ k. f (v / 64) (omega (arith, before))) (cases_lt (v / 64) m))

    pub highest_some : (i j : ℕ) → LastFilled (take m ws) (Some i) → get_or ws i 0 < 2 ^ 64 → 2 ^ j ≤ get_or (take m ws) i 0 → get_or (take m ws) i 0 < 2 * 2 ^ j
        → Some (64 * i + j) ≡ highest (bit ws) unit
    highest_some i j f fits lo hi =
        let within : i < m = omega (arith, before, f.0) in
        let word : get_or (take m ws) i 0 ≡ get_or ws i 0 % 2 ^ 64 = get_or-take m ws i 0 within ∙ sym (mod-eq_of_lt fits) in
        highest_is (bit ws) unit (Some (64 * i + j))
        (highest_in i 64 j (get_or (take m ws) i 0) unit word (omega arith) lo hi (omega arith)
        (λ v l r. clear v r (λ k. f.2 (v / 64) (omega arith) (omega (arith, before))) (cases_lt (v / 64) m)))

  -- the lowest bit from a unit on, as far as numbers go
  lowest_named : (from u : ℕ) → from ≤ u → bit ws u ≡ true → ((v : ℕ) → from ≤ v → v < u → bit ws v ≡ false)
      → named u ≡ lowest (bit ws) (min (64 * length ws) 18446744073709551615 - from) from
  lowest_named from u lo on none = lowest_is (bit ws) (min (64 * length ws) 18446744073709551615 - from) from (named u) (go (cases_lt u 18446744073709551615) (cases_lt (u / 64) (length ws)))
    where
      go : (u < 18446744073709551615) ⊎ (18446744073709551615 ≤ u) → (u / 64 < length ws) ⊎ (length ws ≤ u / 64)
          → LowestIs (bit ws) (min (64 * length ws) 18446744073709551615 - from) from (named u)
      go (inl l) (inl k) = rw (lt-ltb u 18446744073709551615 l) (lo, omega arith, on, none)
      go (inl l) (inr k) = absurd (both (bit ws) u on (bit_past ws u k))
      go (inr l) k = rw (le-ltb u 18446744073709551615 l) (λ v a b. none v a (omega arith))

  -- the bits of a word from a place on
  high_same : (w i s k : ℕ) → w ≡ bit_and (get_or ws i 0) (2 ^ 64 - 2 ^ s) → s ≤ k → k < 64 → bit_at w k ≡ bit_at (get_or ws i 0) k
  high_same w i s k e l h =
      ap (λ x. bit_at x k) e ∙ bit_at_and (get_or ws i 0) (2 ^ 64 - 2 ^ s) k ∙ ap (min (bit_at (get_or ws i 0) k)) (bit_at_mask_inside s 64 k l h)
      ∙ omega (arith, bit_at-lt (get_or ws i 0) k)

  high_none : (w i s k : ℕ) → w ≡ bit_and (get_or ws i 0) (2 ^ 64 - 2 ^ s) → k < s → bit_at w k ≡ 0
  high_none w i s k e l =
      ap (λ x. bit_at x k) e ∙ bit_at_and (get_or ws i 0) (2 ^ 64 - 2 ^ s) k ∙ ap (min (bit_at (get_or ws i 0) k)) (bit_at_mask_below s 64 k l) ∙ omega arith

  pub lowest_high : (unit w : ℕ) → w ≡ bit_and (get_or ws (unit / 64) 0) (2 ^ 64 - 2 ^ (unit % 64)) → w < 2 ^ 64 → 0 < w
      → named (64 * (unit / 64) + trailing_zeros w64 w) ≡ lowest (bit ws) (min (64 * length ws) 18446744073709551615 - unit) unit
  lowest_high unit w e fits some = go (bit_at-trailing_zeros w64 w some fits) (cases_lt (trailing_zeros w64 w) (unit % 64))
    where
      go : (trailing_zeros w64 w < 64) × (bit_at w (trailing_zeros w64 w) ≡ 1) × ((k : ℕ) → k < trailing_zeros w64 w → bit_at w k ≡ 0)
          → (trailing_zeros w64 w < unit % 64) ⊎ (unit % 64 ≤ trailing_zeros w64 w)
          → named (64 * (unit / 64) + trailing_zeros w64 w) ≡ lowest (bit ws) (min (64 * length ws) 18446744073709551615 - unit) unit
      go f (inl l) = absurd (omega (arith, f.1, high_none w (unit / 64) (unit % 64) (trailing_zeros w64 w) e l))
      go f (inr l) =
          let t : ℕ = trailing_zeros w64 w in
          lowest_named unit (64 * (unit / 64) + t) (omega arith)
          (a_bit w (unit / 64) t (64 * (unit / 64) + t) (high_same w (unit / 64) (unit % 64) t e l f.0) f.1 refl f.0)
          (λ v a b. let k : ℕ = v - 64 * (unit / 64) in
          no_bit w (unit / 64) k v (high_same w (unit / 64) (unit % 64) k e (omega arith) (omega (arith, f.0))) (f.2 k (omega arith)) (omega arith) (omega (arith, f.0)))

  -- where the unit's own word has none from it on, the first word behind it that has bits
  module _ (unit m : ℕ) (rest : List ℕ) (bound : m ≡ min (unit / 64 + 1) (length ws)) (cut : rest ≡ drop m ws) (high : bit_and (get_or ws (unit / 64) 0) (2 ^ 64 - 2 ^ (unit % 64)) ≡ 0) where
    at : (k : ℕ) → get_or rest k 0 ≡ get_or ws (m + k) 0
    at k = ap (λ xs. get_or xs k 0) cut ∙ get_or-drop m ws k 0

    left : length rest ≡ length ws - m
    left = ap length cut ∙ length-drop m ws

    behind : (v : ℕ) → unit ≤ v → (unit / 64 < v / 64 → get_or rest (v / 64 - (unit / 64 + 1)) 0 ≡ 0) → (unit / 64 < v / 64) ⊎ (v / 64 ≤ unit / 64)
        → (v / 64 < length ws) ⊎ (length ws ≤ v / 64) → bit ws v ≡ false
    behind v l f k (inr p) = bit_past ws v p
    behind v l f (inr k) (inl p) =
        no_bit 0 (unit / 64) (v % 64) v (high_same 0 (unit / 64) (unit % 64) (v % 64) (sym high) (omega arith) (omega arith)) (bit_at-zero (v % 64)) (omega arith) (omega arith)
    behind v l f (inl k) (inl p) =
        let e : m + (v / 64 - (unit / 64 + 1)) ≡ v / 64 = omega arith in
        no_bits (v / 64) v (ap (λ i. get_or ws i 0) (sym e) ∙ sym (at (v / 64 - (unit / 64 + 1))) ∙ f k) refl

    pub lowest_none : FirstFilled rest None → None ≡ lowest (bit ws) (min (64 * length ws) 18446744073709551615 - unit) unit
    lowest_none f =
        lowest_is (bit ws) (min (64 * length ws) 18446744073709551615 - unit) unit None
        (λ v a b. behind v a (λ k. f (v / 64 - (unit / 64 + 1)) (omega (arith, left))) (cases_lt (unit / 64) (v / 64)) (cases_lt (v / 64) (length ws)))

    pub lowest_some : (i : ℕ) → FirstFilled rest (Some i) → get_or ws (m + i) 0 < 2 ^ 64
        → named (64 * (unit / 64 + 1 + i) + trailing_zeros w64 (get_or rest i 0)) ≡ lowest (bit ws) (min (64 * length ws) 18446744073709551615 - unit) unit
    lowest_some i f fits = go (bit_at-trailing_zeros w64 (get_or rest i 0) f.1 (rw (at i) fits))
      where
        within : m + i < length ws
        within = omega (arith, left, f.0)

        word : get_or rest i 0 ≡ get_or ws (unit / 64 + 1 + i) 0
        word = at i ∙ (let e : m + i ≡ unit / 64 + 1 + i = omega (arith, within) in ap (λ k. get_or ws k 0) e)

        go : (trailing_zeros w64 (get_or rest i 0) < 64) × (bit_at (get_or rest i 0) (trailing_zeros w64 (get_or rest i 0)) ≡ 1)
            × ((k : ℕ) → k < trailing_zeros w64 (get_or rest i 0) → bit_at (get_or rest i 0) k ≡ 0)
            → named (64 * (unit / 64 + 1 + i) + trailing_zeros w64 (get_or rest i 0)) ≡ lowest (bit ws) (min (64 * length ws) 18446744073709551615 - unit) unit
        go g =
            let w : ℕ = get_or rest i 0 in
            let t : ℕ = trailing_zeros w64 w in
            let j : ℕ = unit / 64 + 1 + i in
            let same : (k : ℕ) → bit_at w k ≡ bit_at (get_or ws j 0) k = λ k. ap (λ x. bit_at x k) word in
            lowest_named unit (64 * j + t) (omega arith) (a_bit w j t (64 * j + t) (same t) g.1 refl g.0)
            (λ v a b. inside g.0 g.2 v a b (cases_lt v (64 * j)))
          where
            inside : trailing_zeros w64 (get_or rest i 0) < 64 → ((k : ℕ) → k < trailing_zeros w64 (get_or rest i 0) → bit_at (get_or rest i 0) k ≡ 0)
                → (v : ℕ) → unit ≤ v → v < 64 * (unit / 64 + 1 + i) + trailing_zeros w64 (get_or rest i 0) → (v < 64 * (unit / 64 + 1 + i)) ⊎ (64 * (unit / 64 + 1 + i) ≤ v) → bit ws v ≡ false
            inside h z v a b (inl l) = behind v a (λ k. f.2 (v / 64 - (unit / 64 + 1)) (omega arith)) (cases_lt (unit / 64) (v / 64)) (cases_lt (v / 64) (length ws))
            inside h z v a b (inr l) =
                let k : ℕ = v - 64 * (unit / 64 + 1 + i) in
                no_bit (get_or rest i 0) (unit / 64 + 1 + i) k v (ap (λ x. bit_at x k) word) (z k (omega arith)) (omega arith) (omega arith)
