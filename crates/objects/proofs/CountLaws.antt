-- Laws of counting, whatever the test, and what setting bits adds to a count. Assumes nothing.
use Rattle.std.proofs.Common.{◌≡◌, ℕ, zero, suc, ◌+◌, ◌-◌, ◌*◌, ◌/◌, ◌<◌, ◌≤◌, Bool, true, false, not, ◌⊎◌, List, length, sym, refl, ap, ◌∙◌, subst, inl, inr, arith}
use Rattle.std.proofs.lemmas.Bool.{cases_eq}
use Rattle.store.specs.Bitmap.{bit, with_bit, with_run}
use Rattle.objects.specs.Ranks.{one_if, count_below, CountsRight, SetsCounted}
use Rattle.store.proofs.BitLaws.{set_here, set_elsewhere, run_set}

step : (p : ℕ → Bool) (n : ℕ) → count_below p (suc n) ≡ count_below p n + one_if (p n)
unfolding count_below
step p n = refl

pub count_more : (p : ℕ → Bool) (u k : ℕ) → count_below p (u + suc k) ≡ count_below p (u + k) + one_if (p (u + k))
count_more p u k = ap (count_below p) (let e : u + suc k ≡ suc (u + k) = omega arith in e) ∙ step p (u + k)

-- where two tests agree their counts stay as far apart
pub stays_apart : (p q : ℕ → Bool) (d a k : ℕ) → count_below q a ≡ count_below p a + d → ((v : ℕ) → a ≤ v → v < a + k → p v ≡ q v) →
    count_below q (a + k) ≡ count_below p (a + k) + d
stays_apart p q d a zero e h = let z : a ≡ a + 0 = omega arith in subst (λ n. count_below q n ≡ count_below p n + d) z e
stays_apart p q d a (suc k) e h =
    let before : count_below q (a + k) ≡ count_below p (a + k) + d = stays_apart p q d a k e (λ v lo hi. h v lo (omega arith)) in
    let here : one_if (p (a + k)) ≡ one_if (q (a + k)) = ap one_if (h (a + k) (omega arith) (omega arith)) in
    omega (arith, count_more p a k, count_more q a k)

pub count_full : (p : ℕ → Bool) (u n : ℕ) → ((v : ℕ) → u ≤ v → v < u + n → p v ≡ true) → count_below p (u + n) ≡ count_below p u + n
count_full p u zero h = let z : u + 0 ≡ u = omega arith in omega (arith, ap (count_below p) z)
count_full p u (suc n) h =
    let before : count_below p (u + n) ≡ count_below p u + n = count_full p u n (λ v lo hi. h v lo (omega arith)) in
    let here : one_if (p (u + n)) ≡ 1 = ap one_if (h (u + n) (omega arith) (omega arith)) in
    omega (arith, count_more p u n)

pub count_blank : (p : ℕ → Bool) (u n : ℕ) → ((v : ℕ) → u ≤ v → v < u + n → p v ≡ false) → count_below p (u + n) ≡ count_below p u
count_blank p u zero h = let z : u + 0 ≡ u = omega arith in ap (count_below p) z
count_blank p u (suc n) h =
    let before : count_below p (u + n) ≡ count_below p u = count_blank p u n (λ v lo hi. h v lo (omega arith)) in
    let here : one_if (p (u + n)) ≡ 0 = ap one_if (h (u + n) (omega arith) (omega arith)) in
    omega (arith, count_more p u n)

pub count_alike : (p q : ℕ → Bool) (n : ℕ) → ((u : ℕ) → u < n → p u ≡ q u) → count_below p n ≡ count_below q n
unfolding count_below
count_alike p q zero h = refl
count_alike p q (suc n) h =
    let here : one_if (p n) ≡ one_if (q n) = ap one_if (h n (omega arith)) in
    let before : count_below p n ≡ count_below q n = count_alike p q n (λ u l. h u (omega arith)) in omega arith

count_on : (p : ℕ → Bool) (m k : ℕ) → count_below p m ≤ count_below p (m + k)
count_on p m zero = let z : m ≡ m + 0 = omega arith in omega (arith, ap (count_below p) z)
count_on p m (suc k) = omega (arith, count_on p m k, count_more p m k)

pub count_rises : (p : ℕ → Bool) (m n : ℕ) → m ≤ n → count_below p m ≤ count_below p n
count_rises p m n h = let e : m + (n - m) ≡ n = omega arith in omega (arith, count_on p m (n - m), ap (count_below p) e)

pub count_passes : (p : ℕ → Bool) (u v : ℕ) → p u ≡ true → u < v → count_below p u < count_below p v
count_passes p u v e h =
    let here : one_if (p u) ≡ 1 = ap one_if e in omega (arith, step p u, count_rises p (suc u) v (omega arith))

pub count_bounded : (p : ℕ → Bool) (n : ℕ) → count_below p n ≤ n
unfolding count_below
count_bounded p zero = omega arith
count_bounded p (suc n) = go (p n) (count_bounded p n)
  where
    go : (b : Bool) → count_below p n ≤ n → count_below p n + one_if b ≤ suc n
    go true h = omega arith
    go false h = omega arith

pub counts_right : CountsRight
counts_right =
    record { alike = count_alike; rises = count_rises; passes = count_passes; full = count_full; blank = count_blank; bounded = count_bounded }

-- a run that was clear and is set
pub count_run : (p q : ℕ → Bool) (from many n : ℕ) → from + many ≤ n → ((v : ℕ) → from ≤ v → v < from + many → (p v ≡ false) × (q v ≡ true)) →
    ((v : ℕ) → (v < from) ⊎ (from + many ≤ v) → p v ≡ q v) → count_below q n ≡ count_below p n + many
count_run p q from many n l inside outside =
    let e : from + many + (n - (from + many)) ≡ n = omega arith in
    subst (λ j. count_below q j ≡ count_below p j + many) e (stays_apart p q many (from + many) (n - (from + many)) here (λ v lo hi. outside v (inr lo)))
  where
    here : count_below q (from + many) ≡ count_below p (from + many) + many
    here =
        omega (
          arith,
          count_alike p q from (λ v h. outside v (inl h)),
          count_blank p from many (λ v lo hi. (inside v lo hi).0),
          count_full q from many (λ v lo hi. (inside v lo hi).1),
        )

one_counted : (ws : List ℕ) (u n : ℕ) → u < n → u < 64 * length ws → count_below (bit (with_bit ws u)) n ≡ count_below (bit ws) n + one_if (not (bit ws u))
one_counted ws u n l h = go (bit ws u) refl
  where
    at : u / 64 < length ws
    at = omega arith

    other : (v : ℕ) → (u ≡ v → ⊥) → bit ws v ≡ bit (with_bit ws u) v
    other v ne = sym (set_elsewhere ws u v ne)

    stays : bit ws u ≡ true → (v : ℕ) → (u ≡ v) ⊎ (u ≡ v → ⊥) → bit ws v ≡ bit (with_bit ws u) v
    stays e v (inl x) = subst (λ i. bit ws i ≡ bit (with_bit ws u) i) x (e ∙ sym (set_here ws u at))
    stays e v (inr ne) = other v ne

    inside : bit ws u ≡ false → (v : ℕ) → u ≤ v → v < u + 1 → (bit ws v ≡ false) × (bit (with_bit ws u) v ≡ true)
    inside e v lo hi =
        let x : u ≡ v = omega arith in subst (λ i. (bit ws i ≡ false) × (bit (with_bit ws u) i ≡ true)) x (e, set_here ws u at)

    outside : (v : ℕ) → (v < u) ⊎ (u + 1 ≤ v) → bit ws v ≡ bit (with_bit ws u) v
    outside v (inl x) = other v (λ e. omega arith)
    outside v (inr x) = other v (λ e. omega arith)

    go : (b : Bool) → bit ws u ≡ b → count_below (bit (with_bit ws u)) n ≡ count_below (bit ws) n + one_if (not b)
    go true e =
        let same : count_below (bit ws) n ≡ count_below (bit (with_bit ws u)) n =
        count_alike (bit ws) (bit (with_bit ws u)) n (λ v k. stays e v (cases_eq u v)) in omega arith
    go false e = count_run (bit ws) (bit (with_bit ws u)) u 1 n (omega arith) (inside e) outside

pub sets_counted : SetsCounted
sets_counted =
    record {
      one = one_counted;
      run = λ ws from many n l h clear. count_run (bit ws) (bit (with_run many from ws)) from many n l
          (λ v lo hi. (clear v lo hi, (run_set many ws from v).0 lo hi (omega arith))) (λ v o. sym ((run_set many ws from v).1 o));
    }
