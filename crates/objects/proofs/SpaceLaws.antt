-- How live objects follow each other: the units marked below one are those of the objects before it, and the lowest one marked is the start of the next.
-- Assumes nothing.
use Rattle.std.proofs.Common.{◌≡◌, ℕ, ◌+◌, ◌-◌, ◌<◌, ◌≤◌, true, false, ltb, leb, ◌⊎◌, List, [], ◌∷◌, ◌++◌, Some, None, Option, sym, refl, ap, ◌∙◌, subst, inl, inr, arith}
use Rattle.std.proofs.lemmas.Bool.{cases_lt, both_ways, lt-ltb, le-ltb, le-leb, lt-leb, ltb-true, leb-true, and_parts, and_from, and_left, and_right}
use Rattle.pages.specs.Lists.{or, every, added_up}
use Rattle.pages.proofs.ListLaws.{In, in_left, in_right, in_append, every_in, every_from, any_in, any_from, none_any, or_left, same_test}
use Rattle.store.specs.Bitmap.{bit, lowest, LowestIs}
use Rattle.objects.specs.Heap.{rising, units_at, covered}
use Rattle.objects.specs.Ranks.{count_below}
use Rattle.store.proofs.BitLaws.{finds}
use Rattle.objects.proofs.CountLaws.{count_alike, count_blank, count_run}
use Rattle.objects.proofs.MarkLaws.{takes}

-- LISTS
pub split_at : (xs : List ℕ) (r : ℕ) → In r xs → (a : List ℕ) × (b : List ℕ) × (xs ≡ a ++ r ∷ b)
split_at [] r i = absurd i
split_at (x ∷ xs) r (inl e) = ([], xs, ap (λ y. y ∷ xs) e)
split_at (x ∷ xs) r (inr i) = let s = split_at xs r i in (x ∷ s.0, s.1, ap (λ l. x ∷ l) s.2)

pub rising_parts : (xs ys : List ℕ) → rising (xs ++ ys) ≡ true → (rising xs ≡ true) × (rising ys ≡ true) × ((x y : ℕ) → In x xs → In y ys → x < y)
unfolding rising
rising_parts [] ys h = (refl, h, λ x y i j. absurd i)
rising_parts (r ∷ xs) ys h =
    let p = and_parts (every (λ s. ltb r s) (xs ++ ys)) (rising (xs ++ ys)) h in
    let q = rising_parts xs ys p.1 in (
      and_from (every (λ s. ltb r s) xs) (rising xs)
          (every_from (λ s. ltb r s) xs (λ s i. every_in (λ s. ltb r s) (xs ++ ys) p.0 s (in_left s xs ys i))) q.0,
      q.1,
      λ x y i j. go p.0 q.2 x y i j,
    )
  where
    go : every (λ s. ltb r s) (xs ++ ys) ≡ true → ((x y : ℕ) → In x xs → In y ys → x < y) → (x y : ℕ) → (r ≡ x) ⊎ In x xs → In y ys → x < y
    go p q x y (inl e) j = let l : r < y = ltb-true r y (every_in (λ s. ltb r s) (xs ++ ys) p y (in_right y xs ys j)) in omega arith
    go p q x y (inr i) j = q x y i j

pub added_up_append : {A : Type 0} (f : A → ℕ) (xs ys : List A) → added_up f (xs ++ ys) ≡ added_up f xs + added_up f ys
unfolding added_up
added_up_append f [] ys = omega arith
added_up_append f (x ∷ xs) ys = let e : added_up f (xs ++ ys) ≡ added_up f xs + added_up f ys = added_up_append f xs ys in omega arith

pub added_up_one : {A : Type 0} (f : A → ℕ) (x : A) (xs : List A) → added_up f (x ∷ xs) ≡ f x + added_up f xs
unfolding added_up
added_up_one f x xs = refl

-- OBJECTS that follow each other
pub record Spaced (t : List ℕ) (lo : ℕ) (xs : List ℕ) : Type 0 where
  pub rise : rising xs ≡ true
  pub above : (r : ℕ) → In r xs → lo < r
  pub some : (r : ℕ) → In r xs → 1 ≤ units_at t r
  pub apart : (r s : ℕ) → In r xs → In s xs → r < s → (r - 1) + units_at t r ≤ s - 1

pub spaced_left : (t : List ℕ) (lo : ℕ) (xs ys : List ℕ) → Spaced t lo (xs ++ ys) → Spaced t lo xs
spaced_left t lo xs ys s =
    record {
      rise = (rising_parts xs ys s.rise).0;
      above = λ r i. s.above r (in_left r xs ys i);
      some = λ r i. s.some r (in_left r xs ys i);
      apart = λ a b i j. s.apart a b (in_left a xs ys i) (in_left b xs ys j);
    }

pub spaced_right : (t : List ℕ) (lo : ℕ) (xs ys : List ℕ) → Spaced t lo (xs ++ ys) → Spaced t lo ys
spaced_right t lo xs ys s =
    record {
      rise = (rising_parts xs ys s.rise).1;
      above = λ r i. s.above r (in_right r xs ys i);
      some = λ r i. s.some r (in_right r xs ys i);
      apart = λ a b i j. s.apart a b (in_right a xs ys i) (in_right b xs ys j);
    }

module _ (t : List ℕ) where
  takes_in : (r u : ℕ) → r - 1 ≤ u → u < (r - 1) + units_at t r → takes t r u ≡ true
  takes_in r u a b = and_from (leb (r - 1) u) (ltb u ((r - 1) + units_at t r)) (le-leb (r - 1) u a) (lt-ltb u ((r - 1) + units_at t r) b)

  takes_out : (r u : ℕ) → (u < r - 1) ⊎ ((r - 1) + units_at t r ≤ u) → takes t r u ≡ false
  takes_out r u (inl a) = and_left (leb (r - 1) u) (ltb u ((r - 1) + units_at t r)) (lt-leb (r - 1) u a)
  takes_out r u (inr a) = and_right (leb (r - 1) u) (ltb u ((r - 1) + units_at t r)) (le-ltb u ((r - 1) + units_at t r) a)

  takes_from : (r u : ℕ) → takes t r u ≡ true → (r - 1 ≤ u) × (u < (r - 1) + units_at t r)
  takes_from r u h =
      let p = and_parts (leb (r - 1) u) (ltb u ((r - 1) + units_at t r)) h in
      (leb-true (r - 1) u p.0, ltb-true u ((r - 1) + units_at t r) p.1)

  -- what objects take, counted
  all_counted : (xs : List ℕ) (lo n : ℕ) → Spaced t lo xs → ((r : ℕ) → In r xs → (r - 1) + units_at t r ≤ lo + n) →
      count_below (λ u. covered t xs (lo + u)) n ≡ added_up (units_at t) xs
  unfolding count_below added_up
  all_counted [] lo n s h =
      let z : 0 + n ≡ n = omega arith in subst (λ k. count_below (λ u. false) k ≡ 0) z (count_blank (λ u. false) 0 n (λ v a b. refl))
  all_counted (r ∷ xs) lo n s h =
      let rest : count_below (λ u. covered t xs (lo + u)) n ≡ added_up (units_at t) xs =
      all_counted xs lo n (spaced_right t lo (r ∷ []) xs s) (λ x i. h x (inr i)) in
      let run : count_below (λ u. covered t (r ∷ xs) (lo + u)) n ≡ count_below (λ u. covered t xs (lo + u)) n + units_at t r =
      count_run (λ u. covered t xs (lo + u)) (λ u. covered t (r ∷ xs) (lo + u)) (r - 1 - lo) (units_at t r) n (omega (arith, h r (inl refl), up)) inside outside in
      omega arith
    where
      up : lo < r
      up = s.above r (inl refl)

      clear : (v : ℕ) → v < (r - 1 - lo) + units_at t r → (x : ℕ) → In x xs → takes t x (lo + v) ≡ false
      clear v b x i =
          let l : r < x = (rising_parts (r ∷ []) xs s.rise).2 r x (inl refl) i in
          let k : (r - 1) + units_at t r ≤ x - 1 = s.apart r x (inl refl) (inr i) l in takes_out x (lo + v) (inl (omega (arith, up)))

      inside : (v : ℕ) → r - 1 - lo ≤ v → v < (r - 1 - lo) + units_at t r → (covered t xs (lo + v) ≡ false) × (covered t (r ∷ xs) (lo + v) ≡ true)
      inside v a b = (
        none_any (λ x. takes t x (lo + v)) xs (clear v b),
        or_left (takes t r (lo + v)) (covered t xs (lo + v)) (takes_in r (lo + v) (omega (arith, up)) (omega (arith, up))),
      )

      out : (v : ℕ) → (v < r - 1 - lo) ⊎ ((r - 1 - lo) + units_at t r ≤ v) → (lo + v < r - 1) ⊎ ((r - 1) + units_at t r ≤ lo + v)
      out v (inl a) = inl (omega (arith, up))
      out v (inr a) = inr (omega (arith, up))

      outside : (v : ℕ) → (v < r - 1 - lo) ⊎ ((r - 1 - lo) + units_at t r ≤ v) → covered t xs (lo + v) ≡ covered t (r ∷ xs) (lo + v)
      outside v o = sym (ap (λ b. or b (covered t xs (lo + v))) (takes_out r (lo + v) (out v o)))

  -- below the start of one, just those before it
  pub units_before : (done todo : List ℕ) (r lo : ℕ) → Spaced t lo (done ++ r ∷ todo) →
      count_below (λ u. covered t (done ++ r ∷ todo) (lo + u)) (r - 1 - lo) ≡ added_up (units_at t) done
  units_before done todo r lo s =
      count_alike (λ u. covered t (done ++ r ∷ todo) (lo + u)) (λ u. covered t done (lo + u)) (r - 1 - lo) (λ u l. same_test _ _ (forth u l) (back u))
      ∙ all_counted done lo (r - 1 - lo) (spaced_left t lo done (r ∷ todo) s) ends
    where
      up : lo < r
      up = s.above r (in_right r done (r ∷ todo) (inl refl))

      ends : (x : ℕ) → In x done → (x - 1) + units_at t x ≤ lo + (r - 1 - lo)
      ends x i =
          let l : x < r = (rising_parts done (r ∷ todo) s.rise).2 x r i (inl refl) in
          let k : (x - 1) + units_at t x ≤ r - 1 = s.apart x r (in_left x done (r ∷ todo) i) (in_right r done (r ∷ todo) (inl refl)) l in omega (arith, up)

      later : (x : ℕ) → In x (r ∷ todo) → r ≤ x
      later x (inl e) = omega arith
      later x (inr i) = let l : r < x = (rising_parts (r ∷ []) todo (rising_parts done (r ∷ todo) s.rise).1).2 r x (inl refl) i in omega arith

      pass : (u x : ℕ) → u < r - 1 - lo → takes t x (lo + u) ≡ true → In x done ⊎ In x (r ∷ todo) → covered t done (lo + u) ≡ true
      pass u x l e (inl i) = any_from (λ y. takes t y (lo + u)) done x i e
      pass u x l e (inr i) = let k : r ≤ x = later x i in let p : x - 1 ≤ lo + u = (takes_from x (lo + u) e).0 in absurd (omega arith)

      forth : (u : ℕ) → u < r - 1 - lo → covered t (done ++ r ∷ todo) (lo + u) ≡ true → covered t done (lo + u) ≡ true
      forth u l e =
          let f : (x : ℕ) × In x (done ++ r ∷ todo) × (takes t x (lo + u) ≡ true) = any_in (λ y. takes t y (lo + u)) (done ++ r ∷ todo) e in
          pass u f.0 l f.2 (in_append f.0 done (r ∷ todo) f.1)

      back : (u : ℕ) → covered t done (lo + u) ≡ true → covered t (done ++ r ∷ todo) (lo + u) ≡ true
      back u e =
          let f : (x : ℕ) × In x done × (takes t x (lo + u) ≡ true) = any_in (λ y. takes t y (lo + u)) done e in
          any_from (λ y. takes t y (lo + u)) (done ++ r ∷ todo) f.0 (in_left f.0 done (r ∷ todo) f.1) f.2

-- THE NEXT ONE: between those that are done and those still to come
pub record Between (t : List ℕ) (lo : ℕ) (done todo : List ℕ) (at : ℕ) : Type 0 where
  pub spaced : Spaced t lo (done ++ todo)
  pub fit : (r : ℕ) → In r (done ++ todo) → (r - 1) + units_at t r ≤ lo + 8388608
  pub ends : (r : ℕ) → In r done → (r - 1) + units_at t r ≤ lo + at
  pub starts : (r : ℕ) → In r todo → lo + at ≤ r - 1

module _ (t ws : List ℕ) (lo at : ℕ) where
  pub lowest_none : (done : List ℕ) → Between t lo done [] at → ((u : ℕ) → u < 8388608 → bit ws u ≡ covered t (done ++ []) (lo + u)) →
      lowest (bit ws) (8388608 - at) at ≡ None
  lowest_none done b bits = go (lowest (bit ws) (8388608 - at) at) (finds (bit ws) (8388608 - at) at).1
    where
      out : (u x : ℕ) → at ≤ u → takes t x (lo + u) ≡ true → In x done ⊎ In x [] → ⊥
      out u x a e (inl i) = let k = b.ends x i in let p : lo + u < (x - 1) + units_at t x = (takes_from t x (lo + u) e).1 in omega arith
      out u x a e (inr i) = i

      go : (o : Option ℕ) → LowestIs (bit ws) (8388608 - at) at o → o ≡ None
      go None h = refl
      go (Some u) (a, l, e, n) =
          let c : covered t (done ++ []) (lo + u) ≡ true = sym (bits u (omega arith)) ∙ e in
          let f : (x : ℕ) × In x (done ++ []) × (takes t x (lo + u) ≡ true) = any_in (λ y. takes t y (lo + u)) (done ++ []) c in
          absurd (out u f.0 a f.2 (in_append f.0 done [] f.1))

  pub lowest_some : (done todo : List ℕ) (r : ℕ) → Between t lo done (r ∷ todo) at → ((u : ℕ) → u < 8388608 → bit ws u ≡ covered t (done ++ r ∷ todo) (lo + u)) →
      lowest (bit ws) (8388608 - at) at ≡ Some (r - 1 - lo)
  lowest_some done todo r b bits = go (lowest (bit ws) (8388608 - at) at) (finds (bit ws) (8388608 - at) at).1
    where
      here : In r (done ++ r ∷ todo)
      here = in_right r done (r ∷ todo) (inl refl)

      from : lo + at ≤ r - 1
      from = b.starts r (inl refl)

      one : 1 ≤ units_at t r
      one = b.spaced.some r here

      end : (r - 1) + units_at t r ≤ lo + 8388608
      end = b.fit r here

      marked : bit ws (r - 1 - lo) ≡ true
      marked =
          let e : lo + (r - 1 - lo) ≡ r - 1 = omega (arith, from) in
          bits (r - 1 - lo) (omega (arith, from, one, end))
          ∙ any_from (λ y. takes t y (lo + (r - 1 - lo))) (done ++ r ∷ todo) r here (takes_in t r (lo + (r - 1 - lo)) (omega arith) (omega (arith, one)))

      later : (x : ℕ) → In x (r ∷ todo) → r ≤ x
      later x (inl e) = omega arith
      later x (inr i) =
          let l : r < x = (rising_parts (r ∷ []) todo (rising_parts done (r ∷ todo) b.spaced.rise).1).2 r x (inl refl) i in omega arith

      low : (u x : ℕ) → at ≤ u → takes t x (lo + u) ≡ true → In x done ⊎ In x (r ∷ todo) → r - 1 ≤ lo + u
      low u x a e (inl i) = let k = b.ends x i in let p : lo + u < (x - 1) + units_at t x = (takes_from t x (lo + u) e).1 in absurd (omega arith)
      low u x a e (inr i) = let k : r ≤ x = later x i in let p : x - 1 ≤ lo + u = (takes_from t x (lo + u) e).0 in omega arith

      high : (u : ℕ) → ((v : ℕ) → at ≤ v → v < u → bit ws v ≡ false) → (r - 1 - lo < u) ⊎ (u ≤ r - 1 - lo) → u ≤ r - 1 - lo
      high u n (inl l) = absurd (both_ways (bit ws (r - 1 - lo)) (n (r - 1 - lo) (omega (arith, from)) l) marked)
      high u n (inr l) = l

      go : (o : Option ℕ) → LowestIs (bit ws) (8388608 - at) at o → o ≡ Some (r - 1 - lo)
      go None h = absurd (both_ways (bit ws (r - 1 - lo)) (h (r - 1 - lo) (omega (arith, from)) (omega (arith, from, one, end))) marked)
      go (Some u) (a, l, e, n) =
          let c : covered t (done ++ r ∷ todo) (lo + u) ≡ true = sym (bits u (omega arith)) ∙ e in
          let f : (x : ℕ) × In x (done ++ r ∷ todo) × (takes t x (lo + u) ≡ true) = any_in (λ y. takes t y (lo + u)) (done ++ r ∷ todo) c in
          let p : r - 1 ≤ lo + u = low u f.0 a f.2 (in_append f.0 done (r ∷ todo) f.1) in
          let q : u ≤ r - 1 - lo = high u n (cases_lt (r - 1 - lo) u) in
          let z : u ≡ r - 1 - lo = omega (arith, from) in ap Some z
