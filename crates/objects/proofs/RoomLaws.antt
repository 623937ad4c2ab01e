-- Room: the bytes of what is live against what it weighs. Assumes nothing.
use Rattle.std.proofs.Common.{◌≡◌, ℕ, ◌+◌, ◌-◌, ◌*◌, ◌<◌, ◌≤◌, Bool, true, false, not, eqb, ltb, ◌⊎◌, List, [], ◌∷◌, ◌++◌, length, get_or, drop, sym, refl, ap, ◌∙◌, subst, inl, inr, mul-add, arith, length-append}
use Rattle.std.proofs.lemmas.List.{get_or-take, get_or-drop, get_or-append_right}
use Rattle.std.proofs.lemmas.Bool.{eq-eqb, ne_eqb, eqb-true, eqb-false, ltb-true, and_parts, false≢true}
use Rattle.std.proofs.lemmas.Bool.Decides.{Decides-eqb}
use Rattle.pages.specs.Lists.{pick, has, every, each, those, flat, added_up}
use Rattle.pages.specs.Object.{size_of, kind_of, own_weight, references_of, object_at, size_in}
use Rattle.pages.proofs.ListLaws.{In, Once, pick_both, pick_true, pick_false, has_in, in_has, those_in, in_those, in_each, in_flat, once_those, added_up_but, length_added_up, every_in}
use Rattle.pages.proofs.ObjectLaws.{heading_parts}
use Rattle.objects.specs.Heap.{Live, root, named, Lives, units, units_at, weights, heading_at, rising}
use Rattle.objects.specs.Layouts.{words_for, file_object, commit_object, name_object, tree_weight_in, noted_weight}
use Rattle.objects.specs.Room.{bytes_for, Built, Roomy, work_weight, TakesLittle, RingHasRoom, LayoutsBuilt}

-- THE RING
pub ring_has_room : RingHasRoom
ring_has_room pages low = (omega arith, λ units weight few light. omega arith)

-- SUMS over lists
-- each once on the left: what is there is on the right, where it may stand more often
pub added_up_some : (f : ℕ → ℕ) (ys xs : List ℕ) → Once xs → ((x : ℕ) → In x xs → In x ys) → added_up f xs ≤ added_up f ys
unfolding added_up
added_up_some f [] [] o h = omega arith
added_up_some f [] (x ∷ xs) o h = absurd (h x (inl refl))
added_up_some f (y ∷ ys) xs o h = go (has xs y) refl (λ zs. added_up_some f ys zs)
  where
    left : List ℕ
    left = those (λ z. not (eqb y z)) xs

    kept : (x : ℕ) → In x xs × (not (eqb y x) ≡ true) → In x ys
    kept x (i, n) = elim (h x i) [ inl q ↦ absurd (false≢true (ap not (sym (eq-eqb y x q)) ∙ n)) | inr k ↦ k ]

    absent : has xs y ≡ false → (x : ℕ) → In x xs → In x (y ∷ ys) → In x ys
    absent e x i (inl q) = absurd (false≢true (sym e ∙ in_has xs y (subst (λ z. In z xs) (sym q) i)))
    absent e x i (inr k) = k

    go : (b : Bool) → has xs y ≡ b → ((zs : List ℕ) → Once zs → ((x : ℕ) → In x zs → In x ys) → added_up f zs ≤ added_up f ys) → added_up f xs ≤ f y + added_up f ys
    go true e some =
        let but : added_up f xs ≡ f y + added_up f left = added_up_but eqb Decides-eqb f xs y o (has_in xs y e) in
        let rest : added_up f left ≤ added_up f ys = some left (once_those (λ z. not (eqb y z)) xs o) (λ x i. kept x (those_in (λ z. not (eqb y z)) xs x i)) in
        omega arith
    go false e some =
        let rest : added_up f xs ≤ added_up f ys = some xs o (λ x i. absent e x i (h x i)) in
        omega arith

module _ {A : Type 0} where
  -- two sums against two, one by one
  added_up_two : (f g h k : A → ℕ) (xs : List A) → ((x : A) → In x xs → f x + g x ≤ h x + k x) →
      added_up f xs + added_up g xs ≤ added_up h xs + added_up k xs
  unfolding added_up
  added_up_two f g h k [] le = omega arith
  added_up_two f g h k (x ∷ xs) le =
      let here : f x + g x ≤ h x + k x = le x (inl refl) in
      let rest : added_up f xs + added_up g xs ≤ added_up h xs + added_up k xs = added_up_two f g h k xs (λ y i. le y (inr i)) in
      omega arith

  added_up_le : (f g : A → ℕ) (xs : List A) → ((x : A) → In x xs → f x ≤ g x) → added_up f xs ≤ added_up g xs
  unfolding added_up
  added_up_le f g [] le = omega arith
  added_up_le f g (x ∷ xs) le =
      let here : f x ≤ g x = le x (inl refl) in
      let rest : added_up f xs ≤ added_up g xs = added_up_le f g xs (λ y i. le y (inr i)) in
      omega arith

  added_up_plus : (f g : A → ℕ) (xs : List A) → added_up (λ x. f x + g x) xs ≡ added_up f xs + added_up g xs
  unfolding added_up
  added_up_plus f g [] = refl
  added_up_plus f g (x ∷ xs) = let rest : added_up (λ y. f y + g y) xs ≡ added_up f xs + added_up g xs = added_up_plus f g xs in omega arith

  added_up_those : (p : A → Bool) (f : A → ℕ) (xs : List A) → added_up (λ x. pick (p x) (f x) 0) xs ≡ added_up f (those p xs)
  unfolding added_up
  added_up_those p f [] = refl
  added_up_those p f (x ∷ xs) =
      pick_both (λ l. pick (p x) (f x) 0 + added_up (λ y. pick (p y) (f y) 0) xs ≡ added_up f l) (p x) (x ∷ those p xs) (those p xs)
      (λ e. ap (λ v. v + added_up (λ y. pick (p y) (f y) 0) xs) (pick_true (p x) (f x) 0 e) ∙ ap (λ v. f x + v) (added_up_those p f xs))
      (λ e. ap (λ v. v + added_up (λ y. pick (p y) (f y) 0) xs) (pick_false (p x) (f x) 0 e)
      ∙ (let z : 0 + added_up (λ y. pick (p y) (f y) 0) xs ≡ added_up (λ y. pick (p y) (f y) 0) xs = omega arith in z) ∙ added_up_those p f xs)

added_up_times : {A : Type 0} (c : ℕ) (f : A → ℕ) (xs : List A) → added_up (λ x. c * f x) xs ≡ c * added_up f xs
unfolding added_up
added_up_times c f [] = omega arith
added_up_times c f (x ∷ xs) = ap (λ v. c * f x + v) (added_up_times c f xs) ∙ sym (mul-add c (f x) (added_up f xs))

pub added_up_each : {A B : Type 0} (f : B → ℕ) (g : A → B) (xs : List A) → added_up f (each g xs) ≡ added_up (λ x. f (g x)) xs
unfolding added_up
added_up_each f g [] = refl
added_up_each f g (x ∷ xs) = ap (λ v. f (g x) + v) (added_up_each f g xs)

added_up_flat : (g : ℕ → List ℕ) (xs : List ℕ) → added_up (λ _. 1) (flat g xs) ≡ added_up (λ x. length (g x)) xs
unfolding added_up
added_up_flat g [] = refl
added_up_flat g (x ∷ xs) =
    sym (length_added_up (g x ++ flat g xs)) ∙ length-append (g x) (flat g xs)
    ∙ ap (λ v. length (g x) + v) (length_added_up (flat g xs) ∙ added_up_flat g xs)

-- a list that rises has each number once
pub rising_once : (ls : List ℕ) → rising ls ≡ true → Once ls
unfolding rising
rising_once [] e = tt
rising_once (r ∷ rs) e =
    let parts = and_parts (every (λ s. ltb r s) rs) (rising rs) e in
    (λ i. let lt : r < r = ltb-true r r (every_in (λ s. ltb r s) rs parts.0 r i) in omega arith, rising_once rs parts.1)

-- WHAT IS LIVE
pub object_heading : (t : List ℕ) (r : ℕ) → 1 ≤ size_in (heading_at t r) → get_or (object_at t r) 0 0 ≡ heading_at t r
unfolding object_at
object_heading t r h =
    get_or-take (size_in (heading_at t r)) (drop (8 * (r - 1)) t) 0 0 h ∙ get_or-drop (8 * (r - 1)) t 0 0 ∙ ap (λ i. get_or t i 0) (plus (8 * (r - 1)))
  where
    plus : (a : ℕ) → a + 0 ≡ a
    plus a = omega arith

live_above : (t roots : List ℕ) {r : ℕ} → Live t roots r → 1 ≤ r
live_above t roots (root r p h) = p
live_above t roots (named r s p l h) = p

-- one object: its bytes and what it lends, against what it weighs and borrows
balanced : (size weight kind refs tree noted : ℕ) → (o₁ : kind ≡ 1 → (64 ≤ weight) × (8 * size + 9 ≤ weight)) →
    (o₂ : kind ≡ 2 → (weight ≡ 0) × (8 * size + 41 * refs ≤ tree + 24)) → (o₃ : kind ≡ 3 → 8 * size + 161 + noted ≤ weight) →
    (o₄ : kind ≡ 4 → (weight ≡ 128) × (size ≤ 16)) → (kind ≡ 1) ⊎ ((kind ≡ 2) ⊎ ((kind ≡ 3) ⊎ (kind ≡ 4))) →
    64 * units size + (pick (eqb kind 2) (41 * refs) 0 + pick (eqb kind 3) (noted + 105) 0) ≤ weight + (pick (eqb kind 1) 47 0 + pick (eqb kind 2) (tree + 80) 0)
balanced size weight kind refs tree noted o₁ o₂ o₃ o₄ (inl e) =
    subst (λ k. 64 * units size + (pick (eqb k 2) (41 * refs) 0 + pick (eqb k 3) (noted + 105) 0) ≤ weight + (pick (eqb k 1) 47 0 + pick (eqb k 2) (tree + 80) 0)) (sym e)
    (let h : 8 * size + 9 ≤ weight = (o₁ e).1 in omega arith)
balanced size weight kind refs tree noted o₁ o₂ o₃ o₄ (inr (inl e)) =
    subst (λ k. 64 * units size + (pick (eqb k 2) (41 * refs) 0 + pick (eqb k 3) (noted + 105) 0) ≤ weight + (pick (eqb k 1) 47 0 + pick (eqb k 2) (tree + 80) 0)) (sym e)
    (let h : 8 * size + 41 * refs ≤ tree + 24 = (o₂ e).1 in omega arith)
balanced size weight kind refs tree noted o₁ o₂ o₃ o₄ (inr (inr (inl e))) =
    subst (λ k. 64 * units size + (pick (eqb k 2) (41 * refs) 0 + pick (eqb k 3) (noted + 105) 0) ≤ weight + (pick (eqb k 1) 47 0 + pick (eqb k 2) (tree + 80) 0)) (sym e)
    (let h : 8 * size + 161 + noted ≤ weight = o₃ e in omega arith)
balanced size weight kind refs tree noted o₁ o₂ o₃ o₄ (inr (inr (inr e))) =
    subst (λ k. 64 * units size + (pick (eqb k 2) (41 * refs) 0 + pick (eqb k 3) (noted + 105) 0) ≤ weight + (pick (eqb k 1) 47 0 + pick (eqb k 2) (tree + 80) 0)) (sym e)
    (let h : 128 ≤ weight = omega (arith, (o₄ e).0) in let g : size ≤ 16 = (o₄ e).1 in omega arith)

module _ (t roots ls : List ℕ) (work : ℕ) (lives : Lives t roots ls) (roomy : Roomy t roots work) where
  is : ℕ → ℕ → Bool
  is k r = eqb (kind_of (object_at t r)) k

  refs : ℕ → ℕ
  refs r = length (references_of (object_at t r))

  tree : ℕ → ℕ
  tree r = work_weight t r + 80

  noted : ℕ → ℕ
  noted r = noted_weight (object_at t r) + 105

  first : ℕ → ℕ
  first r = get_or (references_of (object_at t r)) 0 0

  live : (r : ℕ) → In r ls → Live t roots r
  live r i = lives.only r (in_has ls r i)

  -- of each kind
  of : ℕ → List ℕ
  of k = those (is k) ls

  of_kind : (k r : ℕ) → In r (of k) → Live t roots r × (kind_of (object_at t r) ≡ k)
  unfolding of is
  of_kind k r i = (live r (those_in (is k) ls r i).0, eqb-true (kind_of (object_at t r)) k (those_in (is k) ls r i).1)

  in_kind : (k r : ℕ) → Live t roots r → kind_of (object_at t r) ≡ k → In r (of k)
  unfolding of is
  in_kind k r l e = in_those (is k) ls r (has_in ls r (lives.all r l)) (eq-eqb (kind_of (object_at t r)) k e)

  once : (k : ℕ) → Once (of k)
  unfolding of
  once k = once_those (is k) ls (rising_once ls lives.rise)

  one : (r : ℕ) → In r ls →
      64 * units_at t r + (pick (is 2 r) (41 * refs r) 0 + pick (is 3 r) (noted r) 0) ≤ own_weight (object_at t r) + (pick (is 1 r) 47 0 + pick (is 2 r) (tree r) 0)
  unfolding is refs tree noted
  one r i =
      let l : Live t roots r = live r i in
      let b : Built (object_at t r) = roomy.built r l in
      let e : size_of (object_at t r) ≡ size_in (heading_at t r) = ap size_in (object_heading t r (roomy.sized r l)) in
      let w : work_weight t r ≡ tree_weight_in (object_at t r) = pick_false (eqb r 0) 0 (tree_weight_in (object_at t r)) (ne_eqb r 0 (λ z. let p : 1 ≤ r = live_above t roots l in omega arith)) in
      subst (λ s. 64 * units s + (pick (is 2 r) (41 * refs r) 0 + pick (is 3 r) (noted r) 0) ≤ own_weight (object_at t r) + (pick (is 1 r) 47 0 + pick (is 2 r) (tree r) 0)) e
      (subst (λ v. 64 * units (size_of (object_at t r)) + (pick (is 2 r) (41 * refs r) 0 + pick (is 3 r) (noted r) 0) ≤ own_weight (object_at t r) + (pick (is 1 r) 47 0 + pick (is 2 r) (v + 80) 0)) (sym w)
      (balanced (size_of (object_at t r)) (own_weight (object_at t r)) (kind_of (object_at t r)) (refs r) (tree_weight_in (object_at t r)) (noted_weight (object_at t r))
      b.file b.tree b.commit b.name b.known))

  -- all of them: what is lent and borrowed, by kind
  all_of_them : added_up (λ r. 64 * units_at t r) ls + (added_up (λ r. 41 * refs r) (of 2) + added_up noted (of 3)) ≤ weights t ls + (added_up (λ _. 47) (of 1) + added_up tree (of 2))
  unfolding of
  all_of_them =
      let le : added_up (λ r. 64 * units_at t r) ls + added_up (λ r. pick (is 2 r) (41 * refs r) 0 + pick (is 3 r) (noted r) 0) ls ≤ weights t ls + added_up (λ r. pick (is 1 r) 47 0 + pick (is 2 r) (tree r) 0) ls =
      added_up_two (λ r. 64 * units_at t r) (λ r. pick (is 2 r) (41 * refs r) 0 + pick (is 3 r) (noted r) 0) (λ r. own_weight (object_at t r)) (λ r. pick (is 1 r) 47 0 + pick (is 2 r) (tree r) 0) ls one in
      let a : added_up (λ r. pick (is 2 r) (41 * refs r) 0 + pick (is 3 r) (noted r) 0) ls ≡ added_up (λ r. 41 * refs r) (those (is 2) ls) + added_up noted (those (is 3) ls) =
      added_up_plus (λ r. pick (is 2 r) (41 * refs r) 0) (λ r. pick (is 3 r) (noted r) 0) ls ∙ ap (λ v. v + added_up (λ r. pick (is 3 r) (noted r) 0) ls) (added_up_those (is 2) (λ r. 41 * refs r) ls)
      ∙ ap (λ v. added_up (λ r. 41 * refs r) (those (is 2) ls) + v) (added_up_those (is 3) noted ls) in
      let b : added_up (λ r. pick (is 1 r) 47 0 + pick (is 2 r) (tree r) 0) ls ≡ added_up (λ _. 47) (those (is 1) ls) + added_up tree (those (is 2) ls) =
      added_up_plus (λ r. pick (is 1 r) 47 0) (λ r. pick (is 2 r) (tree r) 0) ls ∙ ap (λ v. v + added_up (λ r. pick (is 2 r) (tree r) 0) ls) (added_up_those (is 1) (λ _. 47) ls)
      ∙ ap (λ v. added_up (λ _. 47) (those (is 1) ls) + v) (added_up_those (is 2) tree ls) in
      omega arith

  -- trees weigh no more than commits note, and the one in work
  trees_noted : added_up tree (of 2) ≤ tree work + added_up noted (of 3)
  unfolding added_up tree noted first
  trees_noted =
      let le : added_up tree (of 2) ≤ tree work + added_up tree (each first (of 3)) = added_up_some tree (work ∷ each first (of 3)) (of 2) (once 2) (λ r i. named r (of_kind 2 r i)) in
      let e : added_up tree (each first (of 3)) ≡ added_up (λ s. tree (first s)) (of 3) = added_up_each tree first (of 3) in
      let g : added_up (λ s. tree (first s)) (of 3) ≤ added_up noted (of 3) = added_up_le (λ s. tree (first s)) noted (of 3) (λ s i. less s (of_kind 3 s i)) in
      omega arith
    where
      named : (r : ℕ) → Live t roots r × (kind_of (object_at t r) ≡ 2) → In r (work ∷ each first (of 3))
      named r (l, e) = elim (roomy.tree_named r l e) [
        | inl q ↦ inl (sym q)
        | inr (s, ls₁, k, q) ↦ inr (subst (λ x. In x (each first (of 3))) q (in_each first (of 3) s (in_kind 3 s ls₁ k)))
      ]

      less : (s : ℕ) → Live t roots s × (kind_of (object_at t s) ≡ 3) → tree (first s) ≤ noted s
      less s (l, e) =
          pick_both (λ v. v + 80 ≤ noted_weight (object_at t s) + 105) (eqb (first s) 0) 0 (tree_weight_in (object_at t (first s))) (λ _. omega arith)
          (λ n.
          let some : first s ≡ 0 → ⊥ = eqb-false (first s) 0 n in
          let w : noted_weight (object_at t s) ≡ tree_weight_in (object_at t (first s)) = roomy.tree_noted s l e (omega (arith, some)) in
          omega arith)

  -- there are no more files than entries in trees
  files_named : added_up (λ _. 1) (of 1) ≤ added_up refs (of 2)
  unfolding refs
  files_named =
      let le : added_up (λ _. 1) (of 1) ≤ added_up (λ _. 1) (flat (λ s. references_of (object_at t s)) (of 2)) =
      added_up_some (λ _. 1) (flat (λ s. references_of (object_at t s)) (of 2)) (of 1) (once 1) (λ r i. named r (of_kind 1 r i)) in
      let e : added_up (λ _. 1) (flat (λ s. references_of (object_at t s)) (of 2)) ≡ added_up (λ s. length (references_of (object_at t s))) (of 2) =
      added_up_flat (λ s. references_of (object_at t s)) (of 2) in
      omega arith
    where
      named : (r : ℕ) → Live t roots r × (kind_of (object_at t r) ≡ 1) → In r (flat (λ s. references_of (object_at t s)) (of 2))
      named r (l, e) =
          let f : (s : ℕ) × Live t roots s × (kind_of (object_at t s) ≡ 2) × (has (references_of (object_at t s)) r ≡ true) = roomy.file_named r l e in
          in_flat (λ s. references_of (object_at t s)) (of 2) f.0 r (in_kind 2 f.0 f.1 f.2) (has_in (references_of (object_at t f.0)) r f.3)

  -- and each weighs 64 at least
  files_weigh : 64 * added_up (λ _. 1) (of 1) ≤ weights t ls
  unfolding of is
  files_weigh =
      let e : added_up (λ _. 64) (those (is 1) ls) ≡ 64 * added_up (λ _. 1) (those (is 1) ls) = added_up_times 64 (λ _. 1) (those (is 1) ls) in
      let s : added_up (λ r. pick (is 1 r) 64 0) ls ≡ added_up (λ _. 64) (those (is 1) ls) = added_up_those (is 1) (λ _. 64) ls in
      let le : added_up (λ r. pick (is 1 r) 64 0) ls ≤ weights t ls = added_up_le (λ r. pick (is 1 r) 64 0) (λ r. own_weight (object_at t r)) ls heavy in
      omega arith
    where
      heavy : (r : ℕ) → In r ls → pick (is 1 r) 64 0 ≤ own_weight (object_at t r)
      heavy r i =
          pick_both (λ v. v ≤ own_weight (object_at t r)) (is 1 r) 64 0 (λ e. ((roomy.built r (live r i)).file (eqb-true (kind_of (object_at t r)) 1 e)).0) (λ _. omega arith)

  little : 64 * added_up (units_at t) ls ≤ bytes_for (weights t ls + work_weight t work)
  unfolding tree
  little =
      let a : added_up (λ r. 64 * units_at t r) ls + (added_up (λ r. 41 * refs r) (of 2) + added_up noted (of 3)) ≤ weights t ls + (added_up (λ _. 47) (of 1) + added_up tree (of 2)) = all_of_them in
      let b : added_up tree (of 2) ≤ (work_weight t work + 80) + added_up noted (of 3) = trees_noted in
      let c : added_up (λ _. 1) (of 1) ≤ added_up refs (of 2) = files_named in
      let d : 64 * added_up (λ _. 1) (of 1) ≤ weights t ls = files_weigh in
      let e : added_up (λ _. 47) (of 1) ≡ 47 * added_up (λ _. 1) (of 1) = added_up_times 47 (λ _. 1) (of 1) in
      let f : added_up (λ r. 41 * refs r) (of 2) ≡ 41 * added_up refs (of 2) = added_up_times 41 refs (of 2) in
      let g : added_up (λ r. 64 * units_at t r) ls ≡ 64 * added_up (units_at t) ls = added_up_times 64 (units_at t) ls in
      omega arith

pub takes_little : TakesLittle
takes_little t roots ls work lives roomy = little t roots ls work lives roomy

-- THE LAYOUTS
file_built : (sum ws : List ℕ) (bytes : ℕ) → length sum ≡ 4 → bytes < 65536 → length ws ≡ words_for bytes → Built (file_object sum bytes ws)
file_built sum ws bytes four few words =
    let parts = heading_parts 1 0 (6 + length ws) (omega arith) (omega arith) in
    record {
      known = inl parts.2;
      file = λ _. (omega arith, omega (arith, parts.1));
      tree = λ e. absurd (omega (arith, parts.2));
      commit = λ e. absurd (omega (arith, parts.2));
      name = λ e. absurd (omega (arith, parts.2));
    }

commit_built : (id ws : List ℕ) (tree_ref a b stamp tree_weight bytes : ℕ) → length id ≡ 4 → bytes < 65536 → length ws ≡ words_for bytes →
    Built (commit_object tree_ref a b id stamp tree_weight bytes ws)
commit_built id ws tree_ref a b stamp tree_weight bytes four few words =
    let parts = heading_parts 3 3 (11 + length ws) (omega arith) (omega arith) in
    let o : List ℕ = commit_object tree_ref a b id stamp tree_weight bytes ws in
    let w : noted_weight o ≡ tree_weight =
    ap (λ j. get_or (drop (2 + j) o) 5 0) parts.0
    ∙ get_or-append_right id (stamp ∷ tree_weight ∷ ws) 4 5 0 four (omega arith) in
    record {
      known = inr (inr (inl parts.2));
      file = λ e. absurd (omega (arith, parts.2));
      tree = λ e. absurd (omega (arith, parts.2));
      commit = λ e. omega (arith, w, parts.1);
      name = λ e. absurd (omega (arith, parts.2));
    }

name_built : (ws : List ℕ) (next to list bytes : ℕ) → bytes ≤ 65 → length ws ≡ words_for bytes → Built (name_object next to list bytes ws)
name_built ws next to list bytes few words =
    let parts = heading_parts 4 2 (6 + length ws) (omega arith) (omega arith) in
    record {
      known = inr (inr (inr parts.2));
      file = λ e. absurd (omega (arith, parts.2));
      tree = λ e. absurd (omega (arith, parts.2));
      commit = λ e. absurd (omega (arith, parts.2));
      name = λ e. (refl, omega (arith, parts.1));
    }

pub layouts_built : LayoutsBuilt
layouts_built = (file_built, commit_built, name_built)
