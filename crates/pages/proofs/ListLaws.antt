-- Laws of the list functions that all crates share, over any list and any test.
use Rattle.std.proofs.Common.{◌≡◌, ℕ, suc, ◌+◌, ◌<◌, ◌≤◌, Bool, true, false, not, ◌&&◌, eqb, ltb, ◌⊎◌, List, [], ◌∷◌, ◌++◌, length, Decides, sym, refl, ap, ◌∙◌, subst, inl, inr, ⊎_elim, arith}
use Rattle.std.proofs.lemmas.Bool.{true≢false, false≢true, eqb-true, eq-eqb, and_parts, and_from, not_from_false, not_from_true, ltb-true, lt-ltb, cases_order}
use Rattle.std.proofs.lemmas.Bool.Decides.{nat_tests as tells}
use Rattle.pages.specs.Laws.{RowsOrdered}
use Rattle.pages.specs.Lists.{pick, or, every, any, each, those, flat, same, earlier, has, none_of, first_or, distinct, added_up}

-- PICK

pub pick_both : {A : Type 0} (P : A → Type 0) (t : Bool) (x y : A) → (t ≡ true → P x) → (t ≡ false → P y) → P (pick t x y)
pick_both P true x y f g = f refl
pick_both P false x y f g = g refl

pub pick_true : {A : Type 0} (t : Bool) (x y : A) → t ≡ true → pick t x y ≡ x
pick_true true x y e = refl
pick_true false x y e = absurd (false≢true e)

pub pick_false : {A : Type 0} (t : Bool) (x y : A) → t ≡ false → pick t x y ≡ y
pick_false true x y e = absurd (true≢false e)
pick_false false x y e = refl

-- a test that is not true is false
pub false_unless : (t : Bool) → (t ≡ true → ⊥) → t ≡ false
false_unless true f = absurd (f refl)
false_unless false f = refl

-- two tests that hold of the same are one
pub same_test : (s t : Bool) → (s ≡ true → t ≡ true) → (t ≡ true → s ≡ true) → s ≡ t
same_test true t f g = sym (f refl)
same_test false true f g = absurd (false≢true (g refl))
same_test false false f g = refl

pub or_cases : (s t : Bool) → or s t ≡ true → (s ≡ true) ⊎ (t ≡ true)
or_cases true t e = inl refl
or_cases false t e = inr e

pub or_left : (s t : Bool) → s ≡ true → or s t ≡ true
or_left true t e = refl
or_left false t e = absurd (false≢true e)

pub or_right : (s t : Bool) → t ≡ true → or s t ≡ true
or_right true t e = refl
or_right false t e = e

-- MEMBERS

-- x is in the list
abbrev pub In : {A : Type 0} → A → List A → Type 0
In x [] = ⊥
In x (y ∷ ys) = (y ≡ x) ⊎ In x ys

pub in_left : {A : Type 0} (x : A) (xs ys : List A) → In x xs → In x (xs ++ ys)
in_left x [] ys i = absurd i
in_left x (y ∷ xs) ys (inl e) = inl e
in_left x (y ∷ xs) ys (inr i) = inr (in_left x xs ys i)

pub in_right : {A : Type 0} (x : A) (xs ys : List A) → In x ys → In x (xs ++ ys)
in_right x [] ys i = i
in_right x (y ∷ xs) ys i = inr (in_right x xs ys i)

pub in_append : {A : Type 0} (x : A) (xs ys : List A) → In x (xs ++ ys) → In x xs ⊎ In x ys
in_append x [] ys i = inr i
in_append x (y ∷ xs) ys (inl e) = inl (inl e)
in_append x (y ∷ xs) ys (inr i) = ⊎_elim (λ l. inl (inr l)) (λ r. inr r) (in_append x xs ys i)

-- EVERY AND ANY

pub every_in : {A : Type 0} (p : A → Bool) (xs : List A) → every p xs ≡ true → (x : A) → In x xs → p x ≡ true
every_in p [] h x i = absurd i
every_in p (y ∷ xs) h x (inl e) = subst (λ z. p z ≡ true) e (and_parts (p y) (every p xs) h).0
every_in p (y ∷ xs) h x (inr i) = every_in p xs (and_parts (p y) (every p xs) h).1 x i

pub every_from : {A : Type 0} (p : A → Bool) (xs : List A) → ((x : A) → In x xs → p x ≡ true) → every p xs ≡ true
every_from p [] h = refl
every_from p (y ∷ xs) h = and_from (p y) (every p xs) (h y (inl refl)) (every_from p xs (λ x i. h x (inr i)))

pub every_append : {A : Type 0} (p : A → Bool) (xs ys : List A) → every p xs ≡ true → every p ys ≡ true → every p (xs ++ ys) ≡ true
every_append p [] ys h k = k
every_append p (x ∷ xs) ys h k =
    let a : (p x ≡ true) × (every p xs ≡ true) = and_parts (p x) (every p xs) h in
    and_from (p x) (every p (xs ++ ys)) a.0 (every_append p xs ys a.1 k)

pub any_in : {A : Type 0} (p : A → Bool) (xs : List A) → any p xs ≡ true → (x : A) × In x xs × (p x ≡ true)
any_in p [] h = absurd (false≢true h)
any_in p (y ∷ xs) h =
    ⊎_elim (λ e. (y, inl refl, e)) (λ e. let r : (x : _) × In x xs × (p x ≡ true) = any_in p xs e in (r.0, inr r.1, r.2)) (or_cases (p y) (any p xs) h)

pub any_from : {A : Type 0} (p : A → Bool) (xs : List A) (x : A) → In x xs → p x ≡ true → any p xs ≡ true
any_from p [] x i e = absurd i
any_from p (y ∷ xs) x (inl c) e = or_left (p y) (any p xs) (subst (λ z. p z ≡ true) (sym c) e)
any_from p (y ∷ xs) x (inr i) e = or_right (p y) (any p xs) (any_from p xs x i e)

pub any_none : {A : Type 0} (p : A → Bool) (xs : List A) → any p xs ≡ false → (x : A) → In x xs → p x ≡ false
any_none p xs h x i = false_unless (p x) (λ e. true≢false (sym (any_from p xs x i e) ∙ h))

pub none_any : {A : Type 0} (p : A → Bool) (xs : List A) → ((x : A) → In x xs → p x ≡ false) → any p xs ≡ false
none_any p xs h = false_unless (any p xs) (λ e. let r : (x : _) × In x xs × (p x ≡ true) = any_in p xs e in true≢false (sym r.2 ∙ h r.0 r.1))

pub has_in : (ks : List ℕ) (k : ℕ) → has ks k ≡ true → In k ks
has_in ks k h = let r : (x : ℕ) × In x ks × (eqb x k ≡ true) = any_in (λ j. eqb j k) ks h in subst (λ z. In z ks) (eqb-true r.0 k r.2) r.1

pub in_has : (ks : List ℕ) (k : ℕ) → In k ks → has ks k ≡ true
in_has ks k i = any_from (λ j. eqb j k) ks k i (eq-eqb k k refl)

pub has_not : (ks : List ℕ) (k : ℕ) → has ks k ≡ false → In k ks → ⊥
has_not ks k h i = true≢false (sym (in_has ks k i) ∙ h)

-- the same members, the same answer
pub has_alike : (js ks : List ℕ) (k : ℕ) → (In k js → In k ks) → (In k ks → In k js) → has js k ≡ has ks k
has_alike js ks k f g = same_test (has js k) (has ks k) (λ e. in_has ks k (f (has_in js k e))) (λ e. in_has js k (g (has_in ks k e)))

-- THOSE, EACH, FLAT

pub those_in : {A : Type 0} (p : A → Bool) (xs : List A) (x : A) → In x (those p xs) → In x xs × (p x ≡ true)
those_in p [] x i = absurd i
those_in p (y ∷ xs) x i =
    let later : In x (those p xs) → In x (y ∷ xs) × (p x ≡ true) = λ k. (inr (those_in p xs x k).0, (those_in p xs x k).1) in
    pick_both (λ l. In x l → In x (y ∷ xs) × (p x ≡ true)) (p y) (y ∷ those p xs) (those p xs)
    (λ e. elim [ inl c ↦ (inl c, subst (λ z. p z ≡ true) c e) | inr k ↦ later k ]) (λ _. later) i

pub in_those : {A : Type 0} (p : A → Bool) (xs : List A) (x : A) → In x xs → p x ≡ true → In x (those p xs)
in_those p [] x i e = absurd i
in_those p (y ∷ xs) x (inl c) e =
    pick_both (λ l. In x l) (p y) (y ∷ those p xs) (those p xs) (λ _. inl c) (λ n. absurd (false≢true (sym n ∙ subst (λ z. p z ≡ true) (sym c) e)))
in_those p (y ∷ xs) x (inr i) e =
    pick_both (λ l. In x l) (p y) (y ∷ those p xs) (those p xs) (λ _. inr (in_those p xs x i e)) (λ _. in_those p xs x i e)

pub each_in : {A B : Type 0} (f : A → B) (xs : List A) (y : B) → In y (each f xs) → (x : A) × In x xs × (f x ≡ y)
each_in f [] y i = absurd i
each_in f (x ∷ xs) y (inl e) = (x, inl refl, e)
each_in f (x ∷ xs) y (inr i) = let r : (z : _) × In z xs × (f z ≡ y) = each_in f xs y i in (r.0, inr r.1, r.2)

pub in_each : {A B : Type 0} (f : A → B) (xs : List A) (x : A) → In x xs → In (f x) (each f xs)
in_each f [] x i = absurd i
in_each f (y ∷ xs) x (inl e) = inl (ap f e)
in_each f (y ∷ xs) x (inr i) = inr (in_each f xs x i)

pub flat_in : {A B : Type 0} (f : A → List B) (xs : List A) (y : B) → In y (flat f xs) → (x : A) × In x xs × In y (f x)
flat_in f [] y i = absurd i
flat_in f (x ∷ xs) y i =
    ⊎_elim (λ l. (x, inl refl, l)) (λ r. let s : (z : _) × In z xs × In y (f z) = flat_in f xs y r in (s.0, inr s.1, s.2)) (in_append y (f x) (flat f xs) i)

pub in_flat : {A B : Type 0} (f : A → List B) (xs : List A) (x : A) (y : B) → In x xs → In y (f x) → In y (flat f xs)
in_flat f [] x y i k = absurd i
in_flat f (z ∷ xs) x y (inl e) k = in_left y (f z) (flat f xs) (subst (λ w. In y (f w)) (sym e) k)
in_flat f (z ∷ xs) x y (inr i) k = in_right y (f z) (flat f xs) (in_flat f xs x y i k)

-- functions that agree on the members of a list
pub each_alike : {A B : Type 0} (f g : A → B) (xs : List A) → ((x : A) → In x xs → f x ≡ g x) → each f xs ≡ each g xs
each_alike f g [] h = refl
each_alike f g (x ∷ xs) h = λ i. h x (inl refl) i ∷ each_alike f g xs (λ y k. h y (inr k)) i

pub flat_alike : {A B : Type 0} (f g : A → List B) (xs : List A) → ((x : A) → In x xs → f x ≡ g x) → flat f xs ≡ flat g xs
flat_alike f g [] h = refl
flat_alike f g (x ∷ xs) h = λ i. h x (inl refl) i ++ flat_alike f g xs (λ y k. h y (inr k)) i

pub those_alike : {A : Type 0} (p q : A → Bool) (xs : List A) → ((x : A) → In x xs → p x ≡ q x) → those p xs ≡ those q xs
those_alike p q [] h = refl
those_alike p q (x ∷ xs) h = λ i. pick (h x (inl refl) i) (x ∷ those_alike p q xs (λ y k. h y (inr k)) i) (those_alike p q xs (λ y k. h y (inr k)) i)

pub any_alike : {A : Type 0} (p q : A → Bool) (xs : List A) → ((x : A) → In x xs → p x ≡ q x) → any p xs ≡ any q xs
any_alike p q [] h = refl
any_alike p q (x ∷ xs) h = λ i. or (h x (inl refl) i) (any_alike p q xs (λ y k. h y (inr k)) i)

pub every_alike : {A : Type 0} (p q : A → Bool) (xs : List A) → ((x : A) → In x xs → p x ≡ q x) → every p xs ≡ every q xs
every_alike p q [] h = refl
every_alike p q (x ∷ xs) h = λ i. h x (inl refl) i && every_alike p q xs (λ y k. h y (inr k)) i

pub added_up_alike : {A : Type 0} (f g : A → ℕ) (xs : List A) → ((x : A) → In x xs → f x ≡ g x) → added_up f xs ≡ added_up g xs
unfolding added_up
added_up_alike f g [] h = refl
added_up_alike f g (x ∷ xs) h = λ i. h x (inl refl) i + added_up_alike f g xs (λ y k. h y (inr k)) i

pub those_all : {A : Type 0} (p : A → Bool) (xs : List A) → ((x : A) → In x xs → p x ≡ true) → those p xs ≡ xs
those_all p [] h = refl
those_all p (x ∷ xs) h = pick_true (p x) (x ∷ those p xs) (those p xs) (h x (inl refl)) ∙ ap (λ l. x ∷ l) (those_all p xs (λ y k. h y (inr k)))

pub those_none : {A : Type 0} (p : A → Bool) (xs : List A) → ((x : A) → In x xs → p x ≡ false) → those p xs ≡ []
those_none p [] h = refl
those_none p (x ∷ xs) h = pick_false (p x) (x ∷ those p xs) (those p xs) (h x (inl refl)) ∙ those_none p xs (λ y k. h y (inr k))

-- NO REPETITION

abbrev pub Once : {A : Type 0} → List A → Type 0
Once [] = Unit {0}
Once (x ∷ xs) = (In x xs → ⊥) × Once xs

pub once_those : {A : Type 0} (p : A → Bool) (xs : List A) → Once xs → Once (those p xs)
once_those p [] o = tt
once_those p (x ∷ xs) o =
    pick_both Once (p x) (x ∷ those p xs) (those p xs) (λ _. (λ i. o.0 (those_in p xs x i).0, once_those p xs o.1)) (λ _. once_those p xs o.1)

pub once_end : {A : Type 0} (xs : List A) (x : A) → Once xs → (In x xs → ⊥) → Once (xs ++ (x ∷ []))
once_end [] x o n = (λ i. i, tt)
once_end (y ∷ xs) x o n =
    (λ i. ⊎_elim (λ l. o.0 l) (elim [ inl e ↦ n (inl (sym e)) | inr k ↦ k ]) (in_append y xs (x ∷ []) i), once_end xs x o.1 (λ i. n (inr i)))

-- added up over a list without repetition, what counts is who is in it
module _ {A : Type 0} (test : A → A → Bool) (tells : (x y : A) → Decides (test x y) (x ≡ y)) (f : A → ℕ) where
  pub added_up_but : (xs : List A) (x : A) → Once xs → In x xs → added_up f xs ≡ f x + added_up f (those (λ y. not (test x y)) xs)
  unfolding added_up
  added_up_but [] x o i = absurd i
  added_up_but (y ∷ xs) x o (inl e) =
      let gone : those (λ z. not (test x z)) (y ∷ xs) ≡ xs =
      pick_false (not (test x y)) _ _ (not_from_true (test x y) ((tells x y).1 (sym e)))
      ∙ those_all (λ z. not (test x z)) xs (λ z i. not_from_false (test x z) (false_unless (test x z) (λ t. o.0 (subst (λ w. In w xs) (sym ((tells x z).0 t) ∙ sym e) i)))) in
      ap (λ z. f z + added_up f xs) e ∙ ap (λ l. f x + added_up f l) (sym gone)
  added_up_but (y ∷ xs) x o (inr i) =
      let kept : those (λ z. not (test x z)) (y ∷ xs) ≡ y ∷ those (λ z. not (test x z)) xs =
      pick_true (not (test x y)) _ _ (not_from_false (test x y) (false_unless (test x y) (λ t. o.0 (subst (λ w. In w xs) ((tells x y).0 t) i)))) in
      let rest : added_up f xs ≡ f x + added_up f (those (λ z. not (test x z)) xs) = added_up_but xs x o.1 i in
      let all : f y + added_up f xs ≡ f x + (f y + added_up f (those (λ z. not (test x z)) xs)) = omega arith in
      all ∙ ap (λ l. f x + added_up f l) (sym kept)

  pub added_up_within : (xs ys : List A) → Once xs → Once ys → ((x : A) → In x xs → In x ys) → added_up f xs ≤ added_up f ys
  unfolding added_up
  added_up_within [] ys o q h = omega arith
  added_up_within (x ∷ xs) ys o q h =
      let but : added_up f ys ≡ f x + added_up f (those (λ y. not (test x y)) ys) = added_up_but ys x q (h x (inl refl)) in
      let rest : added_up f xs ≤ added_up f (those (λ y. not (test x y)) ys) =
      added_up_within xs (those (λ y. not (test x y)) ys) o.1 (once_those (λ y. not (test x y)) ys q)
      (λ z i. in_those (λ y. not (test x y)) ys z (h z (inr i)) (not_from_false (test x z) (false_unless (test x z) (λ t. o.0 (subst (λ w. In w xs) (sym ((tells x z).0 t)) i))))) in
      omega arith

  pub added_up_members : (xs ys : List A) → Once xs → Once ys → ((x : A) → In x xs → In x ys) → ((x : A) → In x ys → In x xs) → added_up f xs ≡ added_up f ys
  added_up_members xs ys o q h k =
      let a : added_up f xs ≤ added_up f ys = added_up_within xs ys o q h in
      let b : added_up f ys ≤ added_up f xs = added_up_within ys xs q o k in
      omega arith

pub length_added_up : {A : Type 0} (xs : List A) → length xs ≡ added_up (λ _. 1) xs
unfolding added_up
length_added_up [] = refl
length_added_up (x ∷ xs) = let h : length xs ≡ added_up (λ _. 1) xs = length_added_up xs in omega arith

-- a list without repetition is no longer than one that has all its members; taking a member out shortens it by one
module _ {A : Type 0} (test : A → A → Bool) (tells : (x y : A) → Decides (test x y) (x ≡ y)) where
  pub once_length : (xs ys : List A) → Once xs → Once ys → ((x : A) → In x xs → In x ys) → length xs ≤ length ys
  once_length xs ys o q h =
      let a : added_up (λ _. 1) xs ≤ added_up (λ _. 1) ys = added_up_within test tells (λ _. 1) xs ys o q h in
      let e : length xs ≡ added_up (λ _. 1) xs = length_added_up xs in
      let g : length ys ≡ added_up (λ _. 1) ys = length_added_up ys in
      omega arith

  pub once_length_but : (xs : List A) (x : A) → Once xs → In x xs → length xs ≡ suc (length (those (λ y. not (test x y)) xs))
  once_length_but xs x o i =
      let a : added_up (λ _. 1) xs ≡ 1 + added_up (λ _. 1) (those (λ y. not (test x y)) xs) = added_up_but test tells (λ _. 1) xs x o i in
      let e : length xs ≡ added_up (λ _. 1) xs = length_added_up xs in
      let g : length (those (λ y. not (test x y)) xs) ≡ added_up (λ _. 1) (those (λ y. not (test x y)) xs) = length_added_up _ in
      omega arith

-- ROWS OF NUMBERS: the same, earlier

pub same_true : (xs ys : List ℕ) → same xs ys ≡ true → xs ≡ ys
unfolding same
same_true [] [] h = refl
same_true [] (y ∷ ys) h = absurd (false≢true h)
same_true (x ∷ xs) [] h = absurd (false≢true h)
same_true (x ∷ xs) (y ∷ ys) h =
    let a : (eqb x y ≡ true) × (same xs ys ≡ true) = and_parts (eqb x y) (same xs ys) h in
    λ i. eqb-true x y a.0 i ∷ same_true xs ys a.1 i

pub same_refl : (xs : List ℕ) → same xs xs ≡ true
unfolding same
same_refl [] = refl
same_refl (x ∷ xs) = and_from (eqb x x) (same xs xs) (eq-eqb x x refl) (same_refl xs)

pub same_from : (xs ys : List ℕ) → xs ≡ ys → same xs ys ≡ true
same_from xs ys e = subst (λ z. same xs z ≡ true) e (same_refl xs)

pub same_tells : (xs ys : List ℕ) → Decides (same xs ys) (xs ≡ ys)
same_tells xs ys = (same_true xs ys, same_from xs ys)

pub same_false : (xs ys : List ℕ) → same xs ys ≡ false → xs ≡ ys → ⊥
same_false xs ys h e = true≢false (sym (same_from xs ys e) ∙ h)

pub same_not : (xs ys : List ℕ) → (xs ≡ ys → ⊥) → same xs ys ≡ false
same_not xs ys n = false_unless (same xs ys) (λ e. n (same_true xs ys e))

pub same_sym : (xs ys : List ℕ) → same xs ys ≡ same ys xs
same_sym xs ys = same_test (same xs ys) (same ys xs) (λ e. same_from ys xs (sym (same_true xs ys e))) (λ e. same_from xs ys (sym (same_true ys xs e)))

pub earlier_refl : (xs : List ℕ) → earlier xs xs ≡ false
unfolding earlier
earlier_refl [] = refl
earlier_refl (x ∷ xs) = let h : earlier xs xs ≡ false = earlier_refl xs in grind (arith, tells)

-- the first that differs decides
pub earlier_parts : (x y : ℕ) (r : Bool) → pick (ltb x y) true (eqb x y && r) ≡ true → (x < y) ⊎ ((x ≡ y) × (r ≡ true))
earlier_parts x y r h =
    pick_both (λ t. t ≡ true → (x < y) ⊎ ((x ≡ y) × (r ≡ true))) (ltb x y) true (eqb x y && r) (λ e _. inl (ltb-true x y e))
    (λ _ k. inr (eqb-true x y (and_parts (eqb x y) r k).0, (and_parts (eqb x y) r k).1)) h

pub earlier_first : (x y : ℕ) (r : Bool) → x < y → pick (ltb x y) true (eqb x y && r) ≡ true
earlier_first x y r h = pick_true (ltb x y) true (eqb x y && r) (lt-ltb x y h)

pub earlier_next : (x y : ℕ) (r : Bool) → x ≡ y → r ≡ true → pick (ltb x y) true (eqb x y && r) ≡ true
earlier_next x y r h e = grind (arith, tells)

pub earlier_trans : (xs ys zs : List ℕ) → earlier xs ys ≡ true → earlier ys zs ≡ true → earlier xs zs ≡ true
unfolding earlier
earlier_trans [] [] zs h k = absurd (false≢true h)
earlier_trans [] (y ∷ ys) [] h k = absurd (false≢true k)
earlier_trans [] (y ∷ ys) (z ∷ zs) h k = refl
earlier_trans (x ∷ xs) [] zs h k = absurd (false≢true h)
earlier_trans (x ∷ xs) (y ∷ ys) [] h k = absurd (false≢true k)
earlier_trans (x ∷ xs) (y ∷ ys) (z ∷ zs) h k =
    go (earlier_parts x y (earlier xs ys) h) (earlier_parts y z (earlier ys zs) k) (earlier_trans xs ys zs)
  where
    go : (x < y) ⊎ ((x ≡ y) × (earlier xs ys ≡ true)) → (y < z) ⊎ ((y ≡ z) × (earlier ys zs ≡ true)) →
        (earlier xs ys ≡ true → earlier ys zs ≡ true → earlier xs zs ≡ true) → pick (ltb x z) true (eqb x z && earlier xs zs) ≡ true
    go (inl a) (inl b) f = earlier_first x z (earlier xs zs) (omega arith)
    go (inl a) (inr b) f = earlier_first x z (earlier xs zs) (omega arith)
    go (inr a) (inl b) f = earlier_first x z (earlier xs zs) (omega arith)
    go (inr a) (inr b) f = earlier_next x z (earlier xs zs) (a.0 ∙ b.0) (f a.1 b.1)

pub earlier_total : (xs ys : List ℕ) → (xs ≡ ys) ⊎ ((earlier xs ys ≡ true) ⊎ (earlier ys xs ≡ true))
unfolding earlier
earlier_total [] [] = inl refl
earlier_total [] (y ∷ ys) = inr (inl refl)
earlier_total (x ∷ xs) [] = inr (inr refl)
earlier_total (x ∷ xs) (y ∷ ys) = go (cases_order x y) (earlier_total xs ys)
  where
    go : (x ≡ y) ⊎ ((x < y) ⊎ (y < x)) → (xs ≡ ys) ⊎ ((earlier xs ys ≡ true) ⊎ (earlier ys xs ≡ true)) →
        (x ∷ xs ≡ y ∷ ys) ⊎ ((pick (ltb x y) true (eqb x y && earlier xs ys) ≡ true) ⊎ (pick (ltb y x) true (eqb y x && earlier ys xs) ≡ true))
    go (inl e) (inl f) = inl (λ i. e i ∷ f i)
    go (inl e) (inr (inl f)) = inr (inl (earlier_next x y (earlier xs ys) e f))
    go (inl e) (inr (inr f)) = inr (inr (earlier_next y x (earlier ys xs) (sym e) f))
    go (inr (inl e)) f = inr (inl (earlier_first x y (earlier xs ys) e))
    go (inr (inr e)) f = inr (inr (earlier_first y x (earlier ys xs) e))

pub earlier_not_same : (xs ys : List ℕ) → earlier xs ys ≡ true → xs ≡ ys → ⊥
earlier_not_same xs ys h e = false≢true (sym (earlier_refl xs) ∙ subst (λ z. earlier xs z ≡ true) (sym e) h)

pub earlier_one_way : (xs ys : List ℕ) → earlier xs ys ≡ true → earlier ys xs ≡ false
earlier_one_way xs ys h = false_unless (earlier ys xs) (λ k. false≢true (sym (earlier_refl xs) ∙ earlier_trans xs ys xs h k))

-- neither the same nor earlier is later
pub earlier_else : (xs ys : List ℕ) → same xs ys ≡ false → earlier xs ys ≡ false → earlier ys xs ≡ true
earlier_else xs ys h k = go (earlier_total xs ys)
  where
    go : (xs ≡ ys) ⊎ ((earlier xs ys ≡ true) ⊎ (earlier ys xs ≡ true)) → earlier ys xs ≡ true
    go (inl e) = absurd (same_false xs ys h e)
    go (inr (inl e)) = absurd (true≢false (sym e ∙ k))
    go (inr (inr e)) = e

-- DISTINCT ROWS

pub distinct_in : (bs : List (List ℕ)) (x : List ℕ) → In x (distinct bs) → In x bs
unfolding distinct
distinct_in [] x i = i
distinct_in (b ∷ bs) x i =
    pick_both (λ l. In x l → In x (b ∷ bs)) (any (same b) bs) (distinct bs) (b ∷ distinct bs) (λ _ k. inr (distinct_in bs x k))
    (λ _. elim [ inl e ↦ inl e | inr k ↦ inr (distinct_in bs x k) ]) i

pub in_distinct : (bs : List (List ℕ)) (x : List ℕ) → In x bs → In x (distinct bs)
unfolding distinct
in_distinct [] x i = i
in_distinct (b ∷ bs) x (inl e) =
    pick_both (λ l. In x l) (any (same b) bs) (distinct bs) (b ∷ distinct bs)
    (λ h. let r : (y : List ℕ) × In y bs × (same b y ≡ true) = any_in (same b) bs h in
    in_distinct bs x (subst (λ z. In z bs) (sym (same_true b r.0 r.2) ∙ e) r.1))
    (λ _. inl e)
in_distinct (b ∷ bs) x (inr i) =
    pick_both (λ l. In x l) (any (same b) bs) (distinct bs) (b ∷ distinct bs) (λ _. in_distinct bs x i) (λ _. inr (in_distinct bs x i))

pub once_distinct : (bs : List (List ℕ)) → Once (distinct bs)
unfolding distinct
once_distinct [] = tt
once_distinct (b ∷ bs) =
    pick_both Once (any (same b) bs) (distinct bs) (b ∷ distinct bs) (λ _. once_distinct bs)
    (λ h. (λ i. same_false b b (any_none (same b) bs h b (distinct_in bs b i)) refl, once_distinct bs))

-- LENGTHS

pub length_each : {A B : Type 0} (f : A → B) (xs : List A) → length (each f xs) ≡ length xs
length_each f [] = refl
length_each f (x ∷ xs) = ap suc (length_each f xs)

pub length_those : {A : Type 0} (p : A → Bool) (xs : List A) → length (those p xs) ≤ length xs
length_those p [] = omega arith
length_those p (x ∷ xs) =
    let h : length (those p xs) ≤ length xs = length_those p xs in
    pick_both (λ l. length l ≤ suc (length xs)) (p x) (x ∷ those p xs) (those p xs) (λ _. omega arith) (λ _. omega arith)

pub those_append : {A : Type 0} (p : A → Bool) (xs ys : List A) → those p (xs ++ ys) ≡ those p xs ++ those p ys
those_append p [] ys = refl
those_append p (x ∷ xs) ys = go (p x) (those_append p xs ys)
  where
    go : (t : Bool) → those p (xs ++ ys) ≡ those p xs ++ those p ys →
        pick t (x ∷ those p (xs ++ ys)) (those p (xs ++ ys)) ≡ pick t (x ∷ those p xs) (those p xs) ++ those p ys
    go true e = ap (λ l. x ∷ l) e
    go false e = e

pub each_append : {A B : Type 0} (f : A → B) (xs ys : List A) → each f (xs ++ ys) ≡ each f xs ++ each f ys
each_append f [] ys = refl
each_append f (x ∷ xs) ys = ap (λ l. f x ∷ l) (each_append f xs ys)

-- EVERY AND ONCE THROUGH THOSE, EACH AND ++

pub every_those : {A : Type 0} (q p : A → Bool) (xs : List A) → every q xs ≡ true → every q (those p xs) ≡ true
every_those q p xs h = every_from q (those p xs) (λ x i. every_in q xs h x (those_in p xs x i).0)

pub every_each : {A B : Type 0} (q : B → Bool) (f : A → B) (xs : List A) → every (λ x. q (f x)) xs ≡ true → every q (each f xs) ≡ true
every_each q f [] h = refl
every_each q f (x ∷ xs) h = and_from _ _ (and_parts (q (f x)) _ h).0 (every_each q f xs (and_parts (q (f x)) _ h).1)

pub once_each_those : {A B : Type 0} (f : A → B) (p : A → Bool) (xs : List A) → Once (each f xs) → Once (each f (those p xs))
once_each_those f p [] o = tt
once_each_those f p (x ∷ xs) o =
    pick_both (λ l. Once (each f l)) (p x) (x ∷ those p xs) (those p xs)
    (λ _. (
      λ i. let r : (y : _) × In y (those p xs) × (f y ≡ f x) = each_in f (those p xs) (f x) i in
          o.0 (subst (λ z. In z (each f xs)) r.2 (in_each f xs r.0 (those_in p xs r.0 r.1).0)),
      once_each_those f p xs o.1,
    ))
    (λ _. once_each_those f p xs o.1)

pub once_append : {A : Type 0} (xs ys : List A) → Once xs → Once ys → ((x : A) → In x xs → In x ys → ⊥) → Once (xs ++ ys)
once_append [] ys o q n = q
once_append (x ∷ xs) ys o q n =
    (λ i. ⊎_elim (λ l. o.0 l) (λ r. n x (inl refl) r) (in_append x xs ys i), once_append xs ys o.1 q (λ y i k. n y (inr i) k))

pub once_append_parts : {A : Type 0} (xs ys : List A) → Once (xs ++ ys) → Once xs × Once ys × ((x : A) → In x xs → In x ys → ⊥)
once_append_parts [] ys o = (tt, o, λ x i k. i)
once_append_parts (x ∷ xs) ys o =
    let r : Once xs × Once ys × ((z : _) → In z xs → In z ys → ⊥) = once_append_parts xs ys o.1 in (
      (λ i. o.0 (in_left x xs ys i), r.0),
      r.1,
      λ z. elim [ inl e ↦ λ k. o.0 (in_right x xs ys (subst (λ w. In w ys) (sym e) k)) | inr i ↦ λ k. r.2 z i k ],
    )

pub or_parts : (s t : Bool) → or s t ≡ false → (s ≡ false) × (t ≡ false)
or_parts true t e = absurd (true≢false e)
or_parts false t e = (refl, e)

pub first_or_every : (p : ℕ → Bool) (d : ℕ) (ks : List ℕ) → none_of ks ≡ false → every p ks ≡ true → p (first_or d ks) ≡ true
first_or_every p d [] n h = absurd (true≢false n)
first_or_every p d (k ∷ ks) n h = (and_parts (p k) (every p ks) h).0

pub rows_ordered : RowsOrdered
unfolding RowsOrdered
rows_ordered xs ys zs = (same_true xs ys, same_refl xs, earlier_refl xs, earlier_trans xs ys zs, earlier_total xs ys)
