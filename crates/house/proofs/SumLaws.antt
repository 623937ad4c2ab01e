-- What different files weigh: sums over lists in which nothing stands twice, by who is in them; and sums split by a test. Assumes nothing.
use Rattle.std.proofs.Common.{◌≡◌, ℕ, ◌+◌, Bool, true, false, not, List, [], ◌∷◌, length, Decides, sym, refl, ◌∙◌, subst, inl, inr, arith}
use Rattle.pages.specs.Lists.{pick, or, any, each, those, has, same, distinct, added_up}
use Rattle.pages.proofs.ListLaws.{In, Once, same_test, any_in, any_from, in_has, each_in, added_up_alike, added_up_members, same_tells, distinct_in, in_distinct, once_distinct}
use Rattle.std.proofs.lemmas.Bool.{true≢false}
use Rattle.objects.specs.Heap.{rising, weight_at, weights}
use Rattle.objects.proofs.RoomLaws.{added_up_each, rising_once}

-- WHO IS IN A LIST, by a test that tells equals
module _ {A : Type 0} (eq : A → A → Bool) (tells : (x y : A) → Decides (eq x y) (x ≡ y)) where
  pub any_member : (xs : List A) (x : A) → any (eq x) xs ≡ true → In x xs
  any_member xs x e = let r : (y : A) × In y xs × (eq x y ≡ true) = any_in (eq x) xs e in subst (λ z. In z xs) (sym ((tells x r.0).0 r.2)) r.1

  pub member_any : (xs : List A) (x : A) → In x xs → any (eq x) xs ≡ true
  member_any xs x i = any_from (eq x) xs x i ((tells x x).1 refl)

  -- two lists in which nothing stands twice and that have the same members add up to the same
  pub sums_alike : (f : A → ℕ) (xs ys : List A) → Once xs → Once ys → ((b : A) → any (eq b) xs ≡ any (eq b) ys) → added_up f xs ≡ added_up f ys
  sums_alike f xs ys o q h =
      added_up_members eq tells f xs ys o q (λ x i. any_member ys x (sym (h x) ∙ member_any xs x i)) (λ x i. any_member xs x (h x ∙ member_any ys x i))

pub once_each : {A B : Type 0} (f : A → B) (xs : List A) → Once xs → ((x y : A) → In x xs → In y xs → f x ≡ f y → x ≡ y) → Once (each f xs)
once_each f [] o h = tt
once_each f (x ∷ xs) o h = (
  λ i. let r : (y : _) × In y xs × (f y ≡ f x) = each_in f xs (f x) i in
      o.0 (subst (λ z. In z xs) (h r.0 x (inr r.1) (inl refl) r.2) r.1),
  once_each f xs o.1 (λ y z i j e. h y z (inr i) (inr j) e),
)

-- the same rows are in both
pub any_both : (xs ys : List (List ℕ)) (b : List ℕ) → (In b xs → In b ys) → (In b ys → In b xs) → any (same b) xs ≡ any (same b) ys
any_both xs ys b f g =
    same_test (any (same b) xs) (any (same b) ys) (λ e. member_any same same_tells ys b (f (any_member same same_tells xs b e)))
    (λ e. member_any same same_tells xs b (g (any_member same same_tells ys b e)))

-- each different one once
pub distinct_alike : (bs : List (List ℕ)) (b : List ℕ) → any (same b) (distinct bs) ≡ any (same b) bs
distinct_alike bs b =
    same_test (any (same b) (distinct bs)) (any (same b) bs)
    (λ e. member_any same same_tells bs b (distinct_in bs b (any_member same same_tells (distinct bs) b e)))
    (λ e. member_any same same_tells (distinct bs) b (in_distinct bs b (any_member same same_tells bs b e)))

pub distinct_sum : (f : List ℕ → ℕ) (bs ys : List (List ℕ)) → Once ys → ((b : List ℕ) → any (same b) bs ≡ any (same b) ys) → added_up f (distinct bs) ≡ added_up f ys
distinct_sum f bs ys o h = sums_alike same same_tells f (distinct bs) ys (once_distinct bs) o (λ b. distinct_alike bs b ∙ h b)

-- LIVE FILES of which no two have the same bytes
module _ (t ls : List ℕ) (bytes : ℕ → List ℕ) (files : List (List ℕ)) (rise : rising ls ≡ true)
    (weigh : (r : ℕ) → has ls r ≡ true → weight_at t r ≡ 64 + length (bytes r))
    (differ : (r s : ℕ) → has ls r ≡ true → has ls s ≡ true → bytes r ≡ bytes s → r ≡ s) where
  once_bytes : Once (each bytes ls)
  once_bytes = once_each bytes ls (rising_once ls rise) (λ r s i j e. differ r s (in_has ls r i) (in_has ls s j) e)

  bytes_weigh : added_up (λ bs. 64 + length bs) (each bytes ls) ≡ weights t ls
  bytes_weigh =
      added_up_each (λ bs. 64 + length bs) bytes ls ∙ added_up_alike (λ r. 64 + length (bytes r)) (weight_at t) ls (λ r i. sym (weigh r (in_has ls r i)))

  pub files_weigh : ((b : List ℕ) → any (same b) files ≡ any (same b) (each bytes ls)) → added_up (λ bs. 64 + length bs) (distinct files) ≡ weights t ls
  files_weigh h = distinct_sum (λ bs. 64 + length bs) files (each bytes ls) once_bytes h ∙ bytes_weigh

  -- and one more
  pub files_weigh_more : (b : List ℕ) → ((q : List ℕ) → any (same q) files ≡ or (same q b) (any (same q) (each bytes ls))) → any (same b) (each bytes ls) ≡ false →
      added_up (λ bs. 64 + length bs) (distinct files) ≡ weights t ls + (64 + length b)
  unfolding added_up
  files_weigh_more b h n =
      let e : added_up (λ bs. 64 + length bs) (distinct files) ≡ (64 + length b) + added_up (λ bs. 64 + length bs) (each bytes ls) =
      distinct_sum (λ bs. 64 + length bs) files (b ∷ each bytes ls)
      (λ i. true≢false (sym (member_any same same_tells (each bytes ls) b i) ∙ n), once_bytes) h in
      let w : added_up (λ bs. 64 + length bs) (each bytes ls) ≡ weights t ls = bytes_weigh in
      omega arith

-- SUMS SPLIT BY A TEST
pub added_up_by : {A : Type 0} (f : A → ℕ) (p : A → Bool) (xs : List A) → added_up f xs ≡ added_up f (those p xs) + added_up f (those (λ x. not (p x)) xs)
unfolding added_up
added_up_by f p [] = refl
added_up_by f p (x ∷ xs) = go (p x) (added_up_by f p xs)
  where
    go : (t : Bool) → added_up f xs ≡ added_up f (those p xs) + added_up f (those (λ y. not (p y)) xs) →
        f x + added_up f xs ≡ added_up f (pick t (x ∷ those p xs) (those p xs)) + added_up f (pick (not t) (x ∷ those (λ y. not (p y)) xs) (those (λ y. not (p y)) xs))
    go true e = omega arith
    go false e = omega arith

pub weights_by : (t ls : List ℕ) (p : ℕ → Bool) → weights t ls ≡ weights t (those p ls) + weights t (those (λ r. not (p r)) ls)
weights_by t ls p = added_up_by (weight_at t) p ls
