-- What comes before a commit: the members of added, closed and back, and what two commits have in common.
use Rattle.std.proofs.Common.{◌≡◌, ℕ, zero, suc, ◌+◌, ◌<◌, ◌≤◌, Bool, true, false, not, ◌&&◌, eqb, ◌⊎◌, List, [], ◌∷◌, ◌++◌, length, sym, refl, ap, ◌∙◌, subst, inl, inr, ⊎_elim, arith}
use Rattle.std.proofs.lemmas.Bool.{true≢false, and_parts, and_from, not-true, not_from_false, eqb-false, ne_eqb, cases_eq}
use Rattle.pages.specs.Lists.{pick, every, any, flat, has}
use Rattle.pages.proofs.ListLaws.{pick_both, pick_true, false_unless, In, in_left, in_right, in_append, every_in, every_from, any_in, any_from, none_any, has_in, in_has, has_not, has_alike, those_in, in_those, flat_in, in_flat, Once, once_end, once_those, once_length}
use Rattle.std.proofs.lemmas.Bool.Decides.{Decides-eqb}
use Rattle.history.specs.Book.{Book, nth, up_to, added, closed, back, under, common, latest_common}
use Rattle.history.specs.Laws.{Grown, each_once, LatestRight, BackRight, UnderRight}
use Rattle.history.proofs.BookLaws.{parent_lower, parent_within, in_up_to, once_up_to, length_up_to}

-- ADDED

pub added_in : (js ks : List ℕ) (x : ℕ) → In x (added js ks) → In x js ⊎ In x ks
unfolding added
added_in [] ks x i = inr i
added_in (j ∷ js) ks x i =
    ⊎_elim (λ l. inl (inr l))
    (λ r. pick_both (λ l. In x l → In x (j ∷ js) ⊎ In x ks) (has ks j) ks (ks ++ (j ∷ [])) (λ _ k. inr k)
    (λ _ k. ⊎_elim (λ l. inr l) (elim [ inl e ↦ inl (inl e) | inr n ↦ absurd n ]) (in_append x ks (j ∷ []) k)) r)
    (added_in js (pick (has ks j) ks (ks ++ (j ∷ []))) x i)

pub in_added_old : (js ks : List ℕ) (x : ℕ) → In x ks → In x (added js ks)
unfolding added
in_added_old [] ks x i = i
in_added_old (j ∷ js) ks x i =
    in_added_old js (pick (has ks j) ks (ks ++ (j ∷ []))) x (pick_both (λ l. In x l) (has ks j) ks (ks ++ (j ∷ [])) (λ _. i) (λ _. in_left x ks (j ∷ []) i))

pub in_added_new : (js ks : List ℕ) (x : ℕ) → In x js → In x (added js ks)
unfolding added
in_added_new [] ks x i = absurd i
in_added_new (j ∷ js) ks x (inl e) =
    in_added_old js (pick (has ks j) ks (ks ++ (j ∷ []))) x
    (pick_both (λ l. In x l) (has ks j) ks (ks ++ (j ∷ [])) (λ h. subst (λ z. In z ks) e (has_in ks j h)) (λ _. in_right x ks (j ∷ []) (inl e)))
in_added_new (j ∷ js) ks x (inr i) = in_added_new js (pick (has ks j) ks (ks ++ (j ∷ []))) x i

pub once_added : (js ks : List ℕ) → Once ks → Once (added js ks)
unfolding added
once_added [] ks o = o
once_added (j ∷ js) ks o =
    once_added js (pick (has ks j) ks (ks ++ (j ∷ []))) (pick_both Once (has ks j) ks (ks ++ (j ∷ [])) (λ _. o) (λ h. once_end ks j o (has_not ks j h)))

-- nothing new, nothing added
pub added_none : (js ks : List ℕ) → ((x : ℕ) → In x js → In x ks) → added js ks ≡ ks
unfolding added
added_none [] ks f = refl
added_none (j ∷ js) ks f =
    ap (λ l. added js l) (pick_true (has ks j) ks (ks ++ (j ∷ [])) (in_has ks j (f j (inl refl)))) ∙ added_none js ks (λ x i. f x (inr i))

-- STEPS: from k down to j, from parent to parent

abbrev pub Steps : Book → ℕ → ℕ → ℕ → Type 0
Steps b zero k j = k ≡ j
Steps b (suc n) k j = (i : ℕ) × In i (nth b k).parents × Steps b n i j

-- k comes from j: some steps lead there
abbrev pub Comes : Book → ℕ → ℕ → Type 0
Comes b k j = (n : ℕ) × Steps b n k j

pub comes_self : (b : Book) (k : ℕ) → Comes b k k
comes_self b k = (0, refl)

pub comes_parent : (b : Book) (k i j : ℕ) → In i (nth b k).parents → Comes b i j → Comes b k j
comes_parent b k i j h c = (suc c.0, (i, h, c.1))

pub comes_trans : (b : Book) (n k i j : ℕ) → Steps b n k i → Comes b i j → Comes b k j
comes_trans b zero k i j s c = subst (λ z. Comes b z j) (sym s) c
comes_trans b (suc n) k i j s c = comes_parent b k s.0 j s.1 (comes_trans b n s.0 i j s.2 c)

pub steps_lower : (b : Book) (n k j : ℕ) → Grown b → Steps b n k j → j + n ≤ k
steps_lower b zero k j g s = let e : k ≡ j = s in omega arith
steps_lower b (suc n) k j g s =
    let l : s.0 < k = parent_lower b k s.0 g s.1 in
    let m : j + n ≤ s.0 = steps_lower b n s.0 j g s.2 in
    omega arith

pub comes_lower : (b : Book) (k j : ℕ) → Grown b → Comes b k j → j ≤ k
comes_lower b k j g c = let m : j + c.0 ≤ k = steps_lower b c.0 k j g c.1 in omega arith

-- no way is longer than the book
pub steps_few : (b : Book) (n k j : ℕ) → Grown b → Steps b n k j → n ≤ length b
steps_few b zero k j g s = omega arith
steps_few b (suc n) k j g s =
    let m : j + suc n ≤ k = steps_lower b (suc n) k j g s in
    let l : k < length b = parent_within b k s.0 s.1 in
    omega arith

-- CLOSED AND BACK

pub closed_in : (n : ℕ) (b : Book) (ks : List ℕ) (j : ℕ) → In j (closed n b ks) → (k : ℕ) × In k ks × Comes b k j
unfolding closed
closed_in zero b ks j i = (j, i, comes_self b j)
closed_in (suc n) b ks j i =
    let r : (k : ℕ) × In k (added (flat (λ k. (nth b k).parents) ks) ks) × Comes b k j = closed_in n b (added (flat (λ k. (nth b k).parents) ks) ks) j i in
    ⊎_elim
    (λ h. let s : (h : ℕ) × In h ks × In r.0 (nth b h).parents = flat_in (λ k. (nth b k).parents) ks r.0 h in
    (s.0, s.1, comes_parent b s.0 r.0 j s.2 r.2))
    (λ h. (r.0, h, r.2)) (added_in (flat (λ k. (nth b k).parents) ks) ks r.0 r.1)

pub in_closed : (n : ℕ) (b : Book) (ks : List ℕ) (k j m : ℕ) → In k ks → m ≤ n → Steps b m k j → In j (closed n b ks)
unfolding closed
in_closed zero b ks k j zero i l s = subst (λ z. In z ks) s i
in_closed zero b ks k j (suc m) i l s = absurd (omega arith)
in_closed (suc n) b ks k j zero i l s =
    in_closed n b (added (flat (λ k. (nth b k).parents) ks) ks) k j zero (in_added_old (flat (λ k. (nth b k).parents) ks) ks k i) (omega arith) s
in_closed (suc n) b ks k j (suc m) i l s =
    in_closed n b (added (flat (λ k. (nth b k).parents) ks) ks) s.0 j m
    (in_added_new (flat (λ k. (nth b k).parents) ks) ks s.0 (in_flat (λ k. (nth b k).parents) ks k s.0 i s.1)) (omega arith) s.2

pub once_closed : (n : ℕ) (b : Book) (ks : List ℕ) → Once ks → Once (closed n b ks)
unfolding closed
once_closed zero b ks o = o
once_closed (suc n) b ks o = once_closed n b (added (flat (λ k. (nth b k).parents) ks) ks) (once_added (flat (λ k. (nth b k).parents) ks) ks o)

-- who is back from here: those from which one of these comes
pub back_in : (b : Book) (ks : List ℕ) (j : ℕ) → In j (back b ks) → (k : ℕ) × In k ks × Comes b k j
back_in b ks j i = closed_in (length b) b ks j i

pub in_back : (b : Book) (ks : List ℕ) (k j : ℕ) → Grown b → In k ks → Comes b k j → In j (back b ks)
in_back b ks k j g i c = in_closed (length b) b ks k j c.0 i (steps_few b c.0 k j g c.1) c.1

pub back_self : (b : Book) (ks : List ℕ) (k : ℕ) → Grown b → In k ks → In k (back b ks)
back_self b ks k g i = in_back b ks k k g i (comes_self b k)

-- with a commit all that it comes from
pub back_comes : (b : Book) (ks : List ℕ) (k j : ℕ) → Grown b → In k (back b ks) → Comes b k j → In j (back b ks)
back_comes b ks k j g i c =
    let r : (h : ℕ) × In h ks × Comes b h k = back_in b ks k i in
    in_back b ks r.0 j g r.1 (comes_trans b r.2.0 r.0 k j r.2.1 c)

pub back_parents : (b : Book) (ks : List ℕ) (k j : ℕ) → Grown b → In k (back b ks) → In j (nth b k).parents → In j (back b ks)
back_parents b ks k j g i h = back_comes b ks k j g i (comes_parent b k j j h (comes_self b j))

pub once_back : (b : Book) (ks : List ℕ) → Once ks → Once (back b ks)
once_back b ks o = once_closed (length b) b ks o

pub comes_within : (b : Book) (n : ℕ) (k j : ℕ) → Grown b → Steps b n k j → k < length b → j < length b
comes_within b n k j g s l = let m : j + n ≤ k = steps_lower b n k j g s in omega arith

pub back_within : (b : Book) (ks : List ℕ) → Grown b → ((k : ℕ) → In k ks → k < length b) → (j : ℕ) → In j (back b ks) → j < length b
back_within b ks g f j i =
    let r : (h : ℕ) × In h ks × Comes b h j = back_in b ks j i in
    comes_within b r.2.0 r.0 j g r.2.1 (f r.0 r.1)

-- a list without repetition of numbers of commits is no longer than the book
pub once_few : (n : ℕ) (ks : List ℕ) → Once ks → ((k : ℕ) → In k ks → k < n) → length ks ≤ n
once_few n ks o f =
    let l : length ks ≤ length (up_to n) = once_length eqb Decides-eqb ks (up_to n) o (once_up_to n) (λ k i. in_up_to n k (f k i)) in
    let e : length (up_to n) ≡ n = length_up_to n in
    omega arith

-- UNDER

pub under_comes : (b : Book) (j k : ℕ) → under b j k ≡ true → Comes b k j
under_comes b j k h =
    let r : (x : ℕ) × In x (k ∷ []) × Comes b x j = back_in b (k ∷ []) j (has_in (back b (k ∷ [])) j h) in
    ⊎_elim (λ e. subst (λ z. Comes b z j) (sym e) r.2) (λ n. absurd n) r.1

pub comes_under : (b : Book) (j k : ℕ) → Grown b → Comes b k j → under b j k ≡ true
comes_under b j k g c = in_has (back b (k ∷ [])) j (in_back b (k ∷ []) k j g (inl refl) c)

pub under_self : (b : Book) (k : ℕ) → Grown b → under b k k ≡ true
under_self b k g = comes_under b k k g (comes_self b k)

pub under_trans : (b : Book) (i j k : ℕ) → Grown b → under b i j ≡ true → under b j k ≡ true → under b i k ≡ true
under_trans b i j k g h m =
    let c : Comes b k j = under_comes b j k m in
    comes_under b i k g (comes_trans b c.0 k j i c.1 (under_comes b i j h))

pub under_lower : (b : Book) (j k : ℕ) → Grown b → under b j k ≡ true → j ≤ k
under_lower b j k g h = comes_lower b k j g (under_comes b j k h)

pub under_both : (b : Book) (j k : ℕ) → Grown b → under b j k ≡ true → under b k j ≡ true → j ≡ k
under_both b j k g h m = let l : j ≤ k = under_lower b j k g h in let r : k ≤ j = under_lower b k j g m in omega arith

-- IN COMMON

pub common_in : (b : Book) (j k i : ℕ) → In i (common b j k) → (under b i j ≡ true) × (under b i k ≡ true)
unfolding common
common_in b j k i h =
    let r : In i (back b (j ∷ [])) × (has (back b (k ∷ [])) i ≡ true) = those_in (λ x. has (back b (k ∷ [])) x) (back b (j ∷ [])) i h in
    (in_has (back b (j ∷ [])) i r.0, r.1)

pub in_common : (b : Book) (j k i : ℕ) → under b i j ≡ true → under b i k ≡ true → In i (common b j k)
unfolding common
in_common b j k i h m = in_those (λ x. has (back b (k ∷ [])) x) (back b (j ∷ [])) i (has_in (back b (j ∷ [])) i h) m

pub common_other : (b : Book) (j k i : ℕ) → In i (common b j k) → In i (common b k j)
common_other b j k i h = let r : (under b i j ≡ true) × (under b i k ≡ true) = common_in b j k i h in in_common b k j i r.1 r.0

pub once_common : (b : Book) (j k : ℕ) → Once (common b j k)
unfolding common
once_common b j k = once_those (λ x. has (back b (k ∷ [])) x) (back b (j ∷ [])) (once_back b (j ∷ []) (λ i. i, tt))

-- no other that is common comes from it
abbrev pub Last : Book → ℕ → ℕ → ℕ → Type 0
Last b j k i = (h : ℕ) → In h (common b j k) → (h ≡ i → ⊥) → under b i h ≡ false

pub latest_in : (b : Book) (j k i : ℕ) → In i (latest_common b j k) → In i (common b j k) × Last b j k i
latest_in b j k i h =
    let r : In i (common b j k) × (not (any (λ h. not (eqb h i) && under b i h) (common b j k)) ≡ true) =
    those_in (λ i. not (any (λ h. not (eqb h i) && under b i h) (common b j k))) (common b j k) i h in (
      r.0,
      λ x m n. false_unless (under b i x) (λ u. true≢false
          (sym (any_from (λ h. not (eqb h i) && under b i h) (common b j k) x m (and_from _ _ (not_from_false (eqb x i) (ne_eqb x i n)) u))
          ∙ not-true _ r.1)),
    )

pub in_latest : (b : Book) (j k i : ℕ) → In i (common b j k) → Last b j k i → In i (latest_common b j k)
in_latest b j k i h l =
    in_those (λ i. not (any (λ h. not (eqb h i) && under b i h) (common b j k))) (common b j k) i h
    (not_from_false _ (none_any (λ h. not (eqb h i) && under b i h) (common b j k)
    (λ x m. false_unless _ (λ t. let r : (not (eqb x i) ≡ true) × (under b i x ≡ true) = and_parts _ _ t in
    true≢false (sym r.1 ∙ l x m (eqb-false x i (not-true (eqb x i) r.0)))))))

-- the only member of a list without repetition is the list
pub once_only : (xs : List ℕ) (j : ℕ) → Once xs → In j xs → ((x : ℕ) → In x xs → x ≡ j) → xs ≡ j ∷ []
once_only [] j o i f = absurd i
once_only (x ∷ []) j o i f = ap (λ z. z ∷ []) (f x (inl refl))
once_only (x ∷ y ∷ xs) j o i f = absurd (o.0 (inl (f y (inr (inl refl)) ∙ sym (f x (inl refl)))))

pub latest_only : (b : Book) (j k : ℕ) → Grown b → under b j k ≡ true → latest_common b j k ≡ j ∷ []
latest_only b j k g u =
    once_only (latest_common b j k) j (once_those _ (common b j k) (once_common b j k))
    (in_latest b j k j here (λ h m n. false_unless (under b j h) (λ t. n (under_both b h j g (common_in b j k h m).0 t))))
    (λ x i. let r : In x (common b j k) × Last b j k x = latest_in b j k x i in
    ⊎_elim (λ e. e) (λ n. absurd (true≢false (sym (common_in b j k x r.0).0 ∙ r.1 j here (λ e. n (sym e))))) (cases_eq x j))
  where
    here : In j (common b j k)
    here = in_common b j k j (under_self b j g) u

-- from what is common one comes to one of the latest
pub latest_above : (b : Book) (j k : ℕ) → Grown b → (n i : ℕ) → j ≤ i + n → In i (common b j k) → any (λ h. under b i h) (latest_common b j k) ≡ true
latest_above b j k g zero i l h =
    any_from (λ h. under b i h) (latest_common b j k) i
    (in_latest b j k i h (λ x m n. false_unless (under b i x) (λ t.
    let a : i ≤ x = under_lower b i x g t in let c : x ≤ j = under_lower b x j g (common_in b j k x m).0 in
    n (omega arith))))
    (under_self b i g)
latest_above b j k g (suc n) i l h = go (any (λ h. not (eqb h i) && under b i h) (common b j k)) refl (latest_above b j k g n)
  where
    go : (t : Bool) → any (λ h. not (eqb h i) && under b i h) (common b j k) ≡ t →
        ((x : ℕ) → j ≤ x + n → In x (common b j k) → any (λ h. under b x h) (latest_common b j k) ≡ true) → any (λ h. under b i h) (latest_common b j k) ≡ true
    go false e ih =
        any_from (λ h. under b i h) (latest_common b j k) i
        (in_those (λ i. not (any (λ h. not (eqb h i) && under b i h) (common b j k))) (common b j k) i h (not_from_false _ e)) (under_self b i g)
    go true e ih =
        let r : (x : ℕ) × In x (common b j k) × ((not (eqb x i) && under b i x) ≡ true) = any_in (λ h. not (eqb h i) && under b i h) (common b j k) e in
        let p : (not (eqb r.0 i) ≡ true) × (under b i r.0 ≡ true) = and_parts _ _ r.2 in
        let a : i ≤ r.0 = under_lower b i r.0 g p.1 in
        let d : r.0 ≡ i → ⊥ = eqb-false r.0 i (not-true (eqb r.0 i) p.0) in
        let c : i < r.0 = omega (arith, d) in
        let u : any (λ h. under b r.0 h) (latest_common b j k) ≡ true = ih r.0 (omega arith) r.1 in
        let s : (y : ℕ) × In y (latest_common b j k) × (under b r.0 y ≡ true) = any_in (λ h. under b r.0 h) (latest_common b j k) u in
        any_from (λ h. under b i h) (latest_common b j k) s.0 s.1 (under_trans b i r.0 s.0 g p.1 s.2)

pub latest_other : (b : Book) (j k i : ℕ) → In i (latest_common b j k) → In i (latest_common b k j)
latest_other b j k i h =
    let r : In i (common b j k) × Last b j k i = latest_in b j k i h in
    in_latest b k j i (common_other b j k i r.0) (λ x m n. r.1 x (common_other b k j x m) n)

pub latest_right : LatestRight
unfolding LatestRight
latest_right b j k g lj lk = (
  λ i. has_alike (latest_common b j k) (latest_common b k j) i (latest_other b j k i) (latest_other b k j i),
  latest_only b j k g,
  λ i h. latest_above b j k g j i (omega arith) (has_in (common b j k) i h),
)

-- THE LAWS OF WHAT COMES BEFORE

pub each_once_from : (ks : List ℕ) → Once ks → each_once ks ≡ true
unfolding each_once
each_once_from [] o = refl
each_once_from (k ∷ ks) o = and_from _ _ (not_from_false (has ks k) (false_unless (has ks k) (λ h. o.0 (has_in ks k h)))) (each_once_from ks o.1)

pub each_once_once : (ks : List ℕ) → each_once ks ≡ true → Once ks
unfolding each_once
each_once_once [] h = tt
each_once_once (k ∷ ks) h =
    let a : (not (has ks k) ≡ true) × (each_once ks ≡ true) = and_parts _ _ h in
    (has_not ks k (not-true (has ks k) a.0), each_once_once ks a.1)

-- what holds of a commit and, with any, of its parents, holds all the way back
pub steps_hold : (b : Book) (all : ℕ → Bool) → ((k : ℕ) → all k ≡ true → every all (nth b k).parents ≡ true) → (n k j : ℕ) → Steps b n k j → all k ≡ true → all j ≡ true
steps_hold b all f zero k j s h = subst (λ z. all z ≡ true) s h
steps_hold b all f (suc n) k j s h = steps_hold b all f n s.0 j s.2 (every_in all (nth b k).parents (f k h) s.0 s.1)

pub back_right : BackRight
unfolding BackRight
back_right b ks g = (
  λ k h. in_has (back b ks) k (back_self b ks k g (has_in ks k h)),
  λ k j h p. in_has (back b ks) j (back_parents b ks k j g (has_in (back b ks) k h) (has_in (nth b k).parents j p)),
  λ all h f. every_from all (back b ks) (λ j i. let r : (k : ℕ) × In k ks × Comes b k j = back_in b ks j i in
      steps_hold b all f r.2.0 r.0 j r.2.1 (every_in all ks h r.0 r.1)),
  λ o. each_once_from (back b ks) (once_back b ks (each_once_once ks o)),
)

pub under_right : UnderRight
unfolding UnderRight
under_right b i j k g = (under_self b k g, under_lower b j k g, under_trans b i j k g)
