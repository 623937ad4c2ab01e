-- The order of a log.
use Rattle.std.proofs.Common.{◌≡◌, ℕ, zero, suc, ◌<◌, ◌≤◌, Bool, true, false, not, ◌&&◌, eqb, ◌⊎◌, List, [], ◌∷◌, ◌++◌, length, sym, refl, ap, ◌∙◌, subst, inl, inr, ⊎_elim, arith}
use Rattle.std.proofs.lemmas.Bool.{true≢false, and_parts, and_from, not-true, not_from_false, eqb-false, ne_eqb, cases_lt, cases_eq}
use Rattle.std.proofs.lemmas.Bool.Decides.{Decides-eqb}
use Rattle.pages.specs.Lists.{pick, or, any, those, has}
use Rattle.pages.proofs.ListLaws.{pick_both, false_unless, In, any_from, none_any, has_alike, those_in, in_those, those_alike, Once, once_those, once_length_but}
use Rattle.history.specs.Book.{Book, Sum, back, under, sooner, soonest, next_of, free, in_order, log}
use Rattle.history.specs.Laws.{Grown, nth_or, LogOrder}
use Rattle.history.proofs.BackLaws.{under_lower, back_within, once_back, once_few}

-- the largest of a list
pub largest : (k : ℕ) (ks : List ℕ) → (m : ℕ) × In m (k ∷ ks) × ((x : ℕ) → In x (k ∷ ks) → x ≤ m)
largest k [] = (k, inl refl, λ x. elim [ inl e ↦ let f : k ≡ x = e in omega arith | inr n ↦ absurd n ])
largest k (j ∷ ks) =
    let r : (m : ℕ) × In m (j ∷ ks) × ((x : ℕ) → In x (j ∷ ks) → x ≤ m) = largest j ks in
    ⊎_elim
    (λ l. (r.0, inr r.1, λ x. elim [ inl e ↦ let f : k ≡ x = e in omega arith | inr i ↦ r.2 x i ]))
    (λ l. (k, inl refl, λ x. elim [ inl e ↦ let f : k ≡ x = e in omega arith | inr i ↦ let h : x ≤ r.0 = r.2 x i in omega arith ]))
    (cases_lt k r.0)

-- of those that are left none comes from it
abbrev pub Free : Book → List ℕ → ℕ → Type 0
Free b ks j = (k : ℕ) → In k ks → (k ≡ j → ⊥) → under b j k ≡ false

pub free_in : (b : Book) (ks : List ℕ) (j : ℕ) → In j (free b ks) → In j ks × Free b ks j
free_in b ks j i =
    let r : In j ks × (not (any (λ k. not (eqb k j) && under b j k) ks) ≡ true) = those_in (λ j. not (any (λ k. not (eqb k j) && under b j k) ks)) ks j i in (
      r.0,
      λ x m n. false_unless (under b j x) (λ u. true≢false
          (sym (any_from (λ k. not (eqb k j) && under b j k) ks x m (and_from _ _ (not_from_false (eqb x j) (ne_eqb x j n)) u)) ∙ not-true _ r.1)),
    )

pub in_free : (b : Book) (ks : List ℕ) (j : ℕ) → In j ks → Free b ks j → In j (free b ks)
in_free b ks j i f =
    in_those (λ j. not (any (λ k. not (eqb k j) && under b j k) ks)) ks j i
    (not_from_false _ (none_any (λ k. not (eqb k j) && under b j k) ks
    (λ x m. false_unless _ (λ t. let r : (not (eqb x j) ≡ true) × (under b j x ≡ true) = and_parts _ _ t in
    true≢false (sym r.1 ∙ f x m (eqb-false x j (not-true (eqb x j) r.0)))))))

-- the one with the largest number is free
pub some_free : (b : Book) (k : ℕ) (ks : List ℕ) → Grown b → (m : ℕ) × In m (free b (k ∷ ks))
some_free b k ks g =
    let r : (m : ℕ) × In m (k ∷ ks) × ((x : ℕ) → In x (k ∷ ks) → x ≤ m) = largest k ks in (
      r.0,
      in_free b (k ∷ ks) r.0 r.1
          (λ x i n. false_unless (under b r.0 x) (λ u. n (let l : r.0 ≤ x = under_lower b r.0 x g u in let h : x ≤ r.0 = r.2 x i in omega arith))),
    )

pub soonest_in : (sum : Sum) (b : Book) (j : ℕ) (ks : List ℕ) → In (soonest sum b j ks) (j ∷ ks)
unfolding soonest
soonest_in sum b j [] = inl refl
soonest_in sum b j (k ∷ ks) =
    go (soonest_in sum b (pick (sooner sum b k j) k j) ks)
  where
    go : In (soonest sum b (pick (sooner sum b k j) k j) ks) (pick (sooner sum b k j) k j ∷ ks) → In (soonest sum b (pick (sooner sum b k j) k j) ks) (j ∷ k ∷ ks)
    go (inl e) = pick_both (λ z. z ≡ soonest sum b (pick (sooner sum b k j) k j) ks → In (soonest sum b (pick (sooner sum b k j) k j) ks) (j ∷ k ∷ ks)) (sooner sum b k j) k j (λ _ c. inr (inl c)) (λ _ c. inl c) e
    go (inr i) = inr (inr i)

-- one turn: nothing is left, or a free one is taken
pub one_turn : (sum : Sum) (b : Book) (ks : List ℕ) → Grown b →
    ((ks ≡ []) × (next_of sum b (free b ks) ≡ [])) ⊎ ((x : ℕ) × In x ks × Free b ks x × (next_of sum b (free b ks) ≡ x ∷ []))
unfolding next_of
one_turn sum b [] g = inl (refl, refl)
one_turn sum b (k ∷ ks) g = inr (go (free b (k ∷ ks)) refl (some_free b k ks g).1)
  where
    go : (fs : List ℕ) → free b (k ∷ ks) ≡ fs → In (some_free b k ks g).0 (free b (k ∷ ks)) →
        (x : ℕ) × In x (k ∷ ks) × Free b (k ∷ ks) x × (next_of sum b (free b (k ∷ ks)) ≡ x ∷ [])
    go [] e i = absurd (subst (λ l. In (some_free b k ks g).0 l) e i)
    go (f ∷ fs) e i =
        let r : In (soonest sum b f fs) (k ∷ ks) × Free b (k ∷ ks) (soonest sum b f fs) =
        free_in b (k ∷ ks) (soonest sum b f fs) (subst (λ l. In (soonest sum b f fs) l) (sym e) (soonest_in sum b f fs)) in
        (soonest sum b f fs, r.0, r.1, ap (λ l. next_of sum b l) e)

-- each before those from which it comes
abbrev pub Ordered : Book → List ℕ → Type 0
Ordered b [] = Unit {0}
Ordered b (x ∷ xs) = ((y : ℕ) → In y xs → under b x y ≡ false) × Ordered b xs

pub record Sorted (b : Book) (ks out : List ℕ) : Type 0 where
  pub from : (j : ℕ) → In j out → In j ks
  pub all : (j : ℕ) → In j ks → In j out
  pub long : length out ≡ length ks
  pub ordered : Ordered b out

-- what is left without the one that was taken
pub left_but : (x : ℕ) (ks : List ℕ) → those (λ k. not (has (x ∷ []) k)) ks ≡ those (λ k. not (eqb x k)) ks
left_but x ks = those_alike (λ k. not (has (x ∷ []) k)) (λ k. not (eqb x k)) ks (λ k _. ap not (or_none (eqb x k)))
  where
    or_none : (t : Bool) → or t false ≡ t
    or_none true = refl
    or_none false = refl

pub in_order_none : (n : ℕ) (sum : Sum) (b : Book) → in_order n sum b [] ≡ []
unfolding in_order next_of
in_order_none zero sum b = refl
in_order_none (suc n) sum b = in_order_none n sum b

pub in_order_one : (n : ℕ) (sum : Sum) (b : Book) (ks : List ℕ) (x : ℕ) → next_of sum b (free b ks) ≡ x ∷ [] →
    in_order (suc n) sum b ks ≡ x ∷ in_order n sum b (those (λ k. not (eqb x k)) ks)
unfolding in_order
in_order_one n sum b ks x e =
    ap (λ l. l ++ in_order n sum b (those (λ k. not (has l k)) ks)) e ∙ ap (λ l. x ∷ in_order n sum b l) (left_but x ks)

pub in_order_sorted : (n : ℕ) (sum : Sum) (b : Book) (ks : List ℕ) → Grown b → Once ks → length ks ≤ n → Sorted b ks (in_order n sum b ks)
in_order_sorted n sum b [] g o l =
    subst (λ z. Sorted b [] z) (sym (in_order_none n sum b)) (record { from = λ j i. i; all = λ j i. i; long = refl; ordered = tt })
in_order_sorted zero sum b (k ∷ ks) g o l = absurd (omega arith)
in_order_sorted (suc n) sum b (k ∷ ks) g o l = go (one_turn sum b (k ∷ ks) g) (in_order_sorted n sum b)
  where
    go : (((k ∷ ks) ≡ []) × (next_of sum b (free b (k ∷ ks)) ≡ [])) ⊎ ((x : ℕ) × In x (k ∷ ks) × Free b (k ∷ ks) x × (next_of sum b (free b (k ∷ ks)) ≡ x ∷ [])) →
        ((ls : List ℕ) → Grown b → Once ls → length ls ≤ n → Sorted b ls (in_order n sum b ls)) → Sorted b (k ∷ ks) (in_order (suc n) sum b (k ∷ ks))
    go (inl r) ih = absurd (let z : suc (length ks) ≡ 0 = ap length r.0 in omega arith)
    go (inr r) ih =
        let x : ℕ = r.0 in
        let rest : List ℕ = those (λ k. not (eqb x k)) (k ∷ ks) in
        let short : length (k ∷ ks) ≡ suc (length rest) = once_length_but eqb Decides-eqb (k ∷ ks) x o r.1 in
        let s : Sorted b rest (in_order n sum b rest) = ih rest g (once_those (λ k. not (eqb x k)) (k ∷ ks) o) (omega arith) in
        let keeps : (y : ℕ) → In y rest → In y (k ∷ ks) × (not (eqb x y) ≡ true) = λ y. those_in (λ k. not (eqb x k)) (k ∷ ks) y in
        subst (λ z. Sorted b (k ∷ ks) z) (sym (in_order_one n sum b (k ∷ ks) x r.3))
        (record {
          from = λ j. elim [ inl e ↦ subst (λ z. In z (k ∷ ks)) e r.1 | inr i ↦ (keeps j (s.from j i)).0 ];
          all = λ j i. ⊎_elim (λ e. inl e) (λ d. inr (s.all j (in_those (λ k. not (eqb x k)) (k ∷ ks) j i (not_from_false (eqb x j) (ne_eqb x j d))))) (cases_eq x j);
          long = ap suc s.long ∙ sym short;
          ordered = (λ y i. r.2 y (keeps y (s.from y i)).0 (λ e. eqb-false x y (not-true (eqb x y) (keeps y (s.from y i)).1) (sym e)), s.ordered);
        })

pub nth_or_in : (d : ℕ) (ks : List ℕ) (i : ℕ) → i < length ks → In (nth_or d ks i) ks
unfolding nth_or
nth_or_in d [] i l = absurd (omega arith)
nth_or_in d (k ∷ ks) zero l = inl refl
nth_or_in d (k ∷ ks) (suc i) l = inr (nth_or_in d ks i (omega arith))

pub ordered_at : (b : Book) (ks : List ℕ) (i j : ℕ) → Ordered b ks → i < j → j < length ks → under b (nth_or 0 ks i) (nth_or 0 ks j) ≡ false
unfolding nth_or
ordered_at b [] i j o l m = absurd (omega arith)
ordered_at b (k ∷ ks) i zero o l m = absurd (omega arith)
ordered_at b (k ∷ ks) zero (suc j) o l m = o.0 (nth_or 0 ks j) (nth_or_in 0 ks j (omega arith))
ordered_at b (k ∷ ks) (suc i) (suc j) o l m = ordered_at b ks i j o.1 (omega arith) (omega arith)

-- a log has just what is back from where it starts, each once, in order
pub log_sorted : (sum : Sum) (b : Book) (ks : List ℕ) → Grown b → Once ks → ((k : ℕ) → In k ks → k < length b) → Sorted b (back b ks) (log sum b ks)
log_sorted sum b ks g o f =
    in_order_sorted (length b) sum b (back b ks) g (once_back b ks o) (once_few (length b) (back b ks) (once_back b ks o) (back_within b ks g f))

pub log_order : LogOrder
unfolding LogOrder
log_order sum b k g l =
    let s : Sorted b (back b (k ∷ [])) (log sum b (k ∷ [])) =
    log_sorted sum b (k ∷ []) g (λ i. i, tt) (λ x. elim [ inl e ↦ subst (λ z. z < length b) e l | inr n ↦ absurd n ]) in
    (λ j. has_alike (log sum b (k ∷ [])) (back b (k ∷ [])) j (s.from j) (s.all j), s.long, λ i j h m. ordered_at b (log sum b (k ∷ [])) i j s.ordered h m)
