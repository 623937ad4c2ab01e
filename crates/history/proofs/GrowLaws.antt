-- What stands in the book stays as it is when more comes behind it.
use Rattle.std.proofs.Common.{◌≡◌, ℕ, zero, suc, ◌+◌, ◌<◌, ◌≤◌, Bool, true, false, not, ◌&&◌, eqb, ltb, ◌⊎◌, List, [], ◌∷◌, ◌++◌, length, sym, refl, ap, ◌∙◌, subst, inl, inr, ⊎_elim, suc-add, zero-add, arith, length-append}
use Rattle.std.proofs.lemmas.Bool.{ltb-true, lt-ltb, cases_order}
use Rattle.std.proofs.lemmas.Bool.Decides.{Decides-eqb}
use Rattle.pages.specs.Lists.{pick, every, any, each, those, flat, has, earlier}
use Rattle.pages.proofs.ListLaws.{In, every_in, every_from, flat_in, each_alike, flat_alike, those_alike, any_alike, those_in, Once, once_those, once_length_but}
use Rattle.history.specs.Book.{Commit, Book, Sum, nth, id, id_within, commit_spelled, added, closed, back, noted, place, under, sooner, soonest, next_of, free, in_order, log}
use Rattle.history.specs.Laws.{Grown, GrowsBehind}
use Rattle.history.proofs.BookLaws.{nth_front, nth_beyond, nth_end, length_more, parent_lower, noted_either, nth_noted}
use Rattle.history.proofs.BackLaws.{added_in, added_none, Steps, Comes, comes_lower, comes_parent, in_back, back_in, back_self, back_parents, once_back, once_few, back_within}
use Rattle.history.proofs.LogLaws.{Free, one_turn, free_in, in_order_none, in_order_one}

-- two books that have the same commits up to a number, and the parents of those below it are below it
pub record Agree (n : ℕ) (b d : Book) : Type 0 where
  pub nth_is : (k : ℕ) → k < n → nth d k ≡ nth b k
  pub low : (k j : ℕ) → k < n → In j (nth b k).parents → j < n

pub agree_more : (b more : Book) → Grown b → Agree (length b) b (b ++ more)
agree_more b more g = record { nth_is = nth_front b more; low = λ k j l i. let m : j < k = parent_lower b k j g i in omega arith }

abbrev pub Below : ℕ → List ℕ → Type 0
Below n ks = (k : ℕ) → In k ks → k < n

-- BACK

pub below_added : (n : ℕ) (b d : Book) (ks : List ℕ) → Agree n b d → Below n ks → Below n (added (flat (λ k. (nth b k).parents) ks) ks)
below_added n b d ks a f x i =
    ⊎_elim (λ h. let r : (k : ℕ) × In k ks × In x (nth b k).parents = flat_in (λ k. (nth b k).parents) ks x h in a.low r.0 x (f r.0 r.1) r.2) (λ h. f x h)
    (added_in (flat (λ k. (nth b k).parents) ks) ks x i)

pub closed_agree : (m n : ℕ) (b d : Book) (ks : List ℕ) → Agree n b d → Below n ks → closed m d ks ≡ closed m b ks
unfolding closed
closed_agree zero n b d ks a f = refl
closed_agree (suc m) n b d ks a f =
    ap (λ l. closed m d (added l ks)) (flat_alike (λ k. (nth d k).parents) (λ k. (nth b k).parents) ks (λ k i. ap (λ (c : Commit). c.parents) (a.nth_is k (f k i))))
    ∙ closed_agree m n b d (added (flat (λ k. (nth b k).parents) ks) ks) a (below_added n b d ks a f)

pub closed_stays : (m : ℕ) (b : Book) (ks : List ℕ) → ((k j : ℕ) → In k ks → In j (nth b k).parents → In j ks) → closed m b ks ≡ ks
unfolding closed
closed_stays zero b ks f = refl
closed_stays (suc m) b ks f =
    ap (λ l. closed m b l) (added_none (flat (λ k. (nth b k).parents) ks) ks
    (λ x i. let r : (k : ℕ) × In k ks × In x (nth b k).parents = flat_in (λ k. (nth b k).parents) ks x i in f r.0 x r.1 r.2))
    ∙ closed_stays m b ks f

pub closed_plus : (n m : ℕ) (b : Book) (ks : List ℕ) → closed (n + m) b ks ≡ closed m b (closed n b ks)
unfolding closed
closed_plus zero m b ks = ap (λ k. closed k b ks) (zero-add m)
closed_plus (suc n) m b ks = ap (λ k. closed k b ks) (suc-add n m) ∙ closed_plus n m b (added (flat (λ k. (nth b k).parents) ks) ks)

pub back_more : (b more : Book) (ks : List ℕ) → Grown b → Below (length b) ks → back (b ++ more) ks ≡ back b ks
back_more b more ks g f =
    closed_agree (length (b ++ more)) (length b) b (b ++ more) ks (agree_more b more g) f
    ∙ (ap (λ n. closed n b ks) (length-append b more)
    ∙ (closed_plus (length b) (length more) b ks ∙ closed_stays (length more) b (back b ks) (λ k j i h. back_parents b ks k j g i h)))

pub under_more : (b more : Book) (j k : ℕ) → Grown b → k < length b → under (b ++ more) j k ≡ under b j k
under_more b more j k g l = ap (λ ks. has ks j) (back_more b more (k ∷ []) g (λ x. elim [ inl e ↦ subst (λ z. z < length b) e l | inr n ↦ absurd n ]))

-- IDS

pub id_agree : (m h n : ℕ) (sum : Sum) (b d : Book) (k : ℕ) → Grown b → Agree n b d → k < n → k < m → k < h → id_within m sum d k ≡ id_within h sum b k
unfolding id_within
id_agree zero h n sum b d k g a l p q = absurd (omega arith)
id_agree (suc m) zero n sum b d k g a l p q = absurd (omega arith)
id_agree (suc m) (suc h) n sum b d k g a l p q =
    let at : nth d k ≡ nth b k = a.nth_is k l in
    ap (λ (c : Commit). sum (commit_spelled sum (each (id_within m sum d) c.parents) c)) at
    ∙ ap (λ ids. sum (commit_spelled sum ids (nth b k)))
    (each_alike (id_within m sum d) (id_within h sum b) (nth b k).parents
    (λ j i. let o : j < k = parent_lower b k j g i in id_agree m h n sum b d j g a (omega arith) (omega arith) (omega arith)))

pub id_more : (sum : Sum) (b more : Book) (k : ℕ) → Grown b → k < length b → id sum (b ++ more) k ≡ id sum b k
id_more sum b more k g l =
    let e : length (b ++ more) ≡ length b + length more = length-append b more in
    id_agree (length (b ++ more)) (length b) (length b) sum b (b ++ more) k g (agree_more b more g) l (omega arith) l

-- LOGS

pub sooner_more : (sum : Sum) (b more : Book) (j k : ℕ) → Grown b → j < length b → k < length b → sooner sum (b ++ more) j k ≡ sooner sum b j k
unfolding sooner
sooner_more sum b more j k g lj lk =
    let sj : (nth (b ++ more) j).stamp ≡ (nth b j).stamp = ap (λ (c : Commit). c.stamp) (nth_front b more j lj) in
    let sk : (nth (b ++ more) k).stamp ≡ (nth b k).stamp = ap (λ (c : Commit). c.stamp) (nth_front b more k lk) in
    λ i. pick (ltb (sk i) (sj i)) true (eqb (sj i) (sk i) && earlier (id_more sum b more j g lj i) (id_more sum b more k g lk i))

pub soonest_more : (sum : Sum) (b more : Book) (j : ℕ) (ks : List ℕ) → Grown b → j < length b → Below (length b) ks → soonest sum (b ++ more) j ks ≡ soonest sum b j ks
unfolding soonest
soonest_more sum b more j [] g l f = refl
soonest_more sum b more j (k ∷ ks) g l f =
    let e : pick (sooner sum (b ++ more) k j) k j ≡ pick (sooner sum b k j) k j = ap (λ t. pick t k j) (sooner_more sum b more k j g (f k (inl refl)) l) in
    ap (λ z. soonest sum (b ++ more) z ks) e
    ∙ soonest_more sum b more (pick (sooner sum b k j) k j) ks g (either (sooner sum b k j) (f k (inl refl))) (λ x i. f x (inr i))
  where
    either : (t : Bool) → k < length b → pick t k j < length b
    either true h = h
    either false h = l

pub free_more : (b more : Book) (ks : List ℕ) → Grown b → Below (length b) ks → free (b ++ more) ks ≡ free b ks
free_more b more ks g f =
    those_alike (λ j. not (any (λ k. not (eqb k j) && under (b ++ more) j k) ks)) (λ j. not (any (λ k. not (eqb k j) && under b j k) ks)) ks
    (λ j _. ap not (any_alike (λ k. not (eqb k j) && under (b ++ more) j k) (λ k. not (eqb k j) && under b j k) ks
    (λ k i. ap (λ t. not (eqb k j) && t) (under_more b more j k g (f k i)))))

pub next_more : (sum : Sum) (b more : Book) (ks : List ℕ) → Grown b → Below (length b) ks → next_of sum (b ++ more) ks ≡ next_of sum b ks
unfolding next_of
next_more sum b more [] g f = refl
next_more sum b more (k ∷ ks) g f = ap (λ z. z ∷ []) (soonest_more sum b more k ks g (f k (inl refl)) (λ x i. f x (inr i)))

pub in_order_more : (n m : ℕ) (sum : Sum) (b more : Book) (ks : List ℕ) → Grown b → Below (length b) ks → Once ks → length ks ≤ n → length ks ≤ m →
    in_order m sum (b ++ more) ks ≡ in_order n sum b ks
in_order_more n m sum b more [] g f o ln lm = in_order_none m sum (b ++ more) ∙ sym (in_order_none n sum b)
in_order_more zero m sum b more (k ∷ ks) g f o ln lm = absurd (omega arith)
in_order_more (suc n) zero sum b more (k ∷ ks) g f o ln lm = absurd (omega arith)
in_order_more (suc n) (suc m) sum b more (k ∷ ks) g f o ln lm = go (one_turn sum b (k ∷ ks) g) (λ ls. in_order_more n m sum b more ls)
  where
    go : (((k ∷ ks) ≡ []) × (next_of sum b (free b (k ∷ ks)) ≡ [])) ⊎ ((x : ℕ) × In x (k ∷ ks) × Free b (k ∷ ks) x × (next_of sum b (free b (k ∷ ks)) ≡ x ∷ [])) →
        ((ls : List ℕ) → Grown b → Below (length b) ls → Once ls → length ls ≤ n → length ls ≤ m → in_order m sum (b ++ more) ls ≡ in_order n sum b ls) →
        in_order (suc m) sum (b ++ more) (k ∷ ks) ≡ in_order (suc n) sum b (k ∷ ks)
    go (inl r) ih = absurd (let z : suc (length ks) ≡ 0 = ap length r.0 in omega arith)
    go (inr r) ih =
        let rest : List ℕ = those (λ y. not (eqb r.0 y)) (k ∷ ks) in
        let short : length (k ∷ ks) ≡ suc (length rest) = once_length_but eqb Decides-eqb (k ∷ ks) r.0 o r.1 in
        let low : Below (length b) (free b (k ∷ ks)) = λ x i. f x (free_in b (k ∷ ks) x i).0 in
        let next : next_of sum (b ++ more) (free (b ++ more) (k ∷ ks)) ≡ r.0 ∷ [] =
        ap (λ l. next_of sum (b ++ more) l) (free_more b more (k ∷ ks) g f) ∙ (next_more sum b more (free b (k ∷ ks)) g low ∙ r.3) in
        in_order_one m sum (b ++ more) (k ∷ ks) r.0 next
        ∙ (ap (λ l. r.0 ∷ l) (ih rest g (λ x i. f x (those_in (λ y. not (eqb r.0 y)) (k ∷ ks) x i).0) (once_those (λ y. not (eqb r.0 y)) (k ∷ ks) o) (omega arith) (omega arith))
        ∙ sym (in_order_one n sum b (k ∷ ks) r.0 r.3))

pub log_more : (sum : Sum) (b more : Book) (ks : List ℕ) → Grown b → Below (length b) ks → Once ks → log sum (b ++ more) ks ≡ log sum b ks
log_more sum b more ks g f o =
    let few : length (back b ks) ≤ length b = once_few (length b) (back b ks) (once_back b ks o) (back_within b ks g f) in
    let e : length (b ++ more) ≡ length b + length more = length-append b more in
    ap (λ l. in_order (length (b ++ more)) sum (b ++ more) l) (back_more b more ks g f)
    ∙ in_order_more (length b) (length (b ++ more)) sum b more (back b ks) g (back_within b ks g f) (once_back b ks o) few (omega arith)

pub grows_behind : GrowsBehind
unfolding GrowsBehind
grows_behind sum b more g = (
  λ k l. (id_more sum b more k g l, log_more sum b more (k ∷ []) g (λ x. elim [ inl e ↦ subst (λ z. z < length b) e l | inr n ↦ absurd n ]) (λ i. i, tt)),
  λ ks h. back_more b more ks g (λ k i. ltb-true k (length b) (every_in (λ j. ltb j (length b)) ks h k i)),
)

-- A COMMIT'S ID is the sum over how it is spelled, what it comes from by ids
pub agree_self : (b : Book) → Grown b → Agree (length b) b b
agree_self b g = record { nth_is = λ k l. refl; low = λ k j l i. let m : j < k = parent_lower b k j g i in omega arith }

id_by : (m : ℕ) (sum : Sum) (b : Book) (k : ℕ) → Grown b → k < m → k < length b →
    id_within m sum b k ≡ sum (commit_spelled sum (each (id sum b) (nth b k).parents) (nth b k))
unfolding id_within
id_by zero sum b k g l q = absurd (omega arith)
id_by (suc m) sum b k g l q =
    ap (λ ids. sum (commit_spelled sum ids (nth b k)))
    (each_alike (id_within m sum b) (id sum b) (nth b k).parents
    (λ j i. let o : j < k = parent_lower b k j g i in id_agree m (length b) (length b) sum b b j g (agree_self b g) (omega arith) (omega arith) (omega arith)))

pub id_noted : (sum : Sum) (b : Book) (k : ℕ) → Grown b → k < length b → id sum b k ≡ sum (commit_spelled sum (each (id sum b) (nth b k).parents) (nth b k))
id_noted sum b k g l = id_by (length b) sum b k g l l

-- A COMMIT IS NOTED, on top of commits that were noted before
module _ (b : Book) (c : Commit) (grown : Grown b) (low : Below (length b) c.parents) where
  grown_end : Grown (b ++ (c ∷ []))
  unfolding Grown
  grown_end k = go (cases_order k (length b))
    where
      go : (k ≡ length b) ⊎ ((k < length b) ⊎ (length b < k)) → every (λ j. ltb j k) (nth (b ++ (c ∷ [])) k).parents ≡ true
      go (inl e) =
          ap (λ (x : Commit). every (λ j. ltb j k) x.parents) (ap (nth (b ++ (c ∷ []))) e ∙ nth_end b c)
          ∙ every_from (λ j. ltb j k) c.parents (λ j i. let l : j < length b = low j i in lt-ltb j k (omega arith))
      go (inr (inl l)) = ap (λ (x : Commit). every (λ j. ltb j k) x.parents) (nth_front b (c ∷ []) k l) ∙ grown k
      go (inr (inr l)) =
          let m : length (b ++ (c ∷ [])) ≡ suc (length b) = length_more b c in
          ap (λ (x : Commit). every (λ j. ltb j k) x.parents) (nth_beyond (b ++ (c ∷ [])) k (omega arith))

  pub grown_noted : Grown (noted c b)
  grown_noted = noted_either Grown c b (λ _. grown) (λ _. grown_end)

  pub noted_front : (k : ℕ) → k < length b → nth (noted c b) k ≡ nth b k
  noted_front k l = noted_either (λ z. nth z k ≡ nth b k) c b (λ _. refl) (λ _. nth_front b (c ∷ []) k l)

  pub noted_parents : (k : ℕ) → In k c.parents → In k (nth (noted c b) (place c b)).parents
  noted_parents k i = subst (λ (x : Commit). In k x.parents) (sym (nth_noted c b)) i

  -- it is none of those that it comes from, nor of those from which these come
  pub place_above : (k : ℕ) → In k (back b c.parents) → k < place c b
  place_above k i =
      let r : (h : ℕ) × In h c.parents × Comes b h k = back_in b c.parents k i in
      let l : k ≤ r.0 = comes_lower b r.0 k grown r.2 in
      let m : r.0 < place c b = parent_lower (noted c b) (place c b) r.0 grown_noted (noted_parents r.0 r.1) in
      omega arith

  back_stays : back (noted c b) c.parents ≡ back b c.parents
  back_stays = noted_either (λ z. back z c.parents ≡ back b c.parents) c b (λ _. refl) (λ _. back_more b (c ∷ []) c.parents grown low)

  -- what comes before it: it, and what comes before those that it comes from
  pub back_noted : (k : ℕ) → In k (back (noted c b) (place c b ∷ [])) → In k (place c b ∷ back b c.parents)
  back_noted k i = go (back_in (noted c b) (place c b ∷ []) k i)
    where
      by : (n : ℕ) → Steps (noted c b) n (place c b) k → In k (place c b ∷ back b c.parents)
      by zero s = inl s
      by (suc n) (j, h, s) =
          inr (subst (In k) back_stays (in_back (noted c b) c.parents j k grown_noted (subst (λ (x : Commit). In j x.parents) (nth_noted c b) h) (n, s)))

      go : (h : ℕ) × In h (place c b ∷ []) × Comes (noted c b) h k → In k (place c b ∷ back b c.parents)
      go (h, inl e, (n, s)) = by n (subst (λ x. Steps (noted c b) n x k) (sym e) s)
      go (h, inr n, s) = absurd n

  pub noted_back : (k : ℕ) → In k (place c b ∷ back b c.parents) → In k (back (noted c b) (place c b ∷ []))
  noted_back k (inl e) = subst (λ x. In x (back (noted c b) (place c b ∷ []))) e (back_self (noted c b) (place c b ∷ []) (place c b) grown_noted (inl refl))
  noted_back k (inr i) =
      let r : (h : ℕ) × In h c.parents × Comes (noted c b) h k = back_in (noted c b) c.parents k (subst (In k) (sym back_stays) i) in
      in_back (noted c b) (place c b ∷ []) (place c b) k grown_noted (inl refl) (comes_parent (noted c b) (place c b) r.0 k (noted_parents r.0 r.1) r.2)

  pub once_noted : Once c.parents → Once (place c b ∷ back b c.parents)
  once_noted o = (λ i. let l : place c b < place c b = place_above (place c b) i in omega arith, once_back b c.parents o)
