-- Heaps that are cut down, and heaps that grow: what fewer roots name, what stays when words are laid behind all others, and an object that is laid there.
-- Assumes nothing.
use Rattle.std.proofs.Common.{◌≡◌, ℕ, ◌+◌, ◌-◌, ◌*◌, ◌<◌, ◌≤◌, true, ltb, ◌⊎◌, List, ◌∷◌, ◌++◌, length, get_or, take, drop, sym, refl, ap, ◌∙◌, subst, ap₂, inl, inr, arith, length-take}
use Rattle.std.proofs.lemmas.List.{get_or_append_left, get_or-append_right, get_or-take, drop_at}
use Rattle.std.proofs.lemmas.Bool.{lt-ltb}
use Rattle.pages.specs.Lists.{every, has}
use Rattle.pages.specs.Object.{size_in, references_in, kind_of, size_of, references_of, object_at}
use Rattle.pages.proofs.ListLaws.{in_has, every_from}
use Rattle.objects.specs.Heap.{Live, root, named, Placed, Heap, units, units_at, heading_at, keyed}
use Rattle.objects.proofs.MarkLaws.{has_there, has_cases}
use Rattle.objects.proofs.PlanLaws.{part_of_append}

-- FEWER ROOTS: what they name is live already, and a heap for many roots is one for fewer
pub live_part : (t roots some : List ℕ) → ((r : ℕ) → 1 ≤ r → has some r ≡ true → Live t roots r) → (r : ℕ) → Live t some r → Live t roots r
live_part t roots some h r l = go l
  where
    go : {s : ℕ} → Live t some s → Live t roots s
    go (root s one e) = h s one e
    go (named s s₁ one k e) = named s s₁ one (go k) e

pub heap_part : (t : List ℕ) (lo hi : ℕ) (roots some : List ℕ) → ((r : ℕ) → 1 ≤ r → has some r ≡ true → Live t roots r) → Heap t lo hi roots → Heap t lo hi some
heap_part t lo hi roots some h heap =
    record {
      placed = λ r l. heap.placed r (live_part t roots some h r l);
      apart = λ r s l k lt. heap.apart r s (live_part t roots some h r l) (live_part t roots some h s k) lt;
    }

-- MORE ROOM
pub placed_wider : (t : List ℕ) (lo hi hi₁ r : ℕ) → hi ≤ hi₁ → Placed t lo hi r → Placed t lo hi₁ r
placed_wider t lo hi hi₁ r le q =
    record {
      above = q.above;
      within = omega (arith, q.within);
      whole = q.whole;
      short = q.short;
      few = q.few;
      kinded = q.kinded;
      key_there = q.key_there;
      lower = q.lower;
    }

pub heap_wider : (t : List ℕ) (lo hi hi₁ : ℕ) (roots : List ℕ) → hi ≤ hi₁ → Heap t lo hi roots → Heap t lo hi₁ roots
heap_wider t lo hi hi₁ roots le heap = record { placed = λ r l. placed_wider t lo hi hi₁ r le (heap.placed r l); apart = heap.apart }

-- WORDS BEHIND change no object that stands whole before them
module _ (t x : List ℕ) (lo hi r : ℕ) (fits : 8 * hi ≤ length t) (q : Placed t lo hi r) where
  pub heading_before : heading_at (t ++ x) r ≡ heading_at t r
  heading_before = get_or_append_left t x 0 (8 * (r - 1)) (omega (arith, q.within, q.whole))

  pub object_before : object_at (t ++ x) r ≡ object_at t r
  unfolding object_at
  object_before =
      ap (λ w. take (size_in w) (drop (8 * (r - 1)) (t ++ x))) heading_before
      ∙ part_of_append (size_in (heading_at t r)) (8 * (r - 1)) t x (omega (arith, q.within, q.whole))

  units_before : units_at (t ++ x) r ≡ units_at t r
  units_before = ap (λ w. units (size_in w)) heading_before

  placed_before : Placed (t ++ x) lo hi r
  placed_before =
      record {
        above = q.above;
        within = omega (arith, q.within, units_before);
        whole = subst (λ w. 2 + references_in w ≤ size_in w) (sym heading_before) q.whole;
        short = subst (λ w. size_in w ≤ 41024) (sym heading_before) q.short;
        few = subst (λ w. references_in w ≤ 4096) (sym heading_before) q.few;
        kinded = subst (λ o. 1 ≤ kind_of o) (sym object_before) q.kinded;
        key_there =
            λ k. subst (λ w. 6 + references_in w ≤ size_in w) (sym heading_before) (q.key_there (ap (λ o. keyed (kind_of o)) (sym object_before) ∙ k));
        lower = subst (λ o. every (λ s. ltb s r) (references_of o) ≡ true) (sym object_before) q.lower;
      }

module _ (t x : List ℕ) (lo hi : ℕ) (roots : List ℕ) (heap : Heap t lo hi roots) (fits : 8 * hi ≤ length t) where
  -- what a live object names, before and with the words behind
  references_stay : (s : ℕ) → Live t roots s → references_of (object_at (t ++ x) s) ≡ references_of (object_at t s)
  references_stay s l = ap references_of (object_before t x lo hi s fits (heap.placed s l))

  -- where the roots are live with the words behind, all is; and what is live then is new, or was so before
  live_on : (some : List ℕ) → ((r : ℕ) → 1 ≤ r → has roots r ≡ true → Live (t ++ x) some r) → (r : ℕ) → Live t roots r → Live (t ++ x) some r
  live_on some h r l = go l
    where
      go : {s : ℕ} → Live t roots s → Live (t ++ x) some s
      go (root s one e) = h s one e
      go (named s s₁ one k e) = named s s₁ one (go k) (ap (λ rs. has rs s) (references_stay s₁ k) ∙ e)

  live_old : (some : List ℕ) (Fresh : ℕ → Type 0) → ((r : ℕ) → 1 ≤ r → has some r ≡ true → Fresh r ⊎ Live t roots r) →
      ((s r : ℕ) → Fresh s → 1 ≤ r → has (references_of (object_at (t ++ x) s)) r ≡ true → Fresh r ⊎ Live t roots r) →
      (r : ℕ) → Live (t ++ x) some r → Fresh r ⊎ Live t roots r
  live_old some Fresh h g r l = go l
    where
      next : (s s₁ : ℕ) → 1 ≤ s → has (references_of (object_at (t ++ x) s₁)) s ≡ true → Fresh s₁ ⊎ Live t roots s₁ → Fresh s ⊎ Live t roots s
      next s s₁ one e (inl f) = g s₁ s f one e
      next s s₁ one e (inr k) = inr (named s s₁ one k (ap (λ rs. has rs s) (sym (references_stay s₁ k)) ∙ e))

      go : {s : ℕ} → Live (t ++ x) some s → Fresh s ⊎ Live t roots s
      go (root s one e) = h s one e
      go (named s s₁ one k e) = next s s₁ one e (go k)

  pub live_before : (r : ℕ) → Live t roots r → Live (t ++ x) roots r
  live_before r l = live_on roots (λ s one e. root s one e) r l

  pub live_back : (r : ℕ) → Live (t ++ x) roots r → Live t roots r
  live_back r l = go (live_old roots (λ _. ⊥) (λ s one e. inr (root s one e)) (λ s s₁ f one e. absurd f) r l)
    where
      go : ⊥ ⊎ Live t roots r → Live t roots r
      go (inl f) = absurd f
      go (inr k) = k

-- AN OBJECT LAID BEHIND ALL OTHERS, on fresh pages: what it owes
pub record New (t roots o : List ℕ) : Type 0 where
  pub sized : size_of o ≡ length o
  pub short : length o ≤ 41024
  pub whole : 2 + references_in (get_or o 0 0) ≤ length o
  pub few : references_in (get_or o 0 0) ≤ 4096
  pub kinded : 1 ≤ kind_of o
  pub key_there : keyed (kind_of o) ≡ true → 6 + references_in (get_or o 0 0) ≤ length o
  pub refers : (r : ℕ) → has (references_of o) r ≡ true → (r ≡ 0) ⊎ Live t roots r

-- and what it then is: live, with all that was live before
pub record Grown (t roots o x : List ℕ) (lo hi page : ℕ) : Type 0 where
  pub stands : object_at (t ++ x) (8 * page + 1) ≡ o
  pub heap : Heap (t ++ x) lo hi ((8 * page + 1) ∷ roots)
  pub stays : (r : ℕ) → Live t roots r → object_at (t ++ x) r ≡ object_at t r
  pub kept : (r : ℕ) → Live t roots r → Live (t ++ x) ((8 * page + 1) ∷ roots) r
  pub only : (r : ℕ) → Live (t ++ x) ((8 * page + 1) ∷ roots) r → (r ≡ 8 * page + 1) ⊎ Live t roots r

module _ (t roots o x : List ℕ) (lo hi page pages : ℕ) (tape : length t ≡ 64 * page) (low : lo ≤ 8 * page) (high : hi ≤ 8 * page) (heap : Heap t lo hi roots) (new : New t roots o)
    (long : length x ≡ 64 * pages) (front : take (length o) x ≡ o) (name : ℕ) (name_is : name ≡ 8 * page + 1) where
  fits : 8 * hi ≤ length t
  fits = omega arith

  placed : (r : ℕ) → Live t roots r → Placed t lo hi r
  placed r l = heap.placed r l

  heading_new : heading_at (t ++ x) name ≡ get_or o 0 0
  heading_new =
      let z : 8 * (name - 1) - 64 * page ≡ 0 = omega arith in
      get_or-append_right t x (64 * page) (8 * (name - 1)) 0 tape (omega arith) ∙ ap (λ i. get_or x i 0) z
      ∙ sym (get_or-take (length o) x 0 0 (omega (arith, new.whole))) ∙ ap (λ xs. get_or xs 0 0) front

  stands : object_at (t ++ x) name ≡ o
  unfolding object_at
  stands =
      let e : 8 * (name - 1) ≡ 64 * page = omega arith in
      ap₂ (λ w i. take (size_in w) (drop i (t ++ x))) heading_new e ∙ ap₂ take new.sized (drop_at t x (64 * page) tape) ∙ front

  inside : (r : ℕ) → Live t roots r → r < name
  inside r l = omega (arith, (placed r l).within, (placed r l).whole)

  only : (r : ℕ) → Live (t ++ x) (name ∷ roots) r → (r ≡ name) ⊎ Live t roots r
  only r l = live_old t x lo hi roots heap fits (name ∷ roots) (λ s. s ≡ name) (λ s one e. at_root s one (has_cases name s roots e)) from_new r l
    where
      at_root : (s : ℕ) → 1 ≤ s → (name ≡ s) ⊎ (has roots s ≡ true) → (s ≡ name) ⊎ Live t roots s
      at_root s one (inl e) = inl (sym e)
      at_root s one (inr e) = inr (root s one e)

      known : (s : ℕ) → 1 ≤ s → (s ≡ 0) ⊎ Live t roots s → (s ≡ name) ⊎ Live t roots s
      known s one (inl e) = absurd (omega arith)
      known s one (inr k) = inr k

      from_new : (s₁ s : ℕ) → s₁ ≡ name → 1 ≤ s → has (references_of (object_at (t ++ x) s₁)) s ≡ true → (s ≡ name) ⊎ Live t roots s
      from_new s₁ s e one f = known s one (new.refers s (ap (λ p. has (references_of p) s) (sym (ap (object_at (t ++ x)) e ∙ stands)) ∙ f))

  lower : every (λ s. ltb s name) (references_of (object_at (t ++ x) name)) ≡ true
  lower =
      subst (λ p. every (λ s. ltb s name) (references_of p) ≡ true) (sym stands)
      (every_from (λ s. ltb s name) (references_of o) (λ s i. lt-ltb s name (go s (new.refers s (in_has (references_of o) s i)))))
    where
      go : (s : ℕ) → (s ≡ 0) ⊎ Live t roots s → s < name
      go s (inl e) = omega arith
      go s (inr l) = inside s l

  size_new : size_in (heading_at (t ++ x) name) ≡ length o
  size_new = ap size_in heading_new ∙ new.sized

  few_new : references_in (heading_at (t ++ x) name) ≡ references_in (get_or o 0 0)
  few_new = ap references_in heading_new

  kind_new : kind_of (object_at (t ++ x) name) ≡ kind_of o
  kind_new = ap kind_of stands

  placed_new : Placed (t ++ x) lo (8 * (page + pages)) name
  placed_new =
      record {
        above = omega arith;
        within = omega (arith, size_new, ap length front, length-take (length o) x);
        whole = omega (arith, size_new, few_new, new.whole);
        short = omega (arith, size_new, new.short);
        few = omega (arith, few_new, new.few);
        kinded = subst (λ k. 1 ≤ k) (sym kind_new) new.kinded;
        key_there = λ k. let e = new.key_there (ap keyed (sym kind_new) ∙ k) in omega (arith, size_new, few_new);
        lower = lower;
      }

  heap_new : Heap (t ++ x) lo (8 * (page + pages)) (name ∷ roots)
  heap_new =
      record {
        placed = λ r l. placed_case r (only r l);
        apart = λ r s l k lt. apart_case r s (only r l) (only s k) lt;
      }
    where
      placed_case : (r : ℕ) → (r ≡ name) ⊎ Live t roots r → Placed (t ++ x) lo (8 * (page + pages)) r
      placed_case r (inl e) = subst (Placed (t ++ x) lo (8 * (page + pages))) (sym e) placed_new
      placed_case r (inr l) = placed_wider (t ++ x) lo hi (8 * (page + pages)) r (omega arith) (placed_before t x lo hi r fits (placed r l))

      apart_case : (r s : ℕ) → (r ≡ name) ⊎ Live t roots r → (s ≡ name) ⊎ Live t roots s → r < s → (r - 1) + units_at (t ++ x) r ≤ s - 1
      apart_case r s (inl e) (inl f) lt = absurd (omega arith)
      apart_case r s (inl e) (inr k) lt = absurd (omega (arith, inside s k))
      apart_case r s (inr l) (inl f) lt = omega (arith, units_before t x lo hi r fits (placed r l), (placed r l).within)
      apart_case r s (inr l) (inr k) lt = omega (arith, units_before t x lo hi r fits (placed r l), heap.apart r s l k lt)

pub grows : (t roots o x : List ℕ) (lo hi page pages : ℕ) → length t ≡ 64 * page → lo ≤ 8 * page → hi ≤ 8 * page → Heap t lo hi roots → New t roots o →
    length x ≡ 64 * pages → take (length o) x ≡ o → Grown t roots o x lo (8 * (page + pages)) page
grows t roots o x lo hi page pages tape low high heap new long front =
    record {
      stands = stands t roots o x lo hi page pages tape low high heap new long front (8 * page + 1) refl;
      heap = heap_new t roots o x lo hi page pages tape low high heap new long front (8 * page + 1) refl;
      stays = λ r l. object_before t x lo hi r (omega arith) (heap.placed r l);
      kept = λ r l. live_on t x lo hi roots heap (omega arith) ((8 * page + 1) ∷ roots) (λ s one e. root s one (has_there (8 * page + 1) s roots e)) r l;
      only = only t roots o x lo hi page pages tape low high heap new long front (8 * page + 1) refl;
    }
