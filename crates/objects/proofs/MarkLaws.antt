-- Marking meets each live object once, and all of them. Assumes nothing.
use Rattle.std.proofs.Common.{◌≡◌, ℕ, zero, suc, ◌+◌, ◌-◌, ◌*◌, ◌<◌, ◌≤◌, min, Bool, true, false, ◌&&◌, eqb, ltb, leb, ◌⊎◌, List, [], ◌∷◌, ◌++◌, length, get_or, take, drop, Some, None, Option, sym, refl, ap, ◌∙◌, subst, ap₂, inl, inr, arith, length-drop}
use Rattle.std.proofs.lemmas.List.{get_or_append_left, get_or-take, get_or-drop, length-take-le, take_all, take_at, take_more, take-append-drop, drop_at, drop-drop}
use Rattle.std.proofs.lemmas.Bool.{cases_lt, cases_order, both_ways, eq-eqb, lt-ltb, le-ltb, le-leb, ltb-true, leb-true, eqb-true, and_parts, and_from}
use Rattle.pages.specs.Lists.{pick, every, has, same, zeros, added_up}
use Rattle.pages.specs.Words.{over, small}
use Rattle.pages.specs.Crash.{Rows}
use Rattle.pages.specs.Engine.{bulk_cells}
use Rattle.pages.specs.Machine.{Asked, asked, Program, capped, wanted, buffer_words}
use Rattle.pages.specs.Object.{size_in, references_in, kind_in, kind_of, own_weight, references_of, data_of, object_at}
use Rattle.pages.specs.Tape.{first_page, Does, opens}
use Rattle.pages.specs.declared.machine.Request.TheVariants.{Object}
use Rattle.pages.proofs.ListLaws.{In, pick_true, pick_false, false_unless, or_cases, or_left, or_right, same_test, every_in, every_from, has_in, in_has, any_in}
use Rattle.pages.proofs.WordLaws.{length_over, length_zeros, small_zeros}
use Rattle.store.specs.Bitmap.{bit, with_bit, with_run, highest, HighestIs}
use Rattle.objects.specs.Plan.{map_at, map_words, plan_end, map_of, with_map}
use Rattle.objects.specs.Heap.{Live, root, named, Placed, Heap, rising, units, heading_at, units_at, keyed, has_key, covered, weights}
use Rattle.objects.specs.Marking.{glance, walk, stride, with_reference, with_references, run_from, begun, unmarked, rooted, references_met, key_met, key_words, found_now, map_met, met_walk, met_memory, sought_at, sought, went_on, walked, Walks, Keeps, Marked, Marks}
use Rattle.objects.specs.declared.mark.Key.{Key}
use Rattle.objects.specs.declared.mark.Walk.{Walk}
use borrow.Rule.Slice.PartMut.{put_mid}
use Rattle.store.proofs.BitLaws.{all_clear, bits_set, set_here, run_set, small_with_bit, small_with_run, finds}
use Rattle.objects.proofs.PlanLaws.{part_of_front, part_of_append, over_drop, over_behind, length_map_of, length_with_map, map_of_with_map, with_map_again, before_map, behind_map, part_before_map, put_map}

-- THE MAP'S BITS
-- a bit that is set stays, whatever bit is set
bit_stays : (ws : List ℕ) (u v : ℕ) → bit ws v ≡ true → bit (with_bit ws u) v ≡ true
bit_stays ws u v h = (bits_set ws u v).0 ∙ or_right (eqb u v && ltb u (64 * length ws)) (bit ws v) h

bit_from : (ws : List ℕ) (u v : ℕ) → bit (with_bit ws u) v ≡ true → (u ≡ v) ⊎ (bit ws v ≡ true)
bit_from ws u v h = go (or_cases (eqb u v && ltb u (64 * length ws)) (bit ws v) (sym (bits_set ws u v).0 ∙ h))
  where
    go : ((eqb u v && ltb u (64 * length ws)) ≡ true) ⊎ (bit ws v ≡ true) → (u ≡ v) ⊎ (bit ws v ≡ true)
    go (inl e) = inl (eqb-true u v (and_parts (eqb u v) (ltb u (64 * length ws)) e).0)
    go (inr e) = inr e

-- a reference
reference_stays : (first r v : ℕ) (ws : List ℕ) → bit ws v ≡ true → bit (with_reference first r ws) v ≡ true
reference_stays first r v ws h = go (ltb first r)
  where
    go : (b : Bool) → bit (pick b (with_bit ws (r - 1 - first)) ws) v ≡ true
    go true = bit_stays ws (r - 1 - first) v h
    go false = h

reference_from : (first r v : ℕ) (ws : List ℕ) → bit (with_reference first r ws) v ≡ true → (r ≡ first + v + 1) ⊎ (bit ws v ≡ true)
reference_from first r v ws = go (ltb first r) refl
  where
    at : first < r → (r - 1 - first ≡ v) ⊎ (bit ws v ≡ true) → (r ≡ first + v + 1) ⊎ (bit ws v ≡ true)
    at l (inl e) = inl (omega arith)
    at l (inr e) = inr e

    go : (b : Bool) → ltb first r ≡ b → bit (pick b (with_bit ws (r - 1 - first)) ws) v ≡ true → (r ≡ first + v + 1) ⊎ (bit ws v ≡ true)
    go true e h = at (ltb-true first r e) (bit_from ws (r - 1 - first) v h)
    go false e h = inr h

reference_here : (first r : ℕ) (ws : List ℕ) → first < r → r - 1 - first < 64 * length ws → bit (with_reference first r ws) (r - 1 - first) ≡ true
reference_here first r ws l h =
    ap (λ xs. bit xs (r - 1 - first)) (pick_true (ltb first r) (with_bit ws (r - 1 - first)) ws (lt-ltb first r l)) ∙ set_here ws (r - 1 - first) (omega arith)

length_with_reference : (first r : ℕ) (ws : List ℕ) → length (with_reference first r ws) ≡ length ws
length_with_reference first r ws = go (ltb first r)
  where
    go : (b : Bool) → length (pick b (with_bit ws (r - 1 - first)) ws) ≡ length ws
    go true = (bits_set ws (r - 1 - first) 0).1
    go false = refl

small_with_reference : (first r : ℕ) (ws : List ℕ) → small ws ≡ true → small (with_reference first r ws) ≡ true
small_with_reference first r ws h = go (ltb first r)
  where
    go : (b : Bool) → small (pick b (with_bit ws (r - 1 - first)) ws) ≡ true
    go true = small_with_bit ws (r - 1 - first) h
    go false = h

-- many of them
pub small_with_references : (first : ℕ) (rs ws : List ℕ) → small ws ≡ true → small (with_references first rs ws) ≡ true
unfolding with_references
small_with_references first [] ws h = h
small_with_references first (r ∷ rs) ws h = small_with_references first rs (with_reference first r ws) (small_with_reference first r ws h)

pub length_with_references : (first : ℕ) (rs ws : List ℕ) → length (with_references first rs ws) ≡ length ws
unfolding with_references
length_with_references first [] ws = refl
length_with_references first (r ∷ rs) ws = length_with_references first rs (with_reference first r ws) ∙ length_with_reference first r ws

references_stay : (first v : ℕ) (rs ws : List ℕ) → bit ws v ≡ true → bit (with_references first rs ws) v ≡ true
unfolding with_references
references_stay first v [] ws h = h
references_stay first v (r ∷ rs) ws h = references_stay first v rs (with_reference first r ws) (reference_stays first r v ws h)

references_from : (first v : ℕ) (rs ws : List ℕ) → bit (with_references first rs ws) v ≡ true → (has rs (first + v + 1) ≡ true) ⊎ (bit ws v ≡ true)
unfolding with_references
references_from first v [] ws h = inr h
references_from first v (r ∷ rs) ws h = go (references_from first v rs (with_reference first r ws) h)
  where
    here : (r ≡ first + v + 1) ⊎ (bit ws v ≡ true) → (has (r ∷ rs) (first + v + 1) ≡ true) ⊎ (bit ws v ≡ true)
    here (inl e) = inl (or_left (eqb r (first + v + 1)) (has rs (first + v + 1)) (eq-eqb r (first + v + 1) e))
    here (inr e) = inr e

    go : (has rs (first + v + 1) ≡ true) ⊎ (bit (with_reference first r ws) v ≡ true) → (has (r ∷ rs) (first + v + 1) ≡ true) ⊎ (bit ws v ≡ true)
    go (inl e) = inl (or_right (eqb r (first + v + 1)) (has rs (first + v + 1)) e)
    go (inr e) = here (reference_from first r v ws e)

references_here : (first s : ℕ) (rs ws : List ℕ) → has rs s ≡ true → first < s → s - 1 - first < 64 * length ws →
    bit (with_references first rs ws) (s - 1 - first) ≡ true
unfolding with_references
references_here first s [] ws h l b = absurd (both_ways false refl h)
references_here first s (r ∷ rs) ws h l b =
    go (or_cases (eqb r s) (has rs s) h) (λ e. references_here first s rs (with_reference first r ws) e l (omega (arith, length_with_reference first r ws)))
  where
    go : (eqb r s ≡ true) ⊎ (has rs s ≡ true) → (has rs s ≡ true → bit (with_references first rs (with_reference first r ws)) (s - 1 - first) ≡ true) →
        bit (with_references first rs (with_reference first r ws)) (s - 1 - first) ≡ true
    go (inl e) rest =
        let q : s ≡ r = sym (eqb-true r s e) in
        references_stay first (s - 1 - first) rs (with_reference first r ws)
        (subst (λ x. bit (with_reference first x ws) (s - 1 - first) ≡ true) q (reference_here first s ws l b))
    go (inr e) rest = rest e

-- an object's units, as far as numbers go
module _ (from many : ℕ) (ws : List ℕ) (fits : from + many ≤ 18446744073709551615) where
  run_is : run_from from many ws ≡ with_run many from ws
  run_is = let e : min (from + many) 18446744073709551615 - from ≡ many = omega arith in ap (λ n. with_run n from ws) e

  run_inside : (v : ℕ) → from ≤ v → v < from + many → v < 64 * length ws → bit (run_from from many ws) v ≡ true
  run_inside v lo hi l = ap (λ xs. bit xs v) run_is ∙ (run_set many ws from v).0 lo hi l

  run_outside : (v : ℕ) → (v < from) ⊎ (from + many ≤ v) → bit (run_from from many ws) v ≡ bit ws v
  run_outside v out = ap (λ xs. bit xs v) run_is ∙ (run_set many ws from v).1 out

  length_run : length (run_from from many ws) ≡ length ws
  length_run = ap length run_is ∙ (run_set many ws from 0).2

-- LISTS OF REFERENCES
has_here : (r : ℕ) (rs : List ℕ) → has (r ∷ rs) r ≡ true
has_here r rs = or_left (eqb r r) (has rs r) (eq-eqb r r refl)

pub has_there : (r s : ℕ) (rs : List ℕ) → has rs s ≡ true → has (r ∷ rs) s ≡ true
has_there r s rs h = or_right (eqb r s) (has rs s) h

pub has_cases : (r s : ℕ) (rs : List ℕ) → has (r ∷ rs) s ≡ true → (r ≡ s) ⊎ (has rs s ≡ true)
has_cases r s rs h = go (or_cases (eqb r s) (has rs s) h)
  where
    go : (eqb r s ≡ true) ⊎ (has rs s ≡ true) → (r ≡ s) ⊎ (has rs s ≡ true)
    go (inl e) = inl (eqb-true r s e)
    go (inr e) = inr e

-- THE OBJECT THAT CAME, at the front of memory
abbrev came : List ℕ → ℕ → List ℕ → List ℕ
came t r m = over 0 (take (wanted glance (heading_at t r)) (drop (8 * (r - 1)) t)) m

module _ (t m : List ℕ) (lo hi r : ℕ) (q : Placed t lo hi r) (fits : 8 * hi ≤ length t) (long : length m ≡ bulk_cells) where
  wanted_is : wanted glance (heading_at t r) ≡ min (size_in (heading_at t r)) glance
  wanted_is = omega (arith, q.whole)

  on_tape : 8 * (r - 1) + size_in (heading_at t r) ≤ length t
  on_tape = omega (arith, q.within)

  front_length : length (take (wanted glance (heading_at t r)) (drop (8 * (r - 1)) t)) ≡ wanted glance (heading_at t r)
  front_length =
      length-take-le (wanted glance (heading_at t r)) (drop (8 * (r - 1)) t) (omega (arith, length-drop (8 * (r - 1)) t, wanted_is, on_tape))

  length_came : length (came t r m) ≡ bulk_cells
  length_came = length_over 0 (take (wanted glance (heading_at t r)) (drop (8 * (r - 1)) t)) m (omega (arith, front_length)) ∙ long

  map_came : map_of (came t r m) ≡ map_of m
  map_came =
      ap (take map_words)
      (over_drop 0 map_at (take (wanted glance (heading_at t r)) (drop (8 * (r - 1)) t)) m (omega (arith, front_length)) (omega arith))

  rest_came : (i : ℕ) → buffer_words ≤ i → get_or (came t r m) i 0 ≡ get_or m i 0
  rest_came i l = over_behind 0 i (take (wanted glance (heading_at t r)) (drop (8 * (r - 1)) t)) m (omega (arith, front_length)) (omega arith)

  word_came : (i : ℕ) → i < wanted glance (heading_at t r) → get_or (came t r m) i 0 ≡ get_or (drop (8 * (r - 1)) t) i 0
  word_came i l =
      get_or_append_left (take (wanted glance (heading_at t r)) (drop (8 * (r - 1)) t)) (drop (0 + length (take (wanted glance (heading_at t r)) (drop (8 * (r - 1)) t))) m) 0 i
      (omega (arith, front_length))
      ∙ get_or-take (wanted glance (heading_at t r)) (drop (8 * (r - 1)) t) i 0 l

  object_word : (i : ℕ) → i < size_in (heading_at t r) → get_or (object_at t r) i 0 ≡ get_or (drop (8 * (r - 1)) t) i 0
  unfolding object_at
  object_word i l = get_or-take (size_in (heading_at t r)) (drop (8 * (r - 1)) t) i 0 l

  first_word : get_or (drop (8 * (r - 1)) t) 0 0 ≡ heading_at t r
  first_word = get_or-drop (8 * (r - 1)) t 0 0 ∙ (let e : 8 * (r - 1) + 0 ≡ 8 * (r - 1) = omega arith in ap (λ i. get_or t i 0) e)

  heading_came : get_or (came t r m) 0 0 ≡ heading_at t r
  heading_came = word_came 0 (omega arith) ∙ first_word

  heading_of : get_or (object_at t r) 0 0 ≡ heading_at t r
  heading_of = object_word 0 (omega (arith, q.whole)) ∙ first_word

  weight_came : get_or (came t r m) 1 0 ≡ own_weight (object_at t r)
  weight_came = word_came 1 (omega (arith, q.whole)) ∙ sym (object_word 1 (omega (arith, q.whole)))

  part_came : (n k : ℕ) → k + n ≤ size_in (heading_at t r) → k + n ≤ glance → take n (drop k (came t r m)) ≡ take n (drop k (object_at t r))
  unfolding object_at
  part_came n k a b =
      part_of_append n k (take (wanted glance (heading_at t r)) (drop (8 * (r - 1)) t)) (drop (0 + length (take (wanted glance (heading_at t r)) (drop (8 * (r - 1)) t))) m)
      (omega (arith, front_length))
      ∙ part_of_front n k (wanted glance (heading_at t r)) (drop (8 * (r - 1)) t) (omega arith)
      ∙ sym (part_of_front n k (size_in (heading_at t r)) (drop (8 * (r - 1)) t) a)

  few_met : min (references_in (get_or (came t r m) 0 0)) 4096 ≡ references_in (heading_at t r)
  few_met =
      ap (λ x. min (references_in x) 4096) heading_came
      ∙ (let e : min (references_in (heading_at t r)) 4096 ≡ references_in (heading_at t r) = omega (arith, q.few) in e)

  references_came : references_met (came t r m) ≡ references_of (object_at t r)
  references_came =
      ap (λ n. take n (drop 2 (came t r m))) few_met ∙ part_came (references_in (heading_at t r)) 2 q.whole (omega (arith, q.few))
      ∙ ap (λ x. take (references_in x) (drop 2 (object_at t r))) (sym heading_of)

  key_came : 6 + references_in (heading_at t r) ≤ size_in (heading_at t r) → key_met (came t r m) ≡ take 4 (data_of (object_at t r))
  key_came l =
      ap (λ n. take 4 (drop (2 + n) (came t r m))) few_met
      ∙ part_came 4 (2 + references_in (heading_at t r)) (omega arith) (omega (arith, q.few))
      ∙ ap (λ x. take 4 (drop (2 + references_in x) (object_at t r))) (sym heading_of)

  kind_came : kind_in (get_or (came t r m) 0 0) ≡ kind_of (object_at t r)
  kind_came = ap kind_in (heading_came ∙ sym heading_of)

  -- the test for what is looked for
  sought_came : (kind : ℕ) (key : Key) → (kind ≡ 0) ⊎ (keyed kind ≡ true) →
      (eqb (kind_in (get_or (came t r m) 0 0)) kind && same (key_met (came t r m)) (key_words key)) ≡ has_key kind (key_words key) (object_at t r)
  sought_came kind key sort =
      ap (λ x. eqb x kind && same (key_met (came t r m)) (key_words key)) kind_came ∙ go (eqb (kind_of (object_at t r)) kind) refl
    where
      there : kind_of (object_at t r) ≡ kind → (kind ≡ 0) ⊎ (keyed kind ≡ true) → key_met (came t r m) ≡ take 4 (data_of (object_at t r))
      there e (inl z) = absurd (omega (arith, q.kinded))
      there e (inr k) = key_came (q.key_there (ap keyed e ∙ k))

      go : (b : Bool) → eqb (kind_of (object_at t r)) kind ≡ b → (b && same (key_met (came t r m)) (key_words key)) ≡ (b && same (take 4 (data_of (object_at t r))) (key_words key))
      go true e = ap (λ x. same x (key_words key)) (there (eqb-true (kind_of (object_at t r)) kind e) sort)
      go false e = refl

-- WHAT IS MET
-- a reference is met already, or is marked below the cursor
abbrev Reached : ℕ → ℕ → List ℕ → List ℕ → ℕ → Type 0
Reached lo c ls ws r = (has ls r ≡ true) ⊎ ((u : ℕ) × (u < c) × (r ≡ lo + u + 1) × (bit ws u ≡ true))

-- all above the cursor is met, and just that is marked there; below it the starts of live objects are marked, among them all that what is met names
record Met (t roots : List ℕ) (lo c : ℕ) (ls ws : List ℕ) : Type 0 where
  many : length ws ≡ map_words
  tiny : small ws ≡ true
  rise : rising ls ≡ true
  live : (r : ℕ) → has ls r ≡ true → Live t roots r
  high : (r : ℕ) → has ls r ≡ true → lo + c < r
  above : (u : ℕ) → c ≤ u → u < 8388608 → bit ws u ≡ covered t ls (lo + u)
  under : (u : ℕ) → u < c → bit ws u ≡ true → Live t roots (lo + u + 1)
  from_roots : (r : ℕ) → 1 ≤ r → has roots r ≡ true → Reached lo c ls ws r
  from_met : (s r : ℕ) → has ls s ≡ true → 1 ≤ r → has (references_of (object_at t s)) r ≡ true → Reached lo c ls ws r

-- whether a unit is one of those that an object takes
abbrev pub takes : List ℕ → ℕ → ℕ → Bool
takes t r u = leb (r - 1) u && ltb u ((r - 1) + units_at t r)

-- the map when one more is met
abbrev next_map : List ℕ → ℕ → ℕ → ℕ → List ℕ → List ℕ
next_map t lo u r ws = with_references lo (references_of (object_at t r)) (run_from u (units_at t r) ws)

module _ (t roots ls ws : List ℕ) (lo hi c u r : ℕ) (heap : Heap t lo hi roots) (top : hi ≤ lo + 8388608) (inv : Met t roots lo c ls ws) (lt : u < c) (cap : c ≤ 8388608)
    (marked : bit ws u ≡ true) (none : (v : ℕ) → u < v → v < c → bit ws v ≡ false) (r_is : r ≡ lo + u + 1) where
  live_r : Live t roots r
  live_r = subst (Live t roots) (sym r_is) (inv.under u lt marked)

  placed_r : Placed t lo hi r
  placed_r = heap.placed r live_r

  lower_r : (s : ℕ) → has (references_of (object_at t r)) s ≡ true → s < r
  lower_r s h =
      ltb-true s r (every_in (λ x. ltb x r) (references_of (object_at t r)) placed_r.lower s (has_in (references_of (object_at t r)) s h))

  some : 1 ≤ units_at t r
  some = omega (arith, placed_r.whole)

  run_fits : u + units_at t r ≤ 8388608
  run_fits = omega (arith, placed_r.within)

  run_low : u + units_at t r ≤ 18446744073709551615
  run_low = omega (arith, run_fits)

  -- what was marked stays so
  stays : (v : ℕ) → v < 8388608 → bit ws v ≡ true → bit (next_map t lo u r ws) v ≡ true
  stays v l b = references_stay lo v (references_of (object_at t r)) (run_from u (units_at t r) ws) (go (cases_lt v u) (cases_lt v (u + units_at t r)))
    where
      go : (v < u) ⊎ (u ≤ v) → (v < u + units_at t r) ⊎ (u + units_at t r ≤ v) → bit (run_from u (units_at t r) ws) v ≡ true
      go (inl a) w = run_outside u (units_at t r) ws run_low v (inl a) ∙ b
      go (inr a) (inl w) = run_inside u (units_at t r) ws run_low v a w (omega (arith, inv.many))
      go (inr a) (inr w) = run_outside u (units_at t r) ws run_low v (inr w) ∙ b

  above_next : (v : ℕ) → u ≤ v → v < 8388608 → bit (next_map t lo u r ws) v ≡ covered t (r ∷ ls) (lo + v)
  above_next v from to = same_test (bit (next_map t lo u r ws) v) (covered t (r ∷ ls) (lo + v)) forth back
    where
      old : bit ws v ≡ true → (v < c) ⊎ (c ≤ v) → u < v → covered t ls (lo + v) ≡ true
      old b (inl a) l = absurd (both_ways (bit ws v) (none v l a) b)
      old b (inr a) l = sym (inv.above v a to) ∙ b

      run : bit (run_from u (units_at t r) ws) v ≡ true → (v < u + units_at t r) ⊎ (u + units_at t r ≤ v) → covered t (r ∷ ls) (lo + v) ≡ true
      run b (inl a) =
          or_left (takes t r (lo + v)) (covered t ls (lo + v))
          (and_from (leb (r - 1) (lo + v)) (ltb (lo + v) ((r - 1) + units_at t r)) (le-leb (r - 1) (lo + v) (omega arith)) (lt-ltb (lo + v) ((r - 1) + units_at t r) (omega arith)))
      run b (inr a) =
          or_right (takes t r (lo + v)) (covered t ls (lo + v)) (old (sym (run_outside u (units_at t r) ws run_low v (inr a)) ∙ b) (cases_lt v c) (omega (arith, some)))

      cases : (has (references_of (object_at t r)) (lo + v + 1) ≡ true) ⊎ (bit (run_from u (units_at t r) ws) v ≡ true) → covered t (r ∷ ls) (lo + v) ≡ true
      cases (inl e) = absurd (omega (arith, lower_r (lo + v + 1) e))
      cases (inr b) = run b (cases_lt v (u + units_at t r))

      forth : bit (next_map t lo u r ws) v ≡ true → covered t (r ∷ ls) (lo + v) ≡ true
      forth b = cases (references_from lo v (references_of (object_at t r)) (run_from u (units_at t r) ws) b)

      back_old : covered t ls (lo + v) ≡ true → (s : ℕ) × In s ls × (takes t s (lo + v) ≡ true) →
          bit (next_map t lo u r ws) v ≡ true
      back_old e (s, i, b) =
          let a : s - 1 ≤ lo + v = leb-true (s - 1) (lo + v) (and_parts (leb (s - 1) (lo + v)) (ltb (lo + v) ((s - 1) + units_at t s)) b).0 in
          let l : lo + c < s = inv.high s (in_has ls s i) in stays v to (inv.above v (omega arith) to ∙ e)

      back_own : takes t r (lo + v) ≡ true → bit (next_map t lo u r ws) v ≡ true
      back_own e =
          let a : lo + v < (r - 1) + units_at t r = ltb-true (lo + v) ((r - 1) + units_at t r) (and_parts (leb (r - 1) (lo + v)) (ltb (lo + v) ((r - 1) + units_at t r)) e).1 in
          references_stay lo v (references_of (object_at t r)) (run_from u (units_at t r) ws)
          (run_inside u (units_at t r) ws run_low v from (omega arith) (omega (arith, inv.many)))

      back_cases : (takes t r (lo + v) ≡ true) ⊎ (covered t ls (lo + v) ≡ true) → bit (next_map t lo u r ws) v ≡ true
      back_cases (inl e) = back_own e
      back_cases (inr e) = back_old e (any_in (λ s. takes t s (lo + v)) ls e)

      back : covered t (r ∷ ls) (lo + v) ≡ true → bit (next_map t lo u r ws) v ≡ true
      back e = back_cases (or_cases (takes t r (lo + v)) (covered t ls (lo + v)) e)

  under_next : (v : ℕ) → v < u → bit (next_map t lo u r ws) v ≡ true → Live t roots (lo + v + 1)
  under_next v l b = go (references_from lo v (references_of (object_at t r)) (run_from u (units_at t r) ws) b)
    where
      go : (has (references_of (object_at t r)) (lo + v + 1) ≡ true) ⊎ (bit (run_from u (units_at t r) ws) v ≡ true) → Live t roots (lo + v + 1)
      go (inl e) = named (lo + v + 1) r (omega arith) live_r e
      go (inr e) = inv.under v (omega arith) (sym (run_outside u (units_at t r) ws run_low v (inl l)) ∙ e)

  reached_next : (s : ℕ) → Reached lo c ls ws s → Reached lo u (r ∷ ls) (next_map t lo u r ws) s
  reached_next s (inl e) = inl (has_there r s ls e)
  reached_next s (inr (v, l, e, b)) = go (cases_order v u)
    where
      go : (v ≡ u) ⊎ ((v < u) ⊎ (u < v)) → Reached lo u (r ∷ ls) (next_map t lo u r ws) s
      go (inl q) = inl (or_left (eqb r s) (has ls s) (eq-eqb r s (omega arith)))
      go (inr (inl a)) = inr (v, a, e, stays v (omega arith) b)
      go (inr (inr a)) = absurd (both_ways (bit ws v) (none v a l) b)

  named_next : (s : ℕ) → 1 ≤ s → has (references_of (object_at t r)) s ≡ true → Reached lo u (r ∷ ls) (next_map t lo u r ws) s
  named_next s one e =
      let a : s < r = lower_r s e in
      let b : lo < s = (heap.placed s (named s r one live_r e)).above in
      inr (
        s - 1 - lo,
        omega arith,
        omega arith,
        references_here lo s (references_of (object_at t r)) (run_from u (units_at t r) ws) e b (omega (arith, length_run u (units_at t r) ws run_low, inv.many)),
      )

  met_next : Met t roots lo u (r ∷ ls) (next_map t lo u r ws)
  unfolding rising
  met_next =
      record {
        many =
            length_with_references lo (references_of (object_at t r)) (run_from u (units_at t r) ws) ∙ length_run u (units_at t r) ws run_low ∙ inv.many;
        tiny =
            small_with_references lo (references_of (object_at t r)) (run_from u (units_at t r) ws)
            (small_with_run (min (u + units_at t r) 18446744073709551615 - u) u ws inv.tiny);
        rise =
            and_from (every (λ s. ltb r s) ls) (rising ls)
            (every_from (λ s. ltb r s) ls (λ s i. lt-ltb r s (omega (arith, inv.high s (in_has ls s i))))) inv.rise;
        live = λ s e. live_case s (has_cases r s ls e);
        high = λ s e. high_case s (has_cases r s ls e);
        above = above_next;
        under = under_next;
        from_roots = λ s one e. reached_next s (inv.from_roots s one e);
        from_met = λ s x e one f. met_case s x (has_cases r s ls e) one f;
      }
    where
      live_case : (s : ℕ) → (r ≡ s) ⊎ (has ls s ≡ true) → Live t roots s
      live_case s (inl e) = subst (Live t roots) e live_r
      live_case s (inr e) = inv.live s e

      high_case : (s : ℕ) → (r ≡ s) ⊎ (has ls s ≡ true) → lo + u < s
      high_case s (inl e) = omega arith
      high_case s (inr e) = omega (arith, inv.high s e)

      met_case : (s x : ℕ) → (r ≡ s) ⊎ (has ls s ≡ true) → 1 ≤ x → has (references_of (object_at t s)) x ≡ true → Reached lo u (r ∷ ls) (next_map t lo u r ws) x
      met_case s x (inl e) one f = named_next x one (subst (λ y. has (references_of (object_at t y)) x ≡ true) (sym e) f)
      met_case s x (inr e) one f = reached_next x (inv.from_met s x e one f)

-- what was looked for, among what is met
record Found (t ls : List ℕ) (kind : ℕ) (key : Key) (found : ℕ) : Type 0 where
  there : 1 ≤ found → (has ls found ≡ true) × (has_key kind (key_words key) (object_at t found) ≡ true)
  nowhere : found ≡ 0 → (r : ℕ) → has ls r ≡ true → has_key kind (key_words key) (object_at t r) ≡ false

found_next : (t ls : List ℕ) (kind : ℕ) (key : Key) (found r : ℕ) → 1 ≤ r → Found t ls kind key found →
    Found t (r ∷ ls) kind key (pick (has_key kind (key_words key) (object_at t r)) r found)
found_next t ls kind key found r one f = go (has_key kind (key_words key) (object_at t r)) refl
  where
    lacks : (s : ℕ) → found ≡ 0 → has_key kind (key_words key) (object_at t r) ≡ false → (r ≡ s) ⊎ (has ls s ≡ true) → has_key kind (key_words key) (object_at t s) ≡ false
    lacks s z e (inl q) = subst (λ x. has_key kind (key_words key) (object_at t x) ≡ false) q e
    lacks s z e (inr i) = f.nowhere z s i

    go : (b : Bool) → has_key kind (key_words key) (object_at t r) ≡ b → Found t (r ∷ ls) kind key (pick b r found)
    go true e = record { there = λ _. (has_here r ls, e); nowhere = λ z. absurd (omega arith) }
    go false e =
        record {
          there = λ l. (has_there r found ls (f.there l).0, (f.there l).1);
          nowhere = λ z s i. lacks s z e (has_cases r s ls i);
        }

-- what the walk keeps
keeps_map : (m ws : List ℕ) → length ws ≡ map_words → plan_end ≤ length m → Keeps m (with_map ws m)
keeps_map m ws e h =
    record { same_length = length_with_map ws m e h; before = λ i a b. before_map ws m i b h; behind = λ i a. behind_map ws m i e a h }

keeps_came : (t m : List ℕ) (lo hi r : ℕ) → Placed t lo hi r → 8 * hi ≤ length t → length m ≡ bulk_cells → Keeps m (came t r m)
keeps_came t m lo hi r q fits long =
    record {
      same_length = length_came t m lo hi r q fits long ∙ sym long;
      before = λ i a b. rest_came t m lo hi r q fits long i a;
      behind = λ i a. rest_came t m lo hi r q fits long i (omega arith);
    }

keeps_on : (m₀ m m₁ : List ℕ) → Keeps m₀ m → Keeps m m₁ → Keeps m₀ m₁
keeps_on m₀ m m₁ f g =
    record {
      same_length = g.same_length ∙ f.same_length;
      before = λ i a b. g.before i a b ∙ f.before i a b;
      behind = λ i a. g.behind i a ∙ f.behind i a;
    }

-- A WALK'S STATE
record At (t roots m₀ : List ℕ) (lo kind : ℕ) (key : Key) (c : ℕ) (ls : List ℕ) (weight found : ℕ) (m : List ℕ) : Type 0 where
  met : Met t roots lo c ls (map_of m)
  weighs : weight ≡ capped (weights t ls)
  finds_in : Found t ls kind key found
  keeps : Keeps m₀ m
  long : length m ≡ bulk_cells

-- at its start the roots are marked
at_start : (t roots m : List ℕ) (lo below kind : ℕ) (key : Key) → Heap t lo (lo + below) roots → below ≤ 8388608 → length m ≡ bulk_cells →
    At t roots m lo kind key below [] 0 0 (begun lo roots m)
unfolding rising added_up
at_start t roots m lo below kind key heap cap long =
    record {
      met = subst (Met t roots lo below []) (sym (map_of_with_map ws m l (omega arith))) first;
      weighs = refl;
      finds_in = record { there = λ one. absurd (omega arith); nowhere = λ z r e. absurd (both_ways false refl e) };
      keeps = keeps_map m ws l (omega arith);
      long = length_with_map ws m l (omega arith) ∙ long;
    }
  where
    ws : List ℕ
    ws = with_references lo roots (zeros map_words)

    l : length (with_references lo roots (zeros map_words)) ≡ map_words
    l = length_with_references lo roots (zeros map_words) ∙ length_zeros map_words

    only : (u : ℕ) → bit (with_references lo roots (zeros map_words)) u ≡ true → Live t roots (lo + u + 1)
    only u b = go (references_from lo u roots (zeros map_words) b)
      where
        go : (has roots (lo + u + 1) ≡ true) ⊎ (bit (zeros map_words) u ≡ true) → Live t roots (lo + u + 1)
        go (inl e) = root (lo + u + 1) (omega arith) e
        go (inr e) = absurd (both_ways (bit (zeros map_words) u) (all_clear map_words u) e)

    inside : (r : ℕ) → Live t roots r → (lo < r) × (r ≤ lo + below)
    inside r x = let q : Placed t lo (lo + below) r = heap.placed r x in (q.above, omega (arith, q.within, q.whole))

    past : (u : ℕ) → below ≤ u → bit (with_references lo roots (zeros map_words)) u ≡ true → ⊥
    past u h b = omega (arith, (inside (lo + u + 1) (only u b)).1)

    first : Met t roots lo below [] (with_references lo roots (zeros map_words))
    first =
        record {
          many = l;
          tiny = small_with_references lo roots (zeros map_words) (small_zeros map_words);
          rise = refl;
          live = λ r e. absurd (both_ways false refl e);
          high = λ r e. absurd (both_ways false refl e);
          above = λ u a b. false_unless (bit (with_references lo roots (zeros map_words)) u) (past u a);
          under = λ u a b. only u b;
          from_roots =
              λ r one e.
              let a : lo < r = (inside r (root r one e)).0 in
              let b : r ≤ lo + below = (inside r (root r one e)).1 in
              inr (r - 1 - lo, omega arith, omega arith, references_here lo r roots (zeros map_words) e a (omega (arith, length_zeros map_words)));
          from_met = λ s r e one f. absurd (both_ways false refl e);
        }

-- at its end all that is live is met
at_end : (t roots m₀ : List ℕ) (lo kind : ℕ) (key : Key) (c : ℕ) (ls : List ℕ) (weight found : ℕ) (m : List ℕ) →
    At t roots m₀ lo kind key c ls weight found m → ((v : ℕ) → v < c → bit (map_of m) v ≡ false) →
    Marked t roots lo kind (key_words key) m₀ (walk lo 0 weight kind key found) m
at_end t roots m₀ lo kind key c ls weight found m a none =
    record {
      lives = ls;
      are_live = record { rise = a.met.rise; all = λ r x. all_met x; only = a.met.live };
      bits = λ u h. bits_are u h (cases_lt u c);
      map_small = a.met.tiny;
      weight_is = a.weighs;
      found_is =
          record {
            there = λ one. (a.met.live found (a.finds_in.there one).0, (a.finds_in.there one).1);
            nowhere = λ z r x. a.finds_in.nowhere z r (all_met x);
          };
      first_is = refl;
      keeps = a.keeps;
    }
  where
    settled : (r : ℕ) → Reached lo c ls (map_of m) r → has ls r ≡ true
    settled r (inl e) = e
    settled r (inr (u, h, e, b)) = absurd (both_ways (bit (map_of m) u) (none u h) b)

    all_met : {r : ℕ} → Live t roots r → has ls r ≡ true
    all_met (root r one e) = settled r (a.met.from_roots r one e)
    all_met (named r s one x e) = settled r (a.met.from_met s r (all_met x) one e)

    uncovered : (u : ℕ) → u < c → (s : ℕ) × In s ls × (takes t s (lo + u) ≡ true) → ⊥
    uncovered u h (s, i, b) =
        let x : s - 1 ≤ lo + u = leb-true (s - 1) (lo + u) (and_parts (leb (s - 1) (lo + u)) (ltb (lo + u) ((s - 1) + units_at t s)) b).0 in
        let y : lo + c < s = a.met.high s (in_has ls s i) in omega arith

    bits_are : (u : ℕ) → u < 8388608 → (u < c) ⊎ (c ≤ u) → bit (map_of m) u ≡ covered t ls (lo + u)
    bits_are u h (inl x) = none u x ∙ sym (false_unless (covered t ls (lo + u)) (λ e. uncovered u x (any_in (λ s. takes t s (lo + u)) ls e)))
    bits_are u h (inr x) = a.met.above u x h

-- one more is met
module _ (t roots m₀ : List ℕ) (lo hi kind : ℕ) (key : Key) (heap : Heap t lo hi roots) (fits : 8 * hi ≤ length t) (top : hi ≤ lo + 8388608) (short : length t < 18446744073709551616)
    (sort : (kind ≡ 0) ⊎ (keyed kind ≡ true)) (c u : ℕ) (ls : List ℕ) (weight found : ℕ) (m : List ℕ) (a : At t roots m₀ lo kind key c ls weight found m) (lt : u < c)
    (cap : c ≤ 8388608) (marked : bit (map_of m) u ≡ true) (none : (v : ℕ) → u < v → v < c → bit (map_of m) v ≡ false) (r : ℕ) (r_is : r ≡ lo + u + 1) where
  q : Placed t lo hi r
  q = placed_r t roots ls (map_of m) lo hi c u r heap top a.met lt cap marked none r_is

  next : Met t roots lo u (r ∷ ls) (next_map t lo u r (map_of m))
  next = met_next t roots ls (map_of m) lo hi c u r heap top a.met lt cap marked none r_is

  long_came : length (came t r m) ≡ bulk_cells
  long_came = length_came t m lo hi r q fits a.long

  map_is : map_met (walk lo u weight kind key found) (came t r m) ≡ next_map t lo u r (map_of m)
  map_is =
      ap (λ rs. with_references lo rs (run_from u (units (size_in (get_or (came t r m) 0 0))) (map_of (came t r m)))) (references_came t m lo hi r q fits a.long)
      ∙ ap (λ x. with_references lo (references_of (object_at t r)) (run_from u (units (size_in x)) (map_of (came t r m)))) (heading_came t m lo hi r q fits a.long)
      ∙ ap (next_map t lo u r) (map_came t m lo hi r q fits a.long)

  map_long : length (map_met (walk lo u weight kind key found) (came t r m)) ≡ map_words
  map_long = ap length map_is ∙ next.many

  found_is : found_now (walk lo u weight kind key found) (came t r m) ≡ pick (has_key kind (key_words key) (object_at t r)) r found
  found_is =
      let e : capped (capped (lo + u) + 1) ≡ r = omega (arith, q.within, q.whole) in
      ap₂ (λ b x. pick b x found) (sought_came t m lo hi r q fits a.long kind key sort) e

  weights_more : weights t (r ∷ ls) ≡ own_weight (object_at t r) + weights t ls
  unfolding added_up
  weights_more = refl

  at_next : At t roots m₀ lo kind key u (r ∷ ls) (capped (weight + get_or (came t r m) 1 0)) (found_now (walk lo u weight kind key found) (came t r m))
      (met_memory (walk lo u weight kind key found) (came t r m))
  at_next =
      record {
        met =
            subst (Met t roots lo u (r ∷ ls)) (sym (map_of_with_map (map_met (walk lo u weight kind key found) (came t r m)) (came t r m) map_long (omega (arith, long_came)) ∙ map_is))
            next;
        weighs = omega (arith, weights_more, weight_came t m lo hi r q fits a.long, a.weighs);
        finds_in = subst (Found t (r ∷ ls) kind key) (sym found_is) (found_next t ls kind key found r (omega arith) a.finds_in);
        keeps =
            keeps_on m₀ m (met_memory (walk lo u weight kind key found) (came t r m)) a.keeps
            (keeps_on m (came t r m) (met_memory (walk lo u weight kind key found) (came t r m)) (keeps_came t m lo hi r q fits a.long)
            (keeps_map (came t r m) (map_met (walk lo u weight kind key found) (came t r m)) map_long (omega (arith, long_came))));
        long = length_with_map (map_met (walk lo u weight kind key found) (came t r m)) (came t r m) map_long (omega (arith, long_came)) ∙ long_came;
      }

-- THE CODE'S STEPS
-- one more reference of the object in the buffer
references_end : (first r : ℕ) (rs ws : List ℕ) → with_references first (rs ++ r ∷ []) ws ≡ with_reference first r (with_references first rs ws)
unfolding with_references
references_end first r [] ws = refl
references_end first r (x ∷ rs) ws = references_end first r rs (with_reference first x ws)

length_references_met : (m : List ℕ) → plan_end ≤ length m → length (references_met m) ≡ min (references_in (get_or m 0 0)) 4096
length_references_met m h = length-take-le (min (references_in (get_or m 0 0)) 4096) (drop 2 m) (omega (arith, length-drop 2 m))

-- references that are marked one by one in a row whose front is the map
abbrev pub with_front : ℕ → List ℕ → List ℕ → List ℕ
with_front first rs xs = with_references first rs (take map_words xs) ++ drop map_words xs

pub mark_none : (first : ℕ) (rs xs : List ℕ) → xs ≡ with_front first (take 0 rs) xs
unfolding with_references
mark_none first rs xs = sym (take-append-drop map_words xs)

pub mark_more : (first i : ℕ) (rs xs ys ws : List ℕ) → map_words ≤ length xs → i < length rs → ys ≡ with_front first (take i rs) xs →
    ws ≡ with_reference first (get_or rs i 0) (take map_words ys) → ws ++ drop map_words ys ≡ with_front first (take (i + 1) rs) xs
mark_more first i rs xs ys ws h lt e f =
    ap₂ (λ a b. a ++ b)
    (f ∙ ap (λ z. with_reference first (get_or rs i 0) (take map_words z)) e ∙ ap (with_reference first (get_or rs i 0)) (take_at marked rest map_words long)
    ∙ sym (references_end first (get_or rs i 0) (take i rs) (take map_words xs)) ∙ ap (λ z. with_references first z (take map_words xs)) (sym (take_more rs i 0 lt)))
    (ap (drop map_words) e ∙ drop_at marked rest map_words long)
  where
    marked : List ℕ
    marked = with_references first (take i rs) (take map_words xs)

    rest : List ℕ
    rest = drop map_words xs

    long : length (with_references first (take i rs) (take map_words xs)) ≡ map_words
    long = length_with_references first (take i rs) (take map_words xs) ∙ length-take-le map_words xs h

pub mark_all : (first i many : ℕ) (m front xs ys : List ℕ) → plan_end ≤ length m → many ≡ min (references_in (get_or m 0 0)) 4096 → front ≡ take map_at m →
    xs ≡ drop map_at m → length (take many (drop 2 front)) ≤ i → ys ≡ with_front first (take i (take many (drop 2 front))) xs →
    front ++ ys ≡ with_map (with_references first (references_met m) (map_of m)) m
mark_all first i many m front xs ys h n f e le g =
    ap₂ (λ a b. a ++ b) f
    (g ∙ ap₂ (with_front first) (take_all i (take many (drop 2 front)) le ∙ items) e
    ∙ ap (λ z. with_references first (references_met m) (map_of m) ++ z) (drop-drop map_words map_at m ∙ ap (λ k. drop (map_at + k) m) (sym long)))
  where
    items : take many (drop 2 front) ≡ references_met m
    items = ap₂ (λ k z. take k (drop 2 z)) n f ∙ part_of_front (min (references_in (get_or m 0 0)) 4096) 2 map_at m (omega arith)

    long : length (with_references first (references_met m) (map_of m)) ≡ map_words
    long = length_with_references first (references_met m) (map_of m) ∙ length_map_of m h

-- references are marked on a map that was put before
references_stand : (ws m : List ℕ) → plan_end ≤ length m → references_met (with_map ws m) ≡ references_met m
references_stand ws m h =
    ap (λ x. take (min (references_in x) 4096) (drop 2 (with_map ws m))) (before_map ws m 0 (omega arith) h)
    ∙ part_before_map (min (references_in (get_or m 0 0)) 4096) 2 ws m (omega arith) h

pub marked_on : (first : ℕ) (ws m : List ℕ) → length ws ≡ map_words → plan_end ≤ length m →
    with_map (with_references first (references_met (with_map ws m)) (map_of (with_map ws m))) (with_map ws m) ≡ with_map (with_references first (references_met m) ws) m
marked_on first ws m l h =
    ap₂ (λ rs x. with_map (with_references first rs x) (with_map ws m)) (references_stand ws m h) (map_of_with_map ws m l h)
    ∙ with_map_again ws (with_references first (references_met m) ws) m l (length_with_references first (references_met m) ws ∙ l) h

-- the map before the walk is made root by root
pub begun_none : (first : ℕ) (m : List ℕ) → plan_end ≤ length m → unmarked m ≡ begun first [] m
unfolding with_references
begun_none first m h = pick_false (ltb (length m) plan_end) m (with_map (zeros map_words) m) (le-ltb (length m) plan_end h)

pub begun_more : (first r : ℕ) (rs m : List ℕ) → plan_end ≤ length m → rooted first r (begun first rs m) ≡ begun first (rs ++ r ∷ []) m
begun_more first r rs m h =
    pick_false (ltb (length (with_map ws m)) plan_end) (with_map ws m) (with_map (with_reference first r (map_of (with_map ws m))) (with_map ws m))
    (le-ltb (length (with_map ws m)) plan_end (omega (arith, length_with_map ws m l h)))
    ∙ ap (λ x. with_map (with_reference first r x) (with_map ws m)) (map_of_with_map ws m l h)
    ∙ with_map_again ws (with_reference first r ws) m l (length_with_reference first r ws ∙ l) h
    ∙ ap (λ x. with_map x m) (sym (references_end first r rs (zeros map_words)))
  where
    ws : List ℕ
    ws = with_references first rs (zeros map_words)

    l : length (with_references first rs (zeros map_words)) ≡ map_words
    l = length_with_references first rs (zeros map_words) ∙ length_zeros map_words

-- and from the head in its place, so many of its roots
-- the map as a write through its part of memory leaves it
pub put_reference : (first r : ℕ) (m ws : List ℕ) → plan_end ≤ length m → ws ≡ with_reference first r (map_of m) →
    put_mid map_at map_words m ws ≡ with_map (with_reference first r (map_of m)) m
put_reference first r m ws h e =
    put_map ws m (ap length e ∙ length_with_reference first r (map_of m) ∙ length_map_of m h) ∙ ap (λ xs. with_map xs m) e

-- roots marked one by one, in a memory of any length
abbrev pub roots_marked : ℕ → List ℕ → List ℕ → List ℕ
roots_marked first roots m = pick (ltb (length m) plan_end) m (begun first roots m)

pub roots_short : (first : ℕ) (rs m : List ℕ) → length m < plan_end → roots_marked first rs m ≡ m
roots_short first rs m h = pick_true (ltb (length m) plan_end) m (begun first rs m) (lt-ltb (length m) plan_end h)

pub roots_none : (first : ℕ) (m : List ℕ) → unmarked m ≡ roots_marked first [] m
unfolding with_references
roots_none first m = refl

pub roots_long : (first : ℕ) (rs m : List ℕ) → plan_end ≤ length m → roots_marked first rs m ≡ begun first rs m
roots_long first rs m h = pick_false (ltb (length m) plan_end) m (begun first rs m) (le-ltb (length m) plan_end h)

pub roots_more : (first r : ℕ) (rs m : List ℕ) → rooted first r (roots_marked first rs m) ≡ roots_marked first (rs ++ r ∷ []) m
roots_more first r rs m = go (cases_lt (length m) plan_end)
  where
    go : (length m < plan_end) ⊎ (plan_end ≤ length m) → rooted first r (roots_marked first rs m) ≡ roots_marked first (rs ++ r ∷ []) m
    go (inl h) =
        ap (rooted first r) (roots_short first rs m h)
        ∙ pick_true (ltb (length m) plan_end) m (with_map (with_reference first r (map_of m)) m) (lt-ltb (length m) plan_end h)
        ∙ sym (roots_short first (rs ++ r ∷ []) m h)
    go (inr h) = ap (rooted first r) (roots_long first rs m h) ∙ begun_more first r rs m h ∙ sym (roots_long first (rs ++ r ∷ []) m h)

-- what is looked for came, or it did not
pub found_here : (w : Walk) (m : List ℕ) (b : Bool) → b ≡ (eqb (kind_in (get_or m 0 0)) w.kind && same (key_met m) (key_words w.key)) → b ≡ true →
    found_now w m ≡ capped (capped (w.first + w.below) + 1)
found_here w m b e t =
    pick_true (eqb (kind_in (get_or m 0 0)) w.kind && same (key_met m) (key_words w.key)) (capped (capped (w.first + w.below) + 1)) w.found (sym e ∙ t)

pub found_before : (w : Walk) (m : List ℕ) (b : Bool) → b ≡ (eqb (kind_in (get_or m 0 0)) w.kind && same (key_met m) (key_words w.key)) → b ≡ false →
    found_now w m ≡ w.found
found_before w m b e t =
    pick_false (eqb (kind_in (get_or m 0 0)) w.kind && same (key_met m) (key_words w.key)) (capped (capped (w.first + w.below) + 1)) w.found (sym e ∙ t)

-- a memory that is too short is left alone
pub sought_short : (w : Walk) (m : List ℕ) → length m < plan_end → sought w m ≡ stride w m None
unfolding sought
sought_short w m h = pick_true (ltb (length m) plan_end) (stride w m None) (sought_at w m (highest (bit (map_of m)) w.below)) (lt-ltb (length m) plan_end h)

pub went_on_short : (w : Walk) (m : List ℕ) → length m < plan_end → went_on w m ≡ stride w m None
unfolding went_on
went_on_short w m h = pick_true (ltb (length m) plan_end) (stride w m None) (sought (met_walk w m) (met_memory w m)) (lt-ltb (length m) plan_end h)

-- THE WALK, in a memory that is long enough
pub sought_is : (w : Walk) (m : List ℕ) → plan_end ≤ length m → sought w m ≡ sought_at w m (highest (bit (map_of m)) w.below)
unfolding sought
sought_is w m h = pick_false (ltb (length m) plan_end) (stride w m None) (sought_at w m (highest (bit (map_of m)) w.below)) (le-ltb (length m) plan_end h)

pub went_on_is : (w : Walk) (m : List ℕ) → plan_end ≤ length m → went_on w m ≡ sought (met_walk w m) (met_memory w m)
unfolding went_on
went_on_is w m h = pick_false (ltb (length m) plan_end) (stride w m None) (sought (met_walk w m) (met_memory w m)) (le-ltb (length m) plan_end h)

module _ {K : Type 0} (Stop : List ℕ → List ℕ → Rows → Type 0) (End : K → List ℕ → List ℕ → List ℕ → ℕ → Rows → ℕ → Type 0) (p : Program K) (n : ℕ) (put : Walk → K)
    (back : Walk → List ℕ → Asked K) (walks : Walks p put back) (h t : List ℕ) (laid : ℕ) (ss : Rows) (roots m₀ : List ℕ) (lo hi kind : ℕ) (key : Key)
    (lo_is : lo ≡ 8 * first_page h) (tape : length t ≡ 64 * laid) (bounded : 64 * laid < 18446744073709551616) (within : hi ≤ 8 * laid) (top : hi ≤ lo + 8388608)
    (heap : Heap t lo hi roots) (sort : (kind ≡ 0) ⊎ (keyed kind ≡ true))
    (onward : (w₁ : Walk) (m₁ : List ℕ) → Marked t roots lo kind (key_words key) m₀ w₁ m₁ → Does p n Stop End (back w₁ m₁) h t laid ss) where
  -- from a cursor, once all below is known to go well, whatever the search finds
  turn : (c : ℕ) → c ≤ 8388608 → (ls : List ℕ) (weight found : ℕ) (m : List ℕ) → At t roots m₀ lo kind key c ls weight found m →
      ((u : ℕ) → u < c → (ls₁ : List ℕ) (weight₁ found₁ : ℕ) (m₁ : List ℕ) → At t roots m₀ lo kind key u ls₁ weight₁ found₁ m₁ →
      Does p n Stop End (walked put back (sought (walk lo u weight₁ kind key found₁) m₁)) h t laid ss) → (o : Option ℕ) → HighestIs (bit (map_of m)) c o →
      Does p n Stop End (walked put back (sought_at (walk lo c weight kind key found) m o)) h t laid ss
  turn c cap ls weight found m a below None none =
      onward (walk lo 0 weight kind key found) m (at_end t roots m₀ lo kind key c ls weight found m a none)
  turn c cap ls weight found m a below (Some u) (lt, marked, none) =
      let r : ℕ = lo + u + 1 in
      let place : Placed t lo hi r = q t roots m₀ lo hi kind key heap (omega arith) top (omega arith) sort c u ls weight found m a lt cap marked none r refl in
      let on : 8 * (r - 1) + size_in (heading_at t r) ≤ length t = on_tape t m lo hi r place (omega arith) a.long in
      let long : length (came t r m) ≡ bulk_cells = length_came t m lo hi r place (omega arith) a.long in
      let at_is : 8 * (r - 1) ≡ capped (8 * capped (lo + u)) = omega (arith, place.within, place.whole) in
      subst (λ x. Does p n Stop End (asked (put (walk lo u weight kind key found)) m (Object x glance)) h t laid ss) at_is
      (opens (asked (put (walk lo u weight kind key found)) m (Object (8 * (r - 1)) glance)) h t laid ss (8 * (r - 1)) glance refl (omega arith) (omega (arith, place.whole))
      (λ _.
      subst (λ x. Does p n Stop End x h t laid ss)
      (sym (walks (walk lo u weight kind key found) (came t r m) long ∙ ap (walked put back) (went_on_is (walk lo u weight kind key found) (came t r m) (omega arith))))
      (below u lt (r ∷ ls) (capped (weight + get_or (came t r m) 1 0)) (found_now (walk lo u weight kind key found) (came t r m))
      (met_memory (walk lo u weight kind key found) (came t r m))
      (at_next t roots m₀ lo hi kind key heap (omega arith) top (omega arith) sort c u ls weight found m a lt cap marked none r refl))))

  goes_from : (k c : ℕ) → c ≤ k → c ≤ 8388608 → (ls : List ℕ) (weight found : ℕ) (m : List ℕ) → At t roots m₀ lo kind key c ls weight found m →
      Does p n Stop End (walked put back (sought (walk lo c weight kind key found) m)) h t laid ss
  goes_from zero c le cap ls weight found m a =
      subst (λ s. Does p n Stop End (walked put back s) h t laid ss) (sym (sought_is (walk lo c weight kind key found) m (omega (arith, a.long))))
      (turn c cap ls weight found m a (λ u lt ls₁ weight₁ found₁ m₁ b. absurd (omega arith)) (highest (bit (map_of m)) c) (finds (bit (map_of m)) c 0).0)
  goes_from (suc k) c le cap ls weight found m a =
      subst (λ s. Does p n Stop End (walked put back s) h t laid ss) (sym (sought_is (walk lo c weight kind key found) m (omega (arith, a.long))))
      (turn c cap ls weight found m a (λ u lt ls₁ weight₁ found₁ m₁ b. goes_from k u (omega arith) (omega arith) ls₁ weight₁ found₁ m₁ b) (highest (bit (map_of m)) c)
      (finds (bit (map_of m)) c 0).0)

pub marks : {K : Type 0} (Stop : List ℕ → List ℕ → Rows → Type 0) (End : K → List ℕ → List ℕ → List ℕ → ℕ → Rows → ℕ → Type 0) → Marks Stop End
unfolding Marks
marks Stop End p n put back walks h t laid ss roots m below kind key tape bounded within cap long heap sort onward =
    goes_from Stop End p n put back walks h t laid ss roots m (8 * first_page h) (8 * first_page h + below) kind key refl tape bounded within (omega arith) heap sort onward
    below below (omega arith) cap [] 0 0 (begun (8 * first_page h) roots m) (at_start t roots m (8 * first_page h) below kind key heap cap long)
