-- Numbers stay below 2^64 and memory keeps its length, whatever comes: in what walks and sweeps leave and ask for, and in what they write. Assumes nothing.
use Rattle.std.proofs.Common.{◌≡◌, ℕ, suc, ◌+◌, ◌-◌, ◌*◌, ◌%◌, ◌^◌, ◌<◌, ◌≤◌, min, true, ◌&&◌, eqb, ltb, List, [], ◌∷◌, ◌++◌, length, get_or, take, drop, set, Some, None, Option, refl, ap, ◌∙◌, arith, length-append, length-drop, length-take}
use Rattle.std.proofs.lemmas.Bool.{ltb-false}
use Rattle.pages.specs.Lists.{pick, each, same, zeros}
use Rattle.pages.specs.Words.{over, small}
use Rattle.pages.specs.Engine.{Housed, Small}
use Rattle.pages.specs.Machine.{Asked, capped, buffer_words}
use Rattle.pages.specs.Object.{size_in, references_in, kind_in}
use Rattle.pages.specs.declared.machine.Request.{Request}
use Rattle.pages.specs.declared.machine.Request.TheVariants.{Lay}
use Rattle.pages.proofs.ListLaws.{pick_both, length_each}
use Rattle.pages.proofs.WordLaws.{small_append, small_take, small_drop, small_zeros, small_over, small_from, small_get_or, length_over, length_zeros}
use Rattle.store.specs.Bitmap.{bit, highest, lowest, HighestIs, LowestIs}
use Rattle.store.proofs.BitLaws.{small_set, small_with_run, run_set, finds}
use Rattle.objects.specs.Plan.{rest_at, head_at, map_at, map_of, map_words, with_map, counts_at, counts_words, plan_end}
use Rattle.objects.specs.Heap.{units}
use Rattle.objects.specs.Ranks.{counts, tallied, ranked}
use Rattle.objects.specs.Packing.{gathered, pages_in, kept_back, packed, pages_packed, filled}
use Rattle.objects.specs.Marking.{Turn, Stride, stride, asked_on, with_references, run_from, begun, references_met, key_met, key_words, found_now, map_met, met_walk, met_memory, sought_at, sought, went_on, glance}
use Rattle.objects.specs.Sweeping.{swing, sweep, new_name, renaming, new_head, publishing, closing, copying_at, copying, words_came, under_new_names, laying, counted, marking, window_at, sweep_begun, sweep_at, sweep_went_on}
use Rattle.objects.specs.Cells.{stage_code, stage_in, walk_cells, walk_in, sweep_cells, sweep_in, asked_cells}
use Rattle.objects.specs.declared.mark.Walk.{Walk}
use Rattle.objects.specs.declared.sweep.Stage.{Stage}
use Rattle.objects.specs.declared.sweep.Stage.TheVariants.{Marking, Copying, Laying, Closing, Publishing}
use Rattle.objects.specs.declared.sweep.Sweep.{Sweep}
use Rattle.objects.proofs.CountLaws.{count_bounded}
use Rattle.objects.proofs.MarkLaws.{small_with_references, length_with_references}
use Rattle.objects.proofs.PlanLaws.{length_map_of}
use Rattle.objects.proofs.RankLaws.{count_at, length_counts, whole_counts}

-- all numbers that a turn leaves and asks with are below 2^64
pub record SmallTurn {S : Type 0} (cells : S → List ℕ) (v : Turn S) : Type 0 where
  pub state : small (cells v.state) ≡ true
  pub memory : small v.memory ≡ true
  pub request : small (asked_cells v.request) ≡ true

-- so many words, all below 2^64 if something holds
pub record Bounded (P : Type 0) (n : ℕ) (m : List ℕ) : Type 0 where
  pub long : length m ≡ n
  pub few : P → small m ≡ true

record Fits (P : Type 0) (n : ℕ) {S : Type 0} (cells : S → List ℕ) (v : Turn S) : Type 0 where
  long : length v.memory ≡ n
  few : P → SmallTurn cells v

pub bounded : (m : List ℕ) → Bounded (small m ≡ true) (length m) m
bounded m = record { long = refl; few = λ h. h }

-- ROWS
small_by : (xs : List ℕ) → ((i : ℕ) → i < length xs → get_or xs i 0 < 2 ^ 64) → small xs ≡ true
unfolding small
small_by [] h = refl
small_by (x ∷ xs) h = small_from x xs (h 0 (omega arith)) (small_by xs (λ i l. h (suc i) (omega arith)))

small_each : (f : ℕ → ℕ) (xs : List ℕ) → ((x : ℕ) → f x < 2 ^ 64) → small (each f xs) ≡ true
unfolding small
small_each f [] h = refl
small_each f (x ∷ xs) h = small_from (f x) (each f xs) (h x) (small_each f xs h)

small_counts : (ws : List ℕ) → length ws ≡ map_words → small ws ≡ true → small (counts counts_words ws) ≡ true
small_counts ws l h = small_by (counts counts_words ws) (λ i lt. one i (omega (arith, length_counts counts_words ws)))
  where
    one : (i : ℕ) → i < counts_words → get_or (counts counts_words ws) i 0 < 2 ^ 64
    one i lt = omega (arith, count_at counts_words i ws lt, whole_counts ws (8 * i) h (omega arith), count_bounded (bit ws) (64 * (8 * i)))

small_name : (first from : ℕ) (m : List ℕ) (r : ℕ) → new_name first from m r < 2 ^ 64
small_name first from m r =
    pick_both (λ v. v < 2 ^ 64) (ltb first r) (capped (capped (ranked m (r - 1 - first) + capped (8 * from)) + 1)) 0 (λ _. omega arith) (λ _. omega arith)

small_window : (m : List ℕ) → small (walk_cells (window_at m)) ≡ true
unfolding zeros
small_window m =
    small_set (set (zeros 9) 0 (capped (8 * get_or m head_at 0))) 1 (capped (8 * (get_or m 41153 0 - get_or m head_at 0)))
    (small_set (zeros 9) 0 (capped (8 * get_or m head_at 0)) (small_zeros 9) (omega arith)) (omega arith)

-- CELLS
small_code : (g : Stage) → stage_code g < 2 ^ 64
small_code Marking = omega arith
small_code Copying = omega arith
small_code Laying = omega arith
small_code Closing = omega arith
small_code Publishing = omega arith

pub small_sweep : (g : Stage) (w : Walk) (at from page waiting : ℕ) → small (walk_cells w) ≡ true → at < 2 ^ 64 → from < 2 ^ 64 → page < 2 ^ 64 → waiting < 2 ^ 64 →
    small (sweep_cells (sweep g w at from page waiting)) ≡ true
small_sweep g w at from page waiting c ac fc pc wc =
    small_from (stage_code g) (at ∷ from ∷ page ∷ waiting ∷ walk_cells w) (small_code g)
    (small_from at (from ∷ page ∷ waiting ∷ walk_cells w) ac
    (small_from from (page ∷ waiting ∷ walk_cells w) fc (small_from page (waiting ∷ walk_cells w) pc (small_from waiting (walk_cells w) wc c))))

-- laying so many pages from one on
small_lay : (page pages : ℕ) → page < 2 ^ 64 → pages < 2 ^ 64 → small (page ∷ pages ∷ []) ≡ true
unfolding small
small_lay page pages a b = small_from page (pages ∷ []) a (small_from pages [] b refl)

-- what was saved is loaded, and what is loaded is small
pub stage_kept : (g : Stage) → stage_in (stage_code g) ≡ g
stage_kept Marking = refl
stage_kept Copying = refl
stage_kept Laying = refl
stage_kept Closing = refl
stage_kept Publishing = refl

pub sweep_kept : (s : Sweep) → sweep_in (sweep_cells s) ≡ s
sweep_kept s = ap (λ g. sweep g s.walk s.at s.from s.page s.waiting) (stage_kept s.stage)

pub small_walk_in : (cs : List ℕ) → small cs ≡ true → small (walk_cells (walk_in cs)) ≡ true
small_walk_in cs h = small_each (λ i. get_or cs i 0) (0 ∷ 1 ∷ 2 ∷ 3 ∷ 4 ∷ 5 ∷ 6 ∷ 7 ∷ 8 ∷ []) (λ i. small_get_or cs i h)

pub small_sweep_in : (cs : List ℕ) → small cs ≡ true → small (sweep_cells (sweep_in cs)) ≡ true
small_sweep_in cs h =
    small_sweep (stage_in (get_or cs 0 0)) (walk_in (take 9 (drop 5 cs))) (get_or cs 1 0) (get_or cs 2 0) (get_or cs 3 0) (get_or cs 4 0)
    (small_walk_in (take 9 (drop 5 cs)) (small_take 9 (drop 5 cs) (small_drop 5 cs h))) (small_get_or cs 1 h) (small_get_or cs 2 h) (small_get_or cs 3 h) (small_get_or cs 4 h)

module _ (P : Type 0) (n : ℕ) where
  -- MEMORY
  -- with no room for the plan, and with room
  roomy : {A : Type 0} (Q : A → Type 0) (m : List ℕ) (x y : A) → length m ≡ n → Q x → (plan_end ≤ n → Q y) → Q (pick (ltb (length m) plan_end) x y)
  roomy Q m x y l short long =
      pick_both Q (ltb (length m) plan_end) x y (λ _. short) (λ e. let r : plan_end ≤ length m = ltb-false (length m) plan_end e in long (omega arith))

  pub bounded_over : (g : ℕ) (new m : List ℕ) → g + length new ≤ n → (P → small new ≡ true) → Bounded P n m → Bounded P n (over g new m)
  bounded_over g new m fits h b =
      record { long = length_over g new m (omega (arith, b.long)) ∙ b.long; few = λ p. small_over g new m (h p) (b.few p) }

  pub bounded_map : (ws m : List ℕ) → plan_end ≤ n → length ws ≡ map_words → (P → small ws ≡ true) → Bounded P n m → Bounded P n (with_map ws m)
  bounded_map ws m room l h b = bounded_over map_at ws m (omega arith) h b

  pub bounded_begun : (first : ℕ) (roots m : List ℕ) → plan_end ≤ n → Bounded P n m → Bounded P n (begun first roots m)
  bounded_begun first roots m room b =
      bounded_map (with_references first roots (zeros map_words)) m room (length_with_references first roots (zeros map_words) ∙ length_zeros map_words)
      (λ _. small_with_references first roots (zeros map_words) (small_zeros map_words)) b

  pub bounded_renaming : (first from at many : ℕ) (m : List ℕ) → at ≤ n → Bounded P n m → Bounded P n (renaming first from at many m)
  bounded_renaming first from at many m fits b =
      bounded_over at (each (new_name first from m) (take many (drop at m))) m
      (omega (arith, length_each (new_name first from m) (take many (drop at m)), length-take many (drop at m), length-drop at m, b.long))
      (λ _. small_each (new_name first from m) (take many (drop at m)) (small_name first from m)) b

  pub bounded_packed : (waiting words : ℕ) (m : List ℕ) → Bounded P n m → Bounded P n (packed waiting words m)
  unfolding packed
  bounded_packed waiting words m b =
      roomy (Bounded P n) m m (kept_back (pages_in waiting words) (over 0 (gathered waiting words m) m)) b.long b
      (λ room.
      let front : Bounded P n (over 0 (gathered waiting words m) m) =
      bounded_over 0 (gathered waiting words m) m (omega (arith, gathered_length))
      (λ p. small_append (take (min waiting 63) (drop rest_at m)) (take (min words 41024) m) (small_take (min waiting 63) (drop rest_at m) (small_drop rest_at m (b.few p)))
      (small_take (min words 41024) m (b.few p))) b in
      let all : List ℕ = over 0 (gathered waiting words m) m in
      bounded_over rest_at (take 64 (drop (64 * pages_in waiting words) all)) all
      (omega (arith, length-take 64 (drop (64 * pages_in waiting words) all)))
      (λ p. small_take 64 (drop (64 * pages_in waiting words) all) (small_drop (64 * pages_in waiting words) all (front.few p))) front)
    where
      gathered_length : length (gathered waiting words m) ≤ 41087
      gathered_length =
          omega (
            arith,
            length-append (take (min waiting 63) (drop rest_at m)) (take (min words 41024) m),
            length-take (min waiting 63) (drop rest_at m),
            length-take (min words 41024) m,
          )

  pub bounded_filled : (waiting : ℕ) (m : List ℕ) → Bounded P n m → Bounded P n (filled waiting m)
  unfolding filled
  bounded_filled waiting m b =
      roomy (Bounded P n) m m (over 0 (take (min waiting 63) (drop rest_at m) ++ zeros (64 - min waiting 63)) m) b.long b
      (λ room. bounded_over 0 (take (min waiting 63) (drop rest_at m) ++ zeros (64 - min waiting 63)) m
      (omega (
        arith,
        length-append (take (min waiting 63) (drop rest_at m)) (zeros (64 - min waiting 63)),
        length-take (min waiting 63) (drop rest_at m),
        length_zeros (64 - min waiting 63),
      ))
      (λ p. small_append (take (min waiting 63) (drop rest_at m)) (zeros (64 - min waiting 63))
      (small_take (min waiting 63) (drop rest_at m) (small_drop rest_at m (b.few p))) (small_zeros (64 - min waiting 63))) b)

  pub bounded_tallied : (m : List ℕ) → Bounded P n m → Bounded P n (tallied m)
  unfolding tallied
  bounded_tallied m b =
      roomy (Bounded P n) m m (over counts_at (counts counts_words (map_of m)) m) b.long b
      (λ room. bounded_over counts_at (counts counts_words (map_of m)) m (omega (arith, length_counts counts_words (map_of m)))
      (λ p. small_counts (map_of m) (length_map_of m (omega (arith, b.long))) (small_take map_words (drop map_at m) (small_drop map_at m (b.few p)))) b)

  pub bounded_new_head : (first from page : ℕ) (m : List ℕ) → 32 ≤ n → (P → from < 2 ^ 64) → (P → page < 2 ^ 64) → Bounded P n m →
      Bounded P n (new_head first from page m)
  bounded_new_head first from page m fits fc pc b =
      bounded_renaming first from 2 8 (over 0 (from ∷ page ∷ rest) m) (omega arith)
      (bounded_over 0 (from ∷ page ∷ rest) m (omega (arith, length-drop 2 (take 32 (drop head_at m)), length-take 32 (drop head_at m)))
      (λ p. small_from from (page ∷ rest) (fc p) (small_from page rest (pc p) (small_drop 2 (take 32 (drop head_at m)) (small_take 32 (drop head_at m) (small_drop head_at m (b.few p)))))) b)
    where
      rest : List ℕ
      rest = drop 2 (take 32 (drop head_at m))

  -- THE WALK
  fits_sought : (w : Walk) (m : List ℕ) → (P → small (walk_cells w) ≡ true) → Bounded P n m → Fits P n walk_cells (sought w m)
  unfolding sought small
  fits_sought w m c b =
      roomy (Fits P n walk_cells) m (stride w m None) (sought_at w m (highest (bit (map_of m)) w.below)) b.long
      (record { long = b.long; few = λ p. record { state = c p; memory = b.few p; request = refl } })
      (λ _. go (highest (bit (map_of m)) w.below) (finds (bit (map_of m)) w.below 0).0)
    where
      go : (o : Option ℕ) → HighestIs (bit (map_of m)) w.below o → Fits P n walk_cells (sought_at w m o)
      go None h =
          record { long = b.long; few = λ p. record { state = small_set (walk_cells w) 1 0 (c p) (omega arith); memory = b.few p; request = refl } }
      go (Some u) (lt, _, _) =
          record {
            long = b.long;
            few =
                λ p. record {
                  state = small_set (walk_cells w) 1 u (c p) (omega (arith, small_get_or (walk_cells w) 1 (c p)));
                  memory = b.few p;
                  request = small_from (capped (8 * capped (w.first + u))) (glance ∷ []) (omega arith) (small_from glance [] (omega arith) refl);
                };
          }

  small_met : (w : Walk) (m : List ℕ) → small (walk_cells w) ≡ true → small (walk_cells (met_walk w m)) ≡ true
  small_met w m c =
      small_set (set (walk_cells w) 2 (capped (w.weight + get_or m 1 0))) 8 (found_now w m)
      (small_set (walk_cells w) 2 (capped (w.weight + get_or m 1 0)) c (omega arith))
      (pick_both (λ v. v < 2 ^ 64) (eqb (kind_in (get_or m 0 0)) w.kind && same (key_met m) (key_words w.key)) (capped (capped (w.first + w.below) + 1)) w.found
      (λ _. omega arith) (λ _. small_get_or (walk_cells w) 8 c))

  bounded_met : (w : Walk) (m : List ℕ) → plan_end ≤ n → Bounded P n m → Bounded P n (met_memory w m)
  bounded_met w m room b =
      bounded_map (map_met w m) m room
      (length_with_references w.first (references_met m) run ∙ (run_set many (map_of m) w.below 0).2 ∙ length_map_of m (omega (arith, b.long)))
      (λ p. small_with_references w.first (references_met m) run (small_with_run many w.below (map_of m) (small_take map_words (drop map_at m) (small_drop map_at m (b.few p)))))
      b
    where
      many : ℕ
      many = min (w.below + units (size_in (get_or m 0 0))) 18446744073709551615 - w.below

      run : List ℕ
      run = run_from w.below (units (size_in (get_or m 0 0))) (map_of m)

  fits_went_on : (w : Walk) (m : List ℕ) → (P → small (walk_cells w) ≡ true) → Bounded P n m → Fits P n walk_cells (went_on w m)
  unfolding went_on small
  fits_went_on w m c b =
      roomy (Fits P n walk_cells) m (stride w m None) (sought (met_walk w m) (met_memory w m)) b.long
      (record { long = b.long; few = λ p. record { state = c p; memory = b.few p; request = refl } })
      (λ room. fits_sought (met_walk w m) (met_memory w m) (λ p. small_met w m (c p)) (bounded_met w m room b))

  -- THE SWEEP
  module _ (room : plan_end ≤ n) (w : Walk) (from : ℕ) (wc : P → small (walk_cells w) ≡ true) (fc : P → from < 2 ^ 64) where
    fits_publishing : (at page : ℕ) (m : List ℕ) → (P → at < 2 ^ 64) → (P → page < 2 ^ 64) → Bounded P n m → Fits P n sweep_cells (publishing w at from page m)
    unfolding small
    fits_publishing at page m ac pc b =
        let h : Bounded P n (new_head w.first from page m) = bounded_new_head w.first from page m (omega arith) fc pc b in
        record {
          long = h.long;
          few =
              λ p. record {
                state = small_sweep Publishing w at from page 0 (wc p) (ac p) (fc p) (pc p) (omega arith);
                memory = h.few p;
                request = refl;
              };
        }

    fits_closing : (at page waiting : ℕ) (m : List ℕ) → (P → at < 2 ^ 64) → (P → page < 2 ^ 64) → Bounded P n m → Fits P n sweep_cells (closing w at from page waiting m)
    fits_closing at page waiting m ac pc b =
        let h : Bounded P n (filled waiting m) = bounded_filled waiting m b in
        pick_both (Fits P n sweep_cells) (eqb waiting 0) (publishing w at from page m)
        (swing (sweep Closing w at from (capped (page + 1)) 0) (filled waiting m) (Some (Lay page 1))) (λ _. fits_publishing at page m ac pc b)
        (λ _. record {
          long = h.long;
          few =
              λ p. record {
                state = small_sweep Closing w at from (capped (page + 1)) 0 (wc p) (ac p) (fc p) (omega arith) (omega arith);
                memory = h.few p;
                request = small_lay page 1 (pc p) (omega arith);
              };
        })

    fits_copying : (at page waiting : ℕ) (m : List ℕ) → (P → at < 2 ^ 64) → (P → page < 2 ^ 64) → (P → waiting < 2 ^ 64) → Bounded P n m →
        Fits P n sweep_cells (copying w at from page waiting m)
    unfolding small
    fits_copying at page waiting m ac pc tc b = go (lowest (bit (map_of m)) (8388608 - at) at) (finds (bit (map_of m)) (8388608 - at) at).1
      where
        go : (o : Option ℕ) → LowestIs (bit (map_of m)) (8388608 - at) at o → Fits P n sweep_cells (copying_at w at from page waiting m o)
        go None h = fits_closing at page waiting m ac pc b
        go (Some u) (le, lt, _, _) =
            record {
              long = b.long;
              few =
                  λ p. record {
                    state = small_sweep Copying w u from page waiting (wc p) (omega arith) (fc p) (pc p) (tc p);
                    memory = b.few p;
                    request = small_from (capped (8 * capped (w.first + u))) (buffer_words ∷ []) (omega arith) (small_from buffer_words [] (omega arith) refl);
                  };
            }

    fits_laying : (at page waiting : ℕ) (m : List ℕ) (pages : ℕ) → (P → at < 2 ^ 64) → (P → page < 2 ^ 64) → (P → waiting < 2 ^ 64) → pages < 2 ^ 64 → Bounded P n m →
        Fits P n sweep_cells (laying w at from page waiting m pages)
    fits_laying at page waiting m pages ac pc tc lc b =
        pick_both (Fits P n sweep_cells) (eqb pages 0) (copying w at from page waiting m)
        (swing (sweep Laying w at from (capped (page + pages)) waiting) m (Some (Lay page pages))) (λ _. fits_copying at page waiting m ac pc tc b)
        (λ _. record {
          long = b.long;
          few =
              λ p. record {
                state = small_sweep Laying w at from (capped (page + pages)) waiting (wc p) (ac p) (fc p) (omega arith) (tc p);
                memory = b.few p;
                request = small_lay page pages (pc p) lc;
              };
        })

  small_pages : (waiting words : ℕ) (m : List ℕ) → pages_packed waiting words m < 2 ^ 64
  unfolding pages_packed
  small_pages waiting words m =
      pick_both (λ v. v < 2 ^ 64) (ltb (length m) plan_end) 0 (pages_in waiting words) (λ _. omega arith) (λ _. omega arith)

  fits_marking : (last : ℕ) (v : Stride) → plan_end ≤ n → (P → last < 2 ^ 64) → Fits P n walk_cells v → Fits P n sweep_cells (marking last v)
  fits_marking last v room lc f = go v.request (λ p. (f.few p).request)
    where
      go : (q : Option Request) → (P → small (asked_cells q) ≡ true) →
          Fits P n sweep_cells (elim q [ None ↦ counted v.state last v.memory | Some r ↦ swing (sweep Marking v.state 0 last last 0) v.memory (Some r) ])
      go None h =
          fits_copying room v.state last (λ p. (f.few p).state) lc 0 last 0 (tallied v.memory) (λ _. omega arith) lc (λ _. omega arith)
          (bounded_tallied v.memory (record { long = f.long; few = λ p. (f.few p).memory }))
      go (Some r) h =
          record {
            long = f.long;
            few =
                λ p. record {
                  state = small_sweep Marking v.state 0 last last 0 (f.few p).state (omega arith) (lc p) (lc p) (omega arith);
                  memory = (f.few p).memory;
                  request = h p;
                };
          }

  fits_begun : (s : Sweep) (m : List ℕ) → (P → small (sweep_cells s) ≡ true) → Bounded P n m → Fits P n sweep_cells (sweep_begun s m)
  unfolding sweep_begun small
  fits_begun s m c b =
      roomy (Fits P n sweep_cells) m (swing s m None)
      (marking (get_or m 41153 0) (sought (window_at m) (begun (capped (8 * get_or m head_at 0)) (take 8 (drop 41154 m)) m))) b.long
      (record { long = b.long; few = λ p. record { state = c p; memory = b.few p; request = refl } })
      (λ room. fits_marking (get_or m 41153 0) (sought (window_at m) (begun (capped (8 * get_or m head_at 0)) (take 8 (drop 41154 m)) m)) room
      (λ p. small_get_or m 41153 (b.few p))
      (fits_sought (window_at m) (begun (capped (8 * get_or m head_at 0)) (take 8 (drop 41154 m)) m) (λ _. small_window m)
      (bounded_begun (capped (8 * get_or m head_at 0)) (take 8 (drop 41154 m)) m room b)))

  module _ (room : plan_end ≤ n) (s : Sweep) (m : List ℕ) (c : P → small (sweep_cells s) ≡ true) (b : Bounded P n m) where
    wc : P → small (walk_cells s.walk) ≡ true
    wc p = small_drop 5 (sweep_cells s) (c p)

    ac : P → s.at < 2 ^ 64
    ac p = small_get_or (sweep_cells s) 1 (c p)

    fc : P → s.from < 2 ^ 64
    fc p = small_get_or (sweep_cells s) 2 (c p)

    pc : P → s.page < 2 ^ 64
    pc p = small_get_or (sweep_cells s) 3 (c p)

    tc : P → s.waiting < 2 ^ 64
    tc p = small_get_or (sweep_cells s) 4 (c p)

    fits_at : (g : Stage) → Fits P n sweep_cells (sweep_at s m g)
    unfolding small
    fits_at Marking = fits_marking s.from (went_on s.walk m) room fc (fits_went_on s.walk m wc b)
    fits_at Copying =
        fits_laying room s.walk s.from wc fc (capped (s.at + units (size_in (get_or m 0 0)))) s.page ((min s.waiting 63 + min (words_came m) 41024) % 64)
        (packed s.waiting (words_came m) (under_new_names s.walk s.from m)) (pages_packed s.waiting (words_came m) m) (λ _. omega arith) pc (λ _. omega arith)
        (small_pages s.waiting (words_came m) m)
        (bounded_packed s.waiting (words_came m) (under_new_names s.walk s.from m)
        (bounded_renaming s.walk.first s.from 2 (min (references_in (get_or m 0 0)) 4096) m (omega arith) b))
    fits_at Laying = fits_copying room s.walk s.from wc fc s.at s.page s.waiting m ac pc tc b
    fits_at Closing = fits_publishing room s.walk s.from wc fc s.at s.page m ac pc b
    fits_at Publishing = record { long = b.long; few = λ p. record { state = c p; memory = b.few p; request = refl } }

  fits_swung : (s : Sweep) (m : List ℕ) → (P → small (sweep_cells s) ≡ true) → Bounded P n m → Fits P n sweep_cells (sweep_went_on s m)
  unfolding sweep_went_on small
  fits_swung s m c b =
      roomy (Fits P n sweep_cells) m (swing s m None) (sweep_at s m s.stage) b.long
      (record { long = b.long; few = λ p. record { state = c p; memory = b.few p; request = refl } }) (λ room. fits_at room s m c b s.stage)

-- WHAT A CLIENT CITES
module _ {S : Type 0} (cells : S → List ℕ) (turn : S → List ℕ → Turn S)
    (fits : (P : Type 0) (n : ℕ) (s : S) (m : List ℕ) → (P → small (cells s) ≡ true) → Bounded P n m → Fits P n cells (turn s m)) where
  turn_length : (s : S) (m : List ℕ) → length (turn s m).memory ≡ length m
  turn_length s m = (fits ⊥ (length m) s m (λ p. absurd p) (record { long = refl; few = λ p. absurd p })).long

  turn_small : (s : S) (m : List ℕ) → small (cells s) ≡ true → small m ≡ true → SmallTurn cells (turn s m)
  turn_small s m c h = (fits (small m ≡ true) (length m) s m (λ _. c) (bounded m)).few h

pub sought_length : (w : Walk) (m : List ℕ) → length (sought w m).memory ≡ length m
sought_length = turn_length walk_cells sought fits_sought

pub sought_small : (w : Walk) (m : List ℕ) → small (walk_cells w) ≡ true → small m ≡ true → SmallTurn walk_cells (sought w m)
sought_small = turn_small walk_cells sought fits_sought

pub went_on_length : (w : Walk) (m : List ℕ) → length (went_on w m).memory ≡ length m
went_on_length = turn_length walk_cells went_on fits_went_on

pub went_on_small : (w : Walk) (m : List ℕ) → small (walk_cells w) ≡ true → small m ≡ true → SmallTurn walk_cells (went_on w m)
went_on_small = turn_small walk_cells went_on fits_went_on

pub sweep_begun_length : (s : Sweep) (m : List ℕ) → length (sweep_begun s m).memory ≡ length m
sweep_begun_length = turn_length sweep_cells sweep_begun fits_begun

pub sweep_begun_small : (s : Sweep) (m : List ℕ) → small (sweep_cells s) ≡ true → small m ≡ true → SmallTurn sweep_cells (sweep_begun s m)
sweep_begun_small = turn_small sweep_cells sweep_begun fits_begun

pub sweep_went_on_length : (s : Sweep) (m : List ℕ) → length (sweep_went_on s m).memory ≡ length m
sweep_went_on_length = turn_length sweep_cells sweep_went_on fits_swung

pub sweep_went_on_small : (s : Sweep) (m : List ℕ) → small (sweep_cells s) ≡ true → small m ≡ true → SmallTurn sweep_cells (sweep_went_on s m)
sweep_went_on_small = turn_small sweep_cells sweep_went_on fits_swung

pub begun_length : (first : ℕ) (roots m : List ℕ) → plan_end ≤ length m → length (begun first roots m) ≡ length m
begun_length first roots m room = (bounded_begun (small m ≡ true) (length m) first roots m room (bounded m)).long

pub begun_small : (first : ℕ) (roots m : List ℕ) → plan_end ≤ length m → small m ≡ true → small (begun first roots m) ≡ true
begun_small first roots m room h = (bounded_begun (small m ≡ true) (length m) first roots m room (bounded m)).few h

-- a client that puts a turn's state in its cells, and goes on when nothing is asked for
module _ {S K : Type 0} (put : S → K) (back : S → List ℕ → Asked K) where
  pub asked_on_length : (s : S) (m : List ℕ) (q : Option Request) → length (back s m).memory ≡ length m → length (asked_on put back s m q).memory ≡ length m
  asked_on_length s m None h = h
  asked_on_length s m (Some q) h = refl

  pub asked_on_small : (f : Housed K) (cells : S → List ℕ) (v : Turn S) → SmallTurn cells v → ((s : S) → small (cells s) ≡ true → small (f.save (put s)) ≡ true) →
      ((s : S) (m : List ℕ) → small (cells s) ≡ true → small m ≡ true → Small f (back s m)) → Small f (asked_on put back v.state v.memory v.request)
  asked_on_small f cells v t saves goes = go v.request t.request
    where
      go : (q : Option Request) → small (asked_cells q) ≡ true → Small f (asked_on put back v.state v.memory q)
      go None h = goes v.state v.memory t.state t.memory
      go (Some q) h = record { state = saves v.state t.state; memory = t.memory; request = h }
