-- What a sweep's code does, case by case. Assumes nothing.
use Rattle.std.proofs.Common.{◌≡◌, ℕ, ◌+◌, ◌-◌, ◌*◌, ◌%◌, ◌<◌, ◌≤◌, min, eqb, ltb, List, length, get_or, take, drop, Some, None, Option, sym, ap, ◌∙◌, ap₂, arith}
use Rattle.std.proofs.lemmas.Bool.{eq-eqb, ne_eqb, lt-ltb, le-ltb}
use Rattle.pages.specs.Machine.{capped}
use Rattle.pages.specs.Object.{references_in, size_in}
use Rattle.pages.specs.declared.machine.Request.TheVariants.{Lay}
use Rattle.pages.proofs.ListLaws.{pick_true, pick_false}
use Rattle.store.specs.Bitmap.{bit, lowest}
use Rattle.objects.specs.Heap.{units}
use Rattle.objects.specs.Marking.{begun, sought}
use Rattle.objects.specs.Packing.{filled, packed, pages_packed}
use Rattle.objects.specs.Plan.{head_at, map_of, plan_end}
use Rattle.objects.specs.Sweeping.{Swing, closing, copied, copying, copying_at, laying, marking, publishing, renaming, sweep, sweep_at, sweep_begun, sweep_went_on, swing, window_at, words_came}
use Rattle.objects.specs.declared.mark.Walk.{Walk}
use Rattle.objects.specs.declared.sweep.Stage.{Stage}
use Rattle.objects.specs.declared.sweep.Stage.TheVariants.{Closing, Laying}
use Rattle.objects.specs.declared.sweep.Sweep.{Sweep}
use Rattle.objects.proofs.PackSteps.{pages_packed_is}
use Rattle.objects.proofs.PlanLaws.{length_map_of}

pub closing_waits : (w : Walk) (at from page waiting : ℕ) (m : List ℕ) → (waiting ≡ 0 → ⊥) →
    swing (sweep Closing w at from (capped (page + 1)) 0) (filled waiting m) (Some (Lay page 1)) ≡ closing w at from page waiting m
closing_waits w at from page waiting m h =
    sym (pick_false (eqb waiting 0) (publishing w at from page m) (swing (sweep Closing w at from (capped (page + 1)) 0) (filled waiting m) (Some (Lay page 1)))
    (ne_eqb waiting 0 h))

pub laying_none : (w : Walk) (at from page waiting : ℕ) (m : List ℕ) (pages : ℕ) → pages ≡ 0 →
    copying w at from page waiting m ≡ laying w at from page waiting m pages
laying_none w at from page waiting m pages e =
    sym (pick_true (eqb pages 0) (copying w at from page waiting m) (swing (sweep Laying w at from (capped (page + pages)) waiting) m (Some (Lay page pages)))
    (eq-eqb pages 0 e))

pub laying_some : (w : Walk) (at from page waiting : ℕ) (m : List ℕ) (pages : ℕ) → (pages ≡ 0 → ⊥) →
    swing (sweep Laying w at from (capped (page + pages)) waiting) m (Some (Lay page pages)) ≡ laying w at from page waiting m pages
laying_some w at from page waiting m pages h =
    sym (pick_false (eqb pages 0) (copying w at from page waiting m) (swing (sweep Laying w at from (capped (page + pages)) waiting) m (Some (Lay page pages)))
    (ne_eqb pages 0 h))

-- an object came: what the code reads off it, and what it leaves
pub copied_came : (s : Sweep) (m : List ℕ) (n many : ℕ) (names x : List ℕ) (pages at one two : ℕ) → plan_end ≤ length m → n ≡ units (size_in (get_or m 0 0)) →
    many ≡ min (references_in (get_or m 0 0)) 4096 → names ≡ renaming s.walk.first s.from 2 many m → length names ≡ length m →
    x ≡ packed s.waiting (8 * n) names → pages ≡ pages_packed s.waiting (8 * n) names → at ≡ capped (s.at + n) →
    one ≡ min s.waiting 63 → two ≡ min (8 * n) 41024 → laying s.walk at s.from s.page ((one + two) % 64) x pages ≡ copied s m
copied_came s m n many names x pages at one two h e refs renamed l packs lays moved a b =
    ap₂ (λ i j. laying s.walk i s.from s.page j x pages) (moved ∙ ap (λ k. capped (s.at + k)) e)
    (ap₂ (λ i j. (i + j) % 64) a (b ∙ ap (λ k. min (8 * k) 41024) e))
    ∙ ap₂ (laying s.walk (capped (s.at + units (size_in (get_or m 0 0)))) s.from s.page ((min s.waiting 63 + min (words_came m) 41024) % 64))
    (packs ∙ ap₂ (λ k y. packed s.waiting (8 * k) y) e (renamed ∙ ap (λ k. renaming s.walk.first s.from 2 k m) refs))
    (lays ∙ pages_packed_is s.waiting (8 * n) names (omega arith) ∙ sym (pages_packed_is s.waiting (8 * n) m h)
    ∙ ap (λ k. pages_packed s.waiting (8 * k) m) e)

-- a memory that is too short is left alone
pub begun_short : (s : Sweep) (m : List ℕ) → length m < plan_end → swing s m None ≡ sweep_begun s m
unfolding sweep_begun
begun_short s m h =
    sym (pick_true (ltb (length m) plan_end) (swing s m None)
    (marking (get_or m 41153 0) (sought (window_at m) (begun (capped (8 * get_or m head_at 0)) (take 8 (drop 41154 m)) m))) (lt-ltb (length m) plan_end h))

pub begun_is : (s : Sweep) (m : List ℕ) → plan_end ≤ length m →
    marking (get_or m 41153 0) (sought (window_at m) (begun (capped (8 * get_or m head_at 0)) (take 8 (drop 41154 m)) m)) ≡ sweep_begun s m
unfolding sweep_begun
begun_is s m h =
    sym (pick_false (ltb (length m) plan_end) (swing s m None)
    (marking (get_or m 41153 0) (sought (window_at m) (begun (capped (8 * get_or m head_at 0)) (take 8 (drop 41154 m)) m))) (le-ltb (length m) plan_end h))

pub went_on_short : (s : Sweep) (m : List ℕ) → length m < plan_end → swing s m None ≡ sweep_went_on s m
unfolding sweep_went_on
went_on_short s m h = sym (pick_true (ltb (length m) plan_end) (swing s m None) (sweep_at s m s.stage) (lt-ltb (length m) plan_end h))

pub went_on_at : (s : Sweep) (m : List ℕ) (g : Stage) → plan_end ≤ length m → s.stage ≡ g → sweep_at s m g ≡ sweep_went_on s m
unfolding sweep_went_on
went_on_at s m g h e =
    ap (sweep_at s m) (sym e) ∙ sym (pick_false (ltb (length m) plan_end) (swing s m None) (sweep_at s m s.stage) (le-ltb (length m) plan_end h))

-- no object is left to be copied
pub copying_none : (w : Walk) (at from page waiting : ℕ) (m : List ℕ) (found : Option ℕ) → plan_end ≤ length m →
    found ≡ lowest (bit (map_of m)) (min (64 * length (map_of m)) 18446744073709551615 - at) at → found ≡ None →
    (v : Swing) → v ≡ closing w at from page waiting m → v ≡ copying w at from page waiting m
copying_none w at from page waiting m found h e none v closed =
    closed ∙ ap (copying_at w at from page waiting m) (sym none ∙ e ∙ ap (λ n. lowest (bit (map_of m)) n at) left)
  where
    left : min (64 * length (map_of m)) 18446744073709551615 - at ≡ 8388608 - at
    left = omega (arith, length_map_of m h)
