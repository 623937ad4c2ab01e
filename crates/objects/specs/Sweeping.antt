-- Sweeping: what the head's roots reach is marked; then going up each live object is copied behind all others, its references renamed, and the head is
-- published with a window that has the copies only. An object's new unit is the first new one and the number of marked units below its old one.
-- Assumes nothing: these are definitions.
use Rattle.std.specs.Prelude.{◌≡◌, ℕ, ◌+◌, ◌-◌, ◌*◌, ◌/◌, ◌%◌, ◌<◌, ◌≤◌, min, List, ◌∷◌, ◌++◌, length, take, drop, Some, None, Option, ◌==◌, nat_lt, slice_index}
use Rattle.pages.specs.Lists.{pick, each, added_up}
use Rattle.pages.specs.Words.{over}
use Rattle.pages.specs.Crash.{Rows}
use Rattle.pages.specs.Engine.{bulk_cells}
use Rattle.pages.specs.Machine.{Asked, Program, capped, buffer_words}
use Rattle.pages.specs.Object.{size_in, references_in, references_of, data_of, object_at}
use Rattle.pages.specs.Tape.{first_page, last_page, Window, Does}
use Rattle.pages.specs.declared.machine.Request.{Request}
use Rattle.pages.specs.declared.machine.Request.TheVariants.{Object, Lay, Publish}
use Rattle.store.specs.Bitmap.{bit, lowest}
use Rattle.objects.specs.Ranks.{ranked, tallied}
use Rattle.objects.specs.Plan.{map_of, head_at, plan_end}
use Rattle.objects.specs.Heap.{Live, Heap, Lives, units, units_at}
use Rattle.objects.specs.Packing.{packed, pages_packed, filled}
use Rattle.objects.specs.Marking.{Turn, Stride, asked_on, key, walk, begun, sought, went_on}
use Rattle.objects.specs.declared.mark.Walk.{Walk}
use Rattle.objects.specs.declared.sweep.Sweep.{Sweep}
use Rattle.objects.specs.declared.sweep.Stage.{Stage}
use Rattle.objects.specs.declared.sweep.Stage.TheVariants.{Marking, Copying, Laying, Closing, Publishing}

-- the head's references, from its third word on
abbrev pub roots_of : List ℕ → List ℕ
roots_of h = take 8 (drop 2 h)

-- an object under new names
abbrev pub renamed : (ℕ → ℕ) → List ℕ → List ℕ
renamed f o = take 2 o ++ (each f (references_of o) ++ data_of o)

-- the new name of a reference into a window that starts at a unit, if copies are laid from a page on; none stays none
abbrev pub new_name : ℕ → ℕ → List ℕ → ℕ → ℕ
new_name first from m r = pick (nat_lt first r) (capped (capped (ranked m (r - 1 - first) + capped (8 * from)) + 1)) 0

-- so many words of memory under new names
abbrev pub renaming : ℕ → ℕ → ℕ → ℕ → List ℕ → List ℕ
renaming first from at many m = over at (each (new_name first from m) (take many (drop at m))) m

abbrev pub sweep : Stage → Walk → ℕ → ℕ → ℕ → ℕ → Sweep
sweep g w at from page waiting = record { stage = g; walk = w; at = at; from = from; page = page; waiting = waiting }

-- a sweep's state, memory, and what is asked for: none when it is done
abbrev pub Swing : Type 0
Swing = Turn Sweep

abbrev pub swing : Sweep → List ℕ → Option Request → Swing
swing s m q = record { state = s; memory = m; request = q }

-- all is copied: the new head
abbrev pub new_head : ℕ → ℕ → ℕ → List ℕ → List ℕ
new_head first from page m = renaming first from 2 8 (over 0 (from ∷ page ∷ drop 2 (take 32 (drop head_at m))) m)

abbrev pub publishing : Walk → ℕ → ℕ → ℕ → List ℕ → Swing
publishing w at from page m = swing (sweep Publishing w at from page 0) (new_head w.first from page m) (Some Publish)

abbrev pub closing : Walk → ℕ → ℕ → ℕ → ℕ → List ℕ → Swing
closing w at from page waiting m =
    pick (waiting == 0) (publishing w at from page m)
    (swing (sweep Closing w at from (capped (page + 1)) 0) (filled waiting m) (Some (Lay page 1)))

-- the next object to be copied
abbrev pub copying_at : Walk → ℕ → ℕ → ℕ → ℕ → List ℕ → Option ℕ → Swing
copying_at w at from page waiting m None = closing w at from page waiting m
copying_at w at from page waiting m (Some u) =
    swing (sweep Copying w u from page waiting) m (Some (Object (capped (8 * capped (w.first + u))) buffer_words))

abbrev pub copying : Walk → ℕ → ℕ → ℕ → ℕ → List ℕ → Swing
copying w at from page waiting m = copying_at w at from page waiting m (lowest (bit (map_of m)) (8388608 - at) at)

-- an object came: it is packed behind what waits
abbrev pub words_came : List ℕ → ℕ
words_came m = 8 * units (size_in (slice_index m 0))

abbrev pub under_new_names : Walk → ℕ → List ℕ → List ℕ
under_new_names w from m = renaming w.first from 2 (min (references_in (slice_index m 0)) 4096) m

abbrev pub laying : Walk → ℕ → ℕ → ℕ → ℕ → List ℕ → ℕ → Swing
laying w at from page waiting m pages =
    pick (pages == 0) (copying w at from page waiting m)
    (swing (sweep Laying w at from (capped (page + pages)) waiting) m (Some (Lay page pages)))

abbrev pub copied : Sweep → List ℕ → Swing
copied s m =
    laying s.walk (capped (s.at + units (size_in (slice_index m 0)))) s.from s.page ((min s.waiting 63 + min (words_came m) 41024) % 64)
    (packed s.waiting (words_came m) (under_new_names s.walk s.from m)) (pages_packed s.waiting (words_came m) m)

-- what is live is marked: its units are counted, and copying begins behind the window's last page
abbrev pub counted : Walk → ℕ → List ℕ → Swing
counted w last m = copying w 0 last last 0 (tallied m)

abbrev pub marking : ℕ → Stride → Swing
marking last s = elim s.request [ None ↦ counted s.state last s.memory | Some q ↦ swing (sweep Marking s.state 0 last last 0) s.memory (Some q) ]

-- it begins with the head in its place in memory; a memory that is too short for the plan is left alone
abbrev pub window_at : List ℕ → Walk
window_at m = walk (capped (8 * slice_index m head_at)) (capped (8 * (slice_index m 41153 - slice_index m head_at))) 0 0 (key 0 0 0 0) 0

unfoldable pub sweep_begun : Sweep → List ℕ → Swing
sweep_begun s m =
    pick (nat_lt (length m) plan_end) (swing s m None)
    (marking (slice_index m 41153) (sought (window_at m) (begun (capped (8 * slice_index m head_at)) (take 8 (drop 41154 m)) m)))

abbrev pub sweep_at : Sweep → List ℕ → Stage → Swing
sweep_at s m Marking = marking s.from (went_on s.walk m)
sweep_at s m Copying = copied s m
sweep_at s m Laying = copying s.walk s.at s.from s.page s.waiting m
sweep_at s m Closing = publishing s.walk s.at s.from s.page m
sweep_at s m Publishing = swing s m None

unfoldable pub sweep_went_on : Sweep → List ℕ → Swing
sweep_went_on s m = pick (nat_lt (length m) plan_end) (swing s m None) (sweep_at s m s.stage)

-- IN A CLIENT
abbrev pub swung : {K : Type 0} → (Sweep → K) → (Sweep → List ℕ → Asked K) → Swing → Asked K
swung put back v = asked_on put back v.state v.memory v.request

abbrev pub SweepsIn : {K : Type 0} → Program K → (Sweep → K) → (Sweep → List ℕ → Asked K) → Type 0
SweepsIn p put back = (s : Sweep) (m : List ℕ) → length m ≡ bulk_cells → p.resumes (put s) m ≡ swung put back (sweep_went_on s m)

-- What a sweep leaves: the window has copies only; every live object is there under its new name with its references renamed, in order, and the head's roots
-- name them; all else of the head is as it was.
pub record Swept (t h t₁ h₁ ls : List ℕ) : Type 0 where
  pub name : ℕ → ℕ
  pub none_is_none : name 0 ≡ 0
  pub some_is_some : (r : ℕ) → Live t (roots_of h) r → 1 ≤ name r
  pub first_is : first_page h₁ ≡ last_page h
  pub last_is : last_page h₁ ≡ last_page h + (added_up (units_at t) ls + 7) / 8
  pub tape_length : length t₁ ≡ 64 * last_page h₁
  pub head_length : length h₁ ≡ 32
  pub roots_are : roots_of h₁ ≡ each name (roots_of h)
  pub others_are : drop 10 h₁ ≡ drop 10 h
  pub kept : (r : ℕ) → Live t (roots_of h) r → object_at t₁ (name r) ≡ renamed name (object_at t r)
  pub rises : (r s : ℕ) → Live t (roots_of h) r → Live t (roots_of h) s → r < s → name r < name s
  pub heap : Heap t₁ (8 * first_page h₁) (8 * last_page h₁) (roots_of h₁)

-- A client that sweeps goes well, if the swept tape may come up after a stop, and if from where the sweep returns it goes on well: whatever client it is.
-- There has to be room in the ring for one more copy of what is live.
unfoldable pub Sweeps : {K : Type 0} → (List ℕ → List ℕ → Rows → Type 0) → (K → List ℕ → List ℕ → List ℕ → ℕ → Rows → ℕ → Type 0) → Type 0
Sweeps {K} Stop End =
    (p : Program K) (n : ℕ) (put : Sweep → K) (back : Sweep → List ℕ → Asked K) → SweepsIn p put back → (h t : List ℕ) (ss : Rows) (m ls : List ℕ) (s : Sweep) →
    Window n h t (last_page h) → n < 1048576 → length m ≡ bulk_cells → take 32 (drop head_at m) ≡ h → Heap t (8 * first_page h) (8 * last_page h) (roots_of h) →
    Lives t (roots_of h) ls → last_page h + (added_up (units_at t) ls + 7) / 8 ≤ first_page h + n →
    64 * (last_page h + (added_up (units_at t) ls + 7) / 8 + 1) < 18446744073709551616 →
    ((t₁ h₁ : List ℕ) → Swept t h t₁ h₁ ls → Stop h₁ t₁ ss) →
    ((t₁ h₁ : List ℕ) (s₁ : Sweep) (m₁ : List ℕ) → Swept t h t₁ h₁ ls → length m₁ ≡ bulk_cells → ((i : ℕ) → plan_end ≤ i → slice_index m₁ i ≡ slice_index m i) →
    Does p n Stop End (back s₁ m₁) h₁ t₁ (last_page h₁) ss) →
    Does p n Stop End (swung put back (sweep_begun s m)) h t (last_page h) ss
