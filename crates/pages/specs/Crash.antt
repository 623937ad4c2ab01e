-- Crash logic: when a run of an engine goes well whatever the stops. Assumes nothing: these are definitions.
use Rattle.std.specs.Prelude.{◌≡◌, ℕ, true, ◌⊎◌, List, [], ◌∷◌, ◌++◌}
use Rattle.pages.specs.Device.{Device, Page, read_page, flushed}
use Rattle.pages.specs.Run.{Engine, Event, page, next, Act, read, write, flush, shows, done, refused, Step, World, Ran, in_memory, on_device, queued, writable, refusal_end, runs}

abbrev pub Rows : Type 0
Rows = List (List ℕ)

abbrev pub stepped : List ℕ → Act → Step
stepped m a = record { memory = m; act = a }

-- A run goes well from a world and an event, beside a world `v` of the other house and a line that still carries `ls` letters, with rows shown
-- so far: at each act what a stop may find, the device as it is and the rows shown, meets C; and the end meets Q. Each act is one equation for the
-- whole step. No rule sends a letter: a house that writes to others has one rule more.
pub data Goes (e : Engine) (C : Device → World → Rows → Type 0) (Q : World → World → Rows → ℕ → Type 0) : ℕ → World → World → Event → Rows → Type 0 where
  reads :
      (ls : ℕ) (w v : World) (ev : Event) (ss : Rows) (m : List ℕ) (k : ℕ) → C w.device v ss → e.step w.memory ev ≡ stepped m (read k) →
      Goes e C Q ls (in_memory w m) v (page (read_page w.device k)) ss → Goes e C Q ls w v ev ss
  writes :
      (ls : ℕ) (w v : World) (ev : Event) (ss : Rows) (m : List ℕ) (k : ℕ) (p : Page) → C w.device v ss →
      e.step w.memory ev ≡ stepped m (write k p) → writable w.device k p ≡ true →
      Goes e C Q ls (on_device w m (queued w.device k p)) v next ss → Goes e C Q ls w v ev ss
  flushes :
      (ls : ℕ) (w v : World) (ev : Event) (ss : Rows) (m : List ℕ) → C w.device v ss → e.step w.memory ev ≡ stepped m flush →
      Goes e C Q ls (on_device w m (flushed w.device)) v next ss → Goes e C Q ls w v ev ss
  showing :
      (ls : ℕ) (w v : World) (ev : Event) (ss : Rows) (m s : List ℕ) → C w.device v ss → e.step w.memory ev ≡ stepped m (shows s) →
      Goes e C Q ls (in_memory w m) v next (ss ++ s ∷ []) → Goes e C Q ls w v ev ss
  ends :
      (ls : ℕ) (w v : World) (ev : Event) (ss : Rows) (m : List ℕ) → C w.device v ss → e.step w.memory ev ≡ stepped m done →
      Q (in_memory w m) v ss 0 → Goes e C Q ls w v ev ss
  refuses :
      (ls : ℕ) (w v : World) (ev : Event) (ss : Rows) (m : List ℕ) (k : ℕ) → C w.device v ss → e.step w.memory ev ≡ stepped m (refused k) →
      Q (in_memory w m) v ss (refusal_end k) → Goes e C Q ls w v ev ss

-- a run as it stands after some acts meets the end's promise
abbrev pub Ended : (World → World → Rows → ℕ → Type 0) → Ran → Type 0
Ended Q r = Q r.here r.there r.showed r.end

-- or it still runs, and may stop there
abbrev pub Stoppable : (Device → World → Rows → Type 0) → Ran → Type 0
Stoppable C r = (r.end ≡ 1000) × C r.here.device r.there r.showed

-- What follows for the run itself: some number of acts ends it well; after any number of acts it has ended well or may stop.
unfoldable pub RunsWell : (Device → World → Rows → Type 0) → (World → World → Rows → ℕ → Type 0) → Type 0
RunsWell C Q =
    (e : Engine) (d ls : ℕ) (w v : World) (ev : Event) (ss : Rows) → Goes e C Q ls w v ev ss →
    ((n : ℕ) × Ended Q (runs n e d ls w v ev ss))
    × ((n : ℕ) → Ended Q (runs n e d ls w v ev ss) ⊎ Stoppable C (runs n e d ls w v ev ss))
