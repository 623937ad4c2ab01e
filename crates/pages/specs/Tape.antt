-- The tape: all words ever laid, of which the head names a window; how a device holds it; and the logic by which a client is followed on it.
-- Assumes nothing: these are definitions.
use Rattle.std.specs.Prelude.{◌≡◌, ℕ, suc, ◌+◌, ◌*◌, ◌<◌, ◌≤◌, Bool, true, List, [], ◌∷◌, ◌++◌, length, take, drop, slice_index}
use Rattle.pages.specs.Words.{small, bytes_of, over}
use Rattle.pages.specs.Device.{Device, page_at, read_page, stopped}
use Rattle.pages.specs.Run.{World, said}
use Rattle.pages.specs.Crash.{Rows, Goes}
use Rattle.pages.specs.Laws.{elsewhere}
use Rattle.pages.specs.Machine.{Asked, Program, buffer_words, row_bytes, place, head_page, wanted, ending}
use Rattle.pages.specs.Engine.{Housed, image, bulk_cells, engine, Lawful}
use Rattle.pages.specs.declared.machine.Machine.{Machine}
use Rattle.pages.specs.declared.machine.Request.TheVariants.{Recall, Look, Object, Lay, Publish, Show}
use Rattle.pages.specs.declared.machine.Serving.TheVariants.{Idle}

-- the head's first two words: the window goes from the first page to before the last
abbrev pub first_page : List ℕ → ℕ
first_page h = slice_index h 0

abbrev pub last_page : List ℕ → ℕ
last_page h = slice_index h 1

-- the words of a virtual page, and the tape as far as the head knows it
abbrev pub page_of : List ℕ → ℕ → List ℕ
page_of t v = take 64 (drop (64 * v) t)

abbrev pub published : List ℕ → List ℕ → List ℕ
published h t = take (64 * last_page h) t

-- a tape of so many pages, a head that names a window on it, and a ring that holds it
pub record Window (n : ℕ) (h t : List ℕ) (laid : ℕ) : Type 0 where
  pub ring : 1 ≤ n
  pub head_length : length h ≡ 32
  pub head_small : small h ≡ true
  pub tape_length : length t ≡ 64 * laid
  pub tape_small : small t ≡ true
  pub bounded : 64 * laid < 18446744073709551616
  pub rising : first_page h ≤ last_page h
  pub within : last_page h ≤ laid
  pub room : laid ≤ first_page h + n

-- a device holds them: the head's page; each page of the tape from the window on, as one who reads sees it; what waits is for no page of the window, and,
-- if it's still, nothing waits while nothing is laid behind the window
pub record Tied (n : ℕ) (still : Bool) (d : Device) (h t : List ℕ) (laid : ℕ) : Type 0 where
  pub window : Window n h t laid
  pub pages : length d.pages ≡ suc n
  pub head : page_at d.pages 0 ≡ head_page h
  pub seen : (v : ℕ) → first_page h ≤ v → v < laid → read_page d (place n v) ≡ bytes_of (page_of t v)
  pub head_waits : elsewhere 0 d.queue ≡ true
  pub waits : (v : ℕ) → first_page h ≤ v → v < last_page h → elsewhere (place n v) d.queue ≡ true
  pub stills : still ≡ true → laid ≡ last_page h → d.queue ≡ []

-- A client goes well on the tape: from what it asks for, a head, a tape with so many pages laid, and rows shown so far. `Stop` is asked of each head with
-- its window that may come up after a stop, with the rows shown by then; `End` of the end. One rule for each request.
pub data Does {K : Type 0} (p : Program K) (n : ℕ) (Stop : List ℕ → List ℕ → Rows → Type 0) (End : K → List ℕ → List ℕ → List ℕ → ℕ → Rows → ℕ → Type 0) :
    Asked K → List ℕ → List ℕ → ℕ → Rows → Type 0 where
  recalls :
      (a : Asked K) (h t : List ℕ) (laid : ℕ) (ss : Rows) → a.request ≡ Recall →
      (length h ≡ 32 → small h ≡ true → Does p n Stop End (p.resumes a.state (over 0 h a.memory)) h t laid ss) → Does p n Stop End a h t laid ss
  looks :
      (a : Asked K) (h t : List ℕ) (laid : ℕ) (ss : Rows) (at words : ℕ) → a.request ≡ Look at words → 1 ≤ words → words ≤ buffer_words →
      64 * first_page h ≤ at → at + words ≤ 64 * laid →
      (small (take words (drop at t)) ≡ true → Does p n Stop End (p.resumes a.state (over 0 (take words (drop at t)) a.memory)) h t laid ss) →
      Does p n Stop End a h t laid ss
  opens :
      (a : Asked K) (h t : List ℕ) (laid : ℕ) (ss : Rows) (at limit : ℕ) → a.request ≡ Object at limit → 64 * first_page h ≤ at →
      at + wanted limit (slice_index t at) ≤ 64 * laid →
      (small (take (wanted limit (slice_index t at)) (drop at t)) ≡ true →
      Does p n Stop End (p.resumes a.state (over 0 (take (wanted limit (slice_index t at)) (drop at t)) a.memory)) h t laid ss) →
      Does p n Stop End a h t laid ss
  lays :
      (a : Asked K) (h t : List ℕ) (laid : ℕ) (ss : Rows) (pages : ℕ) → a.request ≡ Lay laid pages → 1 ≤ pages → pages ≤ 642 →
      laid + pages ≤ first_page h + n → 64 * (laid + pages) < 18446744073709551616 →
      Does p n Stop End (p.resumes a.state a.memory) h (t ++ take (64 * pages) a.memory) (laid + pages) ss → Does p n Stop End a h t laid ss
  publishes :
      (a : Asked K) (h t : List ℕ) (laid : ℕ) (ss : Rows) → a.request ≡ Publish → first_page h ≤ first_page (take 32 a.memory) →
      first_page (take 32 a.memory) ≤ last_page (take 32 a.memory) → last_page (take 32 a.memory) ≤ laid →
      Stop (take 32 a.memory) (published (take 32 a.memory) t) ss →
      Does p n Stop End (p.resumes a.state a.memory) (take 32 a.memory) t laid ss → Does p n Stop End a h t laid ss
  rows :
      (a : Asked K) (h t : List ℕ) (laid : ℕ) (ss : Rows) (bytes : ℕ) → a.request ≡ Show bytes → bytes ≤ row_bytes →
      Stop h (published h t) (ss ++ take bytes (bytes_of (take 16384 a.memory)) ∷ []) →
      Does p n Stop End (p.resumes a.state a.memory) h t laid (ss ++ take bytes (bytes_of (take 16384 a.memory)) ∷ []) →
      Does p n Stop End a h t laid ss
  finishes :
      (a : Asked K) (h t : List ℕ) (laid : ℕ) (ss : Rows) (reply : ℕ) → a.request ≡ ending reply → reply < 1000 →
      End a.state a.memory h t laid ss reply → Does p n Stop End a h t laid ss

-- after any stop the device holds some head with its window that may come up; the other house is as it was
unfoldable pub Safe : (n : ℕ) → (List ℕ → List ℕ → Rows → Type 0) → World → Device → World → Rows → Type 0
Safe n Stop other d there ss =
    (there ≡ other) × ((cs : List ℕ) → (h : List ℕ) × (t : List ℕ) × Tied n true (stopped d cs) h t (last_page h) × Stop h t ss)

-- at the end the device holds the head and the tape, and memory the client
unfoldable pub Held : {K : Type 0} → Housed K → (n : ℕ) → Bool → (K → List ℕ → List ℕ → List ℕ → ℕ → Rows → ℕ → Type 0) → World → World → World → Rows → ℕ → Type 0
Held {K} f n still End other w there ss reply =
    (there ≡ other) × (k : K) × (m : List ℕ) × (h : List ℕ) × (t : List ℕ) × (laid : ℕ) × Tied n still w.device h t laid
    × (w.memory ≡ image f (record { ring = n; serving = Idle }) k m) × (w.up ≡ true) × (small (f.save k) ≡ true) × (small m ≡ true) × (length m ≡ bulk_cells) × End k m h t laid ss reply

-- A client that goes well on the tape goes well on the device, whatever the stops: for every client that keeps its cells and bounds, and whatever is asked
-- of stops and of the end.
unfoldable pub OnTheDevice : {K : Type 0} → (List ℕ → List ℕ → Rows → Type 0) → (K → List ℕ → List ℕ → List ℕ → ℕ → Rows → ℕ → Type 0) → Type 0
OnTheDevice {K} Stop End =
    (f : Housed K) → Lawful f → (n ls : ℕ) (still : Bool) (w other : World) (h t : List ℕ) (laid : ℕ) (r : Machine) (k : K) (m text : List ℕ) →
    Tied n still w.device h t laid → w.up ≡ true → w.memory ≡ image f r k m → r.ring ≡ n → length m ≡ bulk_cells → small (f.save k) ≡ true →
    small m ≡ true → Stop h (published h t) [] → Does f.program n Stop End (f.program.hears k m text) h t laid [] →
    Goes (engine f) (Safe n Stop other) (Held f n still End other) ls w other (said text) []

-- A client of a higher crate hands phases down: where it does as a lower client does, and the lower one stays among these phases, what was shown of the lower one
-- holds of it.
abbrev pub HandedDown : {K : Type 0} → (List ℕ → List ℕ → Rows → Type 0) → (K → List ℕ → List ℕ → List ℕ → ℕ → Rows → ℕ → Type 0) → Type 0
HandedDown {K} Stop End =
    (lower higher : Program K) (phases : K → Bool) (n : ℕ) → ((k : K) (m : List ℕ) → phases k ≡ true → higher.resumes k m ≡ lower.resumes k m) →
    ((k : K) (m : List ℕ) → phases k ≡ true → phases (lower.resumes k m).state ≡ true) → (a : Asked K) (h t : List ℕ) (laid : ℕ) (ss : Rows) →
    phases a.state ≡ true → Does lower n Stop End a h t laid ss → Does higher n Stop End a h t laid ss
