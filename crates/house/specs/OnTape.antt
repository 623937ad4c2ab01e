-- A house that is a client on a tape: what it holds there, and what is to be shown of it, one command at a time, so that all houses keep the promise. Pages,
-- waiting writes and stops are not spoken of any more. Assumes nothing: these are definitions.
use Rattle.std.specs.Prelude.{◌≡◌, ℕ, suc, ◌<◌, Bool, true, ◌⊎◌, List, [], ◌++◌, length}
use Rattle.pages.specs.Lists.{zeros}
use Rattle.pages.specs.Words.{small}
use Rattle.pages.specs.Run.{World}
use Rattle.pages.specs.Crash.{Rows}
use Rattle.pages.specs.Engine.{Housed, image, bulk_cells}
use Rattle.pages.specs.Tape.{last_page, published, Window, Tied, Does}
use Rattle.pages.specs.declared.machine.Machine.{Machine}
use Rattle.house.specs.House.{Plain}
use Rattle.house.specs.Promise.{Never, StillApart, Allowed}
use Rattle.house.specs.Simulation.{Setting, Turned}

-- what a house's memory holds between commands: its machine, serving nothing, and the client, which knows the house's number
pub record Resident {K : Type 0} (f : Housed K) (Knows : ℕ → K → Type 0) (n c : ℕ) (memory : List ℕ) : Type 0 where
  pub machine : Machine
  pub state : K
  pub bulk : List ℕ
  pub memory_is : memory ≡ image f machine state bulk
  pub ring_is : machine.ring ≡ n
  pub bulk_length : length bulk ≡ bulk_cells
  pub state_small : small (f.save state) ≡ true
  pub bulk_small : small bulk ≡ true
  pub knows : Knows c state

-- What a house of n + 1 pages holds: `Stands` relates the head and the tape as far as the head knows it to the plain houses, by the number of things that may
-- still happen and the house's number.
pub record Holding {K : Type 0} (f : Housed K) (Knows : ℕ → K → Type 0) (Stands : ℕ → ℕ → Plain → List ℕ → List ℕ → Type 0) (n things c : ℕ) (up : Bool)
    (w : Plain) (v : World) : Type 0 where
  pub power : v.up ≡ up
  pub still : Bool
  pub head : List ℕ
  pub tape : List ℕ
  pub laid : ℕ
  pub tied : Tied n still v.device head tape laid
  pub stands : Stands things c w head (published head tape)
  pub resident : up ≡ true → Resident f Knows n c v.memory

-- at a stop: what was shown is a front of all that is shown, and the tape stands for what was before or what is after
unfoldable pub StopStands : (ℕ → ℕ → Plain → List ℕ → List ℕ → Type 0) → ℕ → ℕ → Plain → Plain → Rows → List ℕ → List ℕ → Rows → Type 0
StopStands Stands things c w after rows h t ss =
    ((more : Rows) × (ss ++ more ≡ rows)) × ((w₁ : Plain) × ((w₁ ≡ w) ⊎ (w₁ ≡ after)) × Stands things c w₁ h t)

-- at the end: all is shown, and the tape stands for what is after
unfoldable pub EndStands :
    {K : Type 0} → (ℕ → K → Type 0) → (ℕ → ℕ → Plain → List ℕ → List ℕ → Type 0) → ℕ → ℕ → Plain → Rows → ℕ → K → List ℕ → List ℕ → List ℕ → ℕ → Rows → ℕ → Type 0
EndStands Knows Stands things c after rows reply k m h t laid ss end =
    (ss ≡ rows) × (end ≡ reply) × Stands things c after h (published h t) × Knows c k

-- how a command comes out on the tape
pub record Answered {K : Type 0} (f : Housed K) (Knows : ℕ → K → Type 0) (Stands : ℕ → ℕ → Plain → List ℕ → List ℕ → Type 0) (s : Setting) (n things c : ℕ)
    (w : Plain) (k : K) (m h t text : List ℕ) : Type 0 where
  pub rows : Rows
  pub reply : ℕ
  pub after : Plain
  pub allowed : (ls : ℕ) (other_up : Bool) → Allowed s.sum s.known s.pages ls other_up w c text rows reply after
  pub does :
      Does f.program n (StopStands Stands things c w after rows) (EndStands Knows Stands things c after rows reply) (f.program.hears k m text) h t
      (last_page h) []

-- what is to be shown of a client on a ring of n pages
pub record Kept {K : Type 0} (f : Housed K) (Knows : ℕ → K → Type 0) (Fine : ℕ → Plain → Type 0) (Stands : ℕ → ℕ → Plain → List ℕ → List ℕ → Type 0)
    (s : Setting) (n : ℕ) : Type 0 where
  -- memory is all 0 when power comes; the client then learns its number
  pub blank_state : K
  pub blank_saved : f.save blank_state ≡ zeros 120
  pub wakes_knowing : (c : ℕ) → c < s.houses → Knows c (f.program.wakes blank_state c s.houses s.pages)
  -- nothing happens here
  pub fine_idle : (things : ℕ) (w : Plain) → Fine (suc things) w → Fine things w
  pub stands_idle : (things c : ℕ) (w : Plain) (h t : List ℕ) → Stands (suc things) c w h t → Stands things c w h t
  -- a turn at one house
  pub fine_turn :
      (things c : ℕ) (w : Plain) (text : List ℕ) (w₁ : Plain) → c < s.houses → Fine (suc things) w → StillApart s.sum w c text → Turned s w c text w₁ →
      Fine things w₁
  pub stands_turn :
      (things c d : ℕ) (w : Plain) (text : List ℕ) (w₁ : Plain) (h t : List ℕ) → c < s.houses → (c ≡ d → Never) → Fine (suc things) w →
      StillApart s.sum w c text → Turned s w c text w₁ → Stands (suc things) d w h t → Stands things d w₁ h t
  -- a command is said
  pub answers :
      (things c : ℕ) (w : Plain) (k : K) (m h t text : List ℕ) → c < s.houses → Fine (suc things) w → Stands (suc things) c w h t → Window n h t (last_page h) →
      length m ≡ bulk_cells → Knows c k → StillApart s.sum w c text → Answered f Knows Stands s n things c w k m h t text
