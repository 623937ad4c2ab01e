-- What is to be shown of one house at a time so that all houses keep the promise, whatever happens. Assumes nothing: these are definitions.
use Rattle.std.specs.Prelude.{◌≡◌, ℕ, suc, ◌<◌, Bool, true, false, ◌⊎◌, List, [], ◌++◌, length}
use Rattle.pages.specs.Lists.{so_many}
use Rattle.pages.specs.Device.{Device, stopped}
use Rattle.pages.specs.Run.{Engine, on, said, World}
use Rattle.pages.specs.Crash.{Rows, Goes}
use Rattle.history.specs.Book.{Sum}
use Rattle.commands.specs.Command.{Command}
use Rattle.house.specs.House.{Plain, turn, clone_at, empty_clone}
use Rattle.house.specs.Promise.{Never, Said, StillApart, Allowed, Item, Right, proper, powered, no_world, new_world, peer}

-- what stands fixed while things happen
pub record Setting : Type 0 where
  pub sum : Sum
  pub known : Command → Bool
  pub engine : Engine
  pub houses : ℕ
  pub pages : ℕ

-- a device as a stop leaves it
abbrev pub lightless : Device → List ℕ → World
lightless d cs = record { device = stopped d cs; memory = []; up = false }

abbrev pub turned : Setting → Plain → ℕ → Command → Plain
turned s w c a = (turn s.sum w c (clone_at w.clones c) a).next

abbrev pub at_first : Setting → Plain
at_first s = record { book = []; clones = so_many s.houses empty_clone }

-- What a house holds is a relation between its world and the plain houses, by the number of things that may still happen, the house's number and whether
-- it has power. Numbers that grow with what happens are bounded by the first.
abbrev pub Relation : Type 1
Relation = ℕ → ℕ → Bool → Plain → World → Type 0

-- another house, if it is one
abbrev pub PeerHolds : Relation → Setting → ℕ → ℕ → Bool → Plain → World → Type 0
PeerHolds Holds s f d up w v = d < s.houses → Holds f d up w v

-- at a stop in the middle of a command: what was shown is a front of all that is shown, and the pages hold what was before or what is after
unfoldable pub Cut : Relation → Setting → ℕ → ℕ → ℕ → Bool → Plain → Plain → Rows → Device → World → Rows → Type 0
Cut Holds s f c d other_up w after rows dev there ss =
    ((more : Rows) × (ss ++ more ≡ rows))
    × ((cs : List ℕ) → (w₁ : Plain) × ((w₁ ≡ w) ⊎ (w₁ ≡ after)) × Holds f c false w₁ (lightless dev cs) × PeerHolds Holds s f d other_up w₁ there)

-- at its end
unfoldable pub Over : Relation → Setting → ℕ → ℕ → ℕ → Bool → Plain → Rows → ℕ → World → World → Rows → ℕ → Type 0
Over Holds s f c d other_up after rows reply v there ss end =
    (ss ≡ rows) × (end ≡ reply) × Holds f c true after v × PeerHolds Holds s f d other_up after there

-- how a command comes out: what it shows, how it ends, the plain houses after it; and that the house goes there
pub record Outcome (Holds : Relation) (s : Setting) (f c : ℕ) (w : Plain) (v there : World) (text : List ℕ) (ls : ℕ) : Type 0 where
  pub rows : Rows
  pub reply : ℕ
  pub after : Plain
  pub allowed : Allowed s.sum s.known s.pages ls there.up w c text rows reply after
  pub goes :
      Goes s.engine (Cut Holds s f c (peer c text) there.up w after rows) (Over Holds s f c (peer c text) there.up after rows reply) ls v there
      (said text) []

-- when power comes nothing is shown, and a stop in the middle changes nothing
unfoldable pub WokenCut : Relation → ℕ → ℕ → Plain → Device → World → Rows → Type 0
WokenCut Holds f c w dev there ss = (ss ≡ []) × ((cs : List ℕ) → Holds f c false w (lightless dev cs))

unfoldable pub Woken : Relation → ℕ → ℕ → Plain → World → World → Rows → ℕ → Type 0
Woken Holds f c w v there ss end = (ss ≡ []) × (end ≡ 0) × Holds f c true w v

-- the plain houses after a known command that was said and done
unfoldable pub Turned : Setting → Plain → ℕ → List ℕ → Plain → Type 0
Turned s w c text w₁ = (a : Command) × Said text a × (s.known a ≡ true) × (w₁ ≡ turned s w c a)

-- the obligations: `Fine` has the facts about the plain houses that every turn keeps, `Holds` what a house holds
pub record Obligations (Fine : ℕ → Plain → Type 0) (Holds : Relation) (s : Setting) : Type 0 where
  -- what is held says whether there is power
  pub power_known : (f c : ℕ) (up : Bool) (w : Plain) (v : World) → Holds f c up w v → v.up ≡ up
  -- a house to which nothing happens
  pub fine_idle : (f : ℕ) (w : Plain) → Fine (suc f) w → Fine f w
  pub holds_idle : (f c : ℕ) (up : Bool) (w : Plain) (v : World) → Holds (suc f) c up w v → Holds f c up w v
  -- a turn at one house: the facts stay, and what the others hold
  pub fine_turn :
      (f c : ℕ) (w : Plain) (text : List ℕ) (w₁ : Plain) → c < s.houses → Fine (suc f) w → StillApart s.sum w c text → Turned s w c text w₁ → Fine f w₁
  pub holds_turn :
      (f c d : ℕ) (up : Bool) (w : Plain) (text : List ℕ) (w₁ : Plain) (v : World) → c < s.houses → (c ≡ d → Never) → Fine (suc f) w →
      StillApart s.sum w c text → Turned s w c text w₁ → Holds (suc f) d up w v → Holds f d up w₁ v
  -- power goes while nothing runs
  pub goes_dark : (f c : ℕ) (w : Plain) (v : World) (cs : List ℕ) → Holds f c true w v → Holds f c false w (lightless v.device cs)
  -- power comes
  pub wakes :
      (f c : ℕ) (w : Plain) (v : World) → c < s.houses → Fine (suc f) w → Holds (suc f) c false w v →
      Goes s.engine (WokenCut Holds f c w) (Woken Holds f c w) 0 (powered s.engine v) no_world (on c s.houses (length v.device.pages)) []
  -- a command is said
  pub answers :
      (f c : ℕ) (w : Plain) (v there : World) (text : List ℕ) (ls : ℕ) → c < s.houses → Fine (suc f) w → Holds (suc f) c true w v →
      PeerHolds Holds s (suc f) (peer c text) there.up w there → StillApart s.sum w c text → Outcome Holds s f c w v there text ls

-- then all houses keep the promise over every list of things that may happen, if they hold what they should at first
unfoldable pub Simulated : (ℕ → Plain → Type 0) → Relation → Type 0
Simulated Fine Holds =
    (s : Setting) → Obligations Fine Holds s → (is : List Item) → proper (so_many s.houses false) is ≡ true → Fine (length is) (at_first s) →
    ((c : ℕ) → c < s.houses → Holds (length is) c false (at_first s) (new_world s.pages)) →
    Right s.sum s.known s.engine s.pages (so_many s.houses (new_world s.pages)) (at_first s) is
