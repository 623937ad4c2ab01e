-- The house's own engine and sum, and how a step of the whole house is told to the world outside. Assumes nothing: these are definitions.
use Rattle.std.specs.Prelude.{◌≡◌, ℕ, Bool, true, false, ◌&&◌, List, length, take, drop, ◌==◌, nat_le}
use Rattle.pages.specs.Lists.{pick}
use Rattle.pages.specs.Bytes.{from_bytes}
use Rattle.pages.specs.Run.{Engine, Event, on, said, page, next, heard, lost}
use Rattle.pages.specs.Told.{ActTold}
use Rattle.pages.specs.Engine.{engine}
use Rattle.pages.specs.declared.told.Told.{Told}
use Rattle.pages.specs.declared.told.Told.TheVariants.{No}
use Rattle.store.specs.Sha256.{sha256}
use Rattle.history.specs.Book.{Sum}
use Rattle.house.specs.Control.{control_client}

-- the house's own sum is that of FIPS 180-4 with 256 bits
abbrev pub own_sum : Sum
own_sum = sha256

-- for every sum an engine: the house that keeps sheets in work
unfoldable pub own : Sum → Engine
own sum = engine (control_client sum)

-- what the world tells is a kind and some bytes: 0 power, with three numbers of eight bytes, the highest first, 1 a command, 2 a page, 3 go on, 4 a letter, 5 no line
abbrev pub event_of : ℕ → List ℕ → Event
event_of k bs =
    pick (k == 0) (on (from_bytes 0 (take 8 bs)) (from_bytes 0 (take 8 (drop 8 bs))) (from_bytes 0 (take 8 (drop 16 bs))))
    (pick (k == 1) (said bs) (pick (k == 2) (page bs) (pick (k == 3) next (pick (k == 4) (heard bs) lost))))

-- one step, told as an event: for memories of the house's own length and a lent row of 131,072 bytes; for others number 0 is told and nothing is changed
unfoldable pub TellSays : (memory : List ℕ) → Event → (out : List ℕ) → Bool → Told → (memory₁ out₁ : List ℕ) → Type 0
TellSays memory ev out true r memory₁ out₁ =
    (memory₁ ≡ ((own own_sum).step memory ev).memory) × ActTold ((own own_sum).step memory ev).act r out out₁
TellSays memory ev out false r memory₁ out₁ = (r ≡ No 0) × (memory₁ ≡ memory) × (out₁ ≡ out)

unfoldable pub tell_fits : (memory out : List ℕ) → Bool
tell_fits memory out = length memory == length (own own_sum).start && nat_le 131072 (length out)

-- one step, told as a kind and some bytes: for kinds above 5, other memories and shorter rows number 0 is told and nothing is changed
unfoldable pub StepSays : (memory : List ℕ) (kind : ℕ) (bytes out : List ℕ) → Bool → Told → (memory₁ out₁ : List ℕ) → Type 0
StepSays memory kind bytes out true r memory₁ out₁ =
    (memory₁ ≡ ((own own_sum).step memory (event_of kind bytes)).memory) × ActTold ((own own_sum).step memory (event_of kind bytes)).act r out out₁
StepSays memory kind bytes out false r memory₁ out₁ = (r ≡ No 0) × (memory₁ ≡ memory) × (out₁ ≡ out)

unfoldable pub step_fits : (memory : List ℕ) (kind : ℕ) (bytes out : List ℕ) → Bool
step_fits memory kind bytes out = length memory == length (own own_sum).start && (nat_le kind 5 && nat_le 131072 (length out))
