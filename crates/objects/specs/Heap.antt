-- What is live on a tape: the objects that roots name, and those that live objects name. Where objects may stand, and what is known of all live ones.
-- Assumes nothing: these are definitions.
use Rattle.std.specs.Prelude.{◌≡◌, ℕ, ◌+◌, ◌-◌, ◌*◌, ◌/◌, ◌<◌, ◌≤◌, Bool, true, ◌&&◌, ltb, List, [], ◌∷◌, take, ◌==◌, nat_le, nat_lt, slice_index}
use Rattle.pages.specs.Lists.{or, every, any, has, same, added_up}
use Rattle.pages.specs.Object.{size_in, references_in, kind_of, own_weight, references_of, data_of, object_at}

pub data Live (t roots : List ℕ) : ℕ → Type 0 where
  root : (r : ℕ) → 1 ≤ r → has roots r ≡ true → Live t roots r
  named : (r s : ℕ) → 1 ≤ r → Live t roots s → has (references_of (object_at t s)) r ≡ true → Live t roots r

-- how many units so many words take
abbrev pub units : ℕ → ℕ
units size = (size + 7) / 8

-- the object that a reference names: its first word, how many units it has
abbrev pub heading_at : List ℕ → ℕ → ℕ
heading_at t r = slice_index t (8 * (r - 1))

abbrev pub units_at : List ℕ → ℕ → ℕ
units_at t r = units (size_in (heading_at t r))

-- files and commits have a key, a sum or an id, in four words behind their references
abbrev pub keyed : ℕ → Bool
keyed kind = or (kind == 1) (kind == 3)

-- whether an object is of a kind and has a key
abbrev pub has_key : ℕ → List ℕ → List ℕ → Bool
has_key kind key o = kind_of o == kind && same (take 4 (data_of o)) key

-- where an object may stand, between two units, and how it is built; its references are lower
pub record Placed (t : List ℕ) (lo hi : ℕ) (r : ℕ) : Type 0 where
  pub above : lo < r
  pub within : (r - 1) + units_at t r ≤ hi
  pub whole : 2 + references_in (heading_at t r) ≤ size_in (heading_at t r)
  pub short : size_in (heading_at t r) ≤ 41024
  pub few : references_in (heading_at t r) ≤ 4096
  pub kinded : 1 ≤ kind_of (object_at t r)
  pub key_there : keyed (kind_of (object_at t r)) ≡ true → 6 + references_in (heading_at t r) ≤ size_in (heading_at t r)
  pub lower : every (λ s. ltb s r) (references_of (object_at t r)) ≡ true

-- all that is live stands in its place, and no two overlap
pub record Heap (t : List ℕ) (lo hi : ℕ) (roots : List ℕ) : Type 0 where
  pub placed : (r : ℕ) → Live t roots r → Placed t lo hi r
  pub apart : (r s : ℕ) → Live t roots r → Live t roots s → r < s → (r - 1) + units_at t r ≤ s - 1

-- a list of references that rise
unfoldable pub rising : List ℕ → Bool
rising [] = true
rising (r ∷ rs) = every (λ s. ltb r s) rs && rising rs

-- all live references, rising
pub record Lives (t roots : List ℕ) (ls : List ℕ) : Type 0 where
  pub rise : rising ls ≡ true
  pub all : (r : ℕ) → Live t roots r → has ls r ≡ true
  pub only : (r : ℕ) → has ls r ≡ true → Live t roots r

-- whether a unit is one of those that objects take
abbrev pub covered : List ℕ → List ℕ → ℕ → Bool
covered t ls u = any (λ r. nat_le (r - 1) u && nat_lt u ((r - 1) + units_at t r)) ls

-- what they weigh by themselves
abbrev pub weight_at : List ℕ → ℕ → ℕ
weight_at t r = own_weight (object_at t r)

abbrev pub weights : List ℕ → List ℕ → ℕ
weights t ls = added_up (weight_at t) ls
