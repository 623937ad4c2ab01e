-- How many bytes objects take on the tape, by what they weigh; and that the ring has room for three times what a quarter of the pages may weigh.
-- Assumes nothing: these are definitions.
use Rattle.std.specs.Prelude.{◌≡◌, ℕ, ◌+◌, ◌-◌, ◌*◌, ◌/◌, ◌<◌, ◌≤◌, true, ◌⊎◌, List, length, ◌==◌, slice_index}
use Rattle.pages.specs.Lists.{pick, has, added_up}
use Rattle.pages.specs.Object.{size_of, kind_of, own_weight, references_of, object_at, size_in}
use Rattle.objects.specs.Heap.{Live, Lives, units_at, weights, heading_at}
use Rattle.objects.specs.Layouts.{tree_weight_in, noted_weight, words_for, file_object, commit_object, name_object}

-- the most bytes that objects take which weigh so much
abbrev pub bytes_for : ℕ → ℕ
bytes_for w = w + w / 8 + 1024

-- a quarter of what so many pages hold: more is never kept
abbrev pub quarter : ℕ → ℕ
quarter pages = 128 * pages

-- the pages that one copy of all that is kept may take
abbrev pub reserve : ℕ → ℕ
reserve pages = (bytes_for (quarter pages) + 511) / 512

-- an object of each kind, its words against what it weighs
pub record Built (o : List ℕ) : Type 0 where
  pub known : (kind_of o ≡ 1) ⊎ ((kind_of o ≡ 2) ⊎ ((kind_of o ≡ 3) ⊎ (kind_of o ≡ 4)))
  pub file : kind_of o ≡ 1 → (64 ≤ own_weight o) × (8 * size_of o + 9 ≤ own_weight o)
  pub tree : kind_of o ≡ 2 → (own_weight o ≡ 0) × (8 * size_of o + 41 * length (references_of o) ≤ tree_weight_in o + 24)
  pub commit : kind_of o ≡ 3 → 8 * size_of o + 161 + noted_weight o ≤ own_weight o
  pub name : kind_of o ≡ 4 → (own_weight o ≡ 128) × (size_of o ≤ 16)

-- what is live is built so; a tree is the one in work or some live commit's, which notes its weight if it has one; a file is in some live tree
pub record Roomy (t roots : List ℕ) (work : ℕ) : Type 0 where
  pub sized : (r : ℕ) → Live t roots r → 1 ≤ size_in (heading_at t r)
  pub built : (r : ℕ) → Live t roots r → Built (object_at t r)
  pub tree_named :
      (r : ℕ) → Live t roots r → kind_of (object_at t r) ≡ 2 →
      (r ≡ work) ⊎ ((s : ℕ) × Live t roots s × (kind_of (object_at t s) ≡ 3) × (slice_index (references_of (object_at t s)) 0 ≡ r))
  pub tree_noted :
      (s : ℕ) → Live t roots s → kind_of (object_at t s) ≡ 3 → 1 ≤ slice_index (references_of (object_at t s)) 0 →
      noted_weight (object_at t s) ≡ tree_weight_in (object_at t (slice_index (references_of (object_at t s)) 0))
  pub file_named :
      (r : ℕ) → Live t roots r → kind_of (object_at t r) ≡ 1 →
      (s : ℕ) × Live t roots s × (kind_of (object_at t s) ≡ 2) × (has (references_of (object_at t s)) r ≡ true)

-- what the tree in work weighs; there may be none
abbrev pub work_weight : List ℕ → ℕ → ℕ
work_weight t work = pick (work == 0) 0 (tree_weight_in (object_at t work))

-- The bytes of what is live are at most its weight, an eighth of that, and 1,024.
abbrev pub TakesLittle : Type 0
TakesLittle =
    (t roots ls : List ℕ) (work : ℕ) → Lives t roots ls → Roomy t roots work → 64 * added_up (units_at t) ls ≤ bytes_for (weights t ls + work_weight t work)

-- Three times that for a quarter of the pages fits into the ring, for every number of pages from 64 on; and what weighs no more than a quarter takes no more pages
-- than one reserve has.
abbrev pub RingHasRoom : Type 0
RingHasRoom =
    (pages : ℕ) → 64 ≤ pages →
    (3 * reserve pages ≤ pages - 1) × ((units weight : ℕ) → 64 * units ≤ bytes_for weight → weight ≤ quarter pages → (units + 7) / 8 ≤ reserve pages)

-- Files, commits and names as they are laid are built so.
abbrev pub LayoutsBuilt : Type 0
LayoutsBuilt =
    ((sum ws : List ℕ) (bytes : ℕ) → length sum ≡ 4 → bytes < 65536 → length ws ≡ words_for bytes → Built (file_object sum bytes ws))
    × ((id ws : List ℕ) (tree one two stamp tree_weight bytes : ℕ) → length id ≡ 4 → bytes < 65536 → length ws ≡ words_for bytes →
    Built (commit_object tree one two id stamp tree_weight bytes ws))
    × ((ws : List ℕ) (next commit list bytes : ℕ) → bytes ≤ 65 → length ws ≡ words_for bytes → Built (name_object next commit list bytes ws))
