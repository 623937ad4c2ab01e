-- What code holds of a path, as the plain definitions have it; and what it says of two sides that are put together. Assumes nothing: these are
-- definitions.
use Rattle.std.specs.Prelude.{◌≡◌, ℕ, Bool, true, false, List, [], ◌∷◌, Some, None, Option}
use Rattle.std.specs.Borrow.{Bor}
use Rattle.trees.specs.Tree.{Tree, found, changed, clash, joined_at}
use Rattle.plain.specs.declared.tree.Met.{Met}
use Rattle.plain.specs.declared.tree.Met.TheVariants.{Joined, Clash}

-- none, or one row of bytes
abbrev pub rows : Option (Bor (List ℕ)) → List (List ℕ)
rows None = []
rows (Some r) = r.now ∷ []

-- whatever the trees from which both came, and ours and theirs: if these rows are at the path, and changed or not as told, then joining leaves
-- this row there, and it is a clash or not
abbrev pub Meets : List (List ℕ) → List (List ℕ) → Bool → Bool → Bool → List (List ℕ) → Type 0
Meets ours theirs ours-changed theirs-changed clashes row =
    (bases : List Tree) (o t : Tree) (p : List ℕ) →
    found o p ≡ ours → found t p ≡ theirs → changed bases (found o p) p ≡ ours-changed → changed bases (found t p) p ≡ theirs-changed →
    (clash bases o t p ≡ clashes) × (joined_at bases o t p ≡ row)

abbrev pub is_clash : Met → Bool
is_clash (Joined _) = false
is_clash (Clash _) = true

-- the row that is left at the path
abbrev pub left : Met → List (List ℕ)
left (Joined r) = rows r
left (Clash r) = rows r
