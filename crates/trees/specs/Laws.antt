-- What trees and joining promise, as statements: each is a type whose proof stands on a contract of this crate.
use Rattle.std.specs.Prelude.{◌≡◌, ℕ, true, false, List, [], ◌∷◌}
use Rattle.pages.specs.Lists.{same}
use Rattle.trees.specs.Tree.{Tree, found, put, without, rising_paths, joined, joined_at, clash, changed}

-- What is at a path after joining; and without clashes it's the same from either side. There is always a tree from which both came, if only the empty one.
unfoldable pub JoinedRight : Type 0
JoinedRight =
    (base : Tree) (more : List Tree) (ours theirs : Tree) (p : List ℕ) →
    let bases : List Tree = base ∷ more in
    (clash bases ours theirs p ≡ false → found (joined bases ours theirs) p ≡ joined_at bases ours theirs p)
    × (clash bases ours theirs p ≡ true → found (joined bases ours theirs) p ≡ found ours p)
    × (clash bases ours theirs p ≡ clash bases theirs ours p)
    × (clash bases ours theirs p ≡ false → found (joined bases ours theirs) p ≡ found (joined bases theirs ours) p)

-- What only one side changed is as that side has it.
unfoldable pub OneSide : Type 0
OneSide =
    (bases : List Tree) (ours theirs : Tree) (p : List ℕ) → changed bases (found ours p) p ≡ false →
    (clash bases ours theirs p ≡ false) × (found (joined bases ours theirs) p ≡ found theirs p)

-- What is found after a file is put or taken out, at its own path and at another; and the tree stays by rising path, each path once.
unfoldable pub FilesFound : Type 0
FilesFound =
    (t : Tree) (p b q : List ℕ) → rising_paths t ≡ true → same p q ≡ false →
    (found (put p b t) p ≡ b ∷ []) × (found (put p b t) q ≡ found t q)
    × (found (without p t) p ≡ []) × (found (without p t) q ≡ found t q)
    × (rising_paths (put p b t) ≡ true) × (rising_paths (without p t) ≡ true)

-- Two trees with the same files are one; and a tree joined from such is such.
unfoldable pub OneTree : Type 0
OneTree =
    ((t u : Tree) → rising_paths t ≡ true → rising_paths u ≡ true → ((p : List ℕ) → found t p ≡ found u p) → t ≡ u)
    × ((bases : List Tree) (ours theirs : Tree) → rising_paths ours ≡ true → rising_paths (joined bases ours theirs) ≡ true)
