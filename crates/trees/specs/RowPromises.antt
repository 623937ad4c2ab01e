-- What tree rows promise, as statements: each is a type whose proof stands on a contract of this crate.
use Rattle.std.specs.Prelude.{◌≡◌, ℕ, ◌+◌, ◌≤◌, Bool, true, false, not, List, [], ◌∷◌, ◌++◌, length, Some, None, Ok, Err, Option, nat_le, slice_index}
use Rattle.pages.specs.Lists.{pick, each, flat, has, same, earlier, none_of}
use Rattle.trees.specs.declared.rows.Refused.TheVariants.{Full}
use Rattle.trees.specs.Tree.{Tree, found, put, without, same_tree, both, paths, mark}
use Rattle.trees.specs.Row.{key_of, path_of, room, entries_of, references, find_in, put_in, put_answer, take_from, taken_from}
use Rattle.trees.specs.Packed.{squeezed, spread_fits, spread_into}
use Rattle.trees.specs.Differ.{answers, shown}
use Rattle.trees.specs.RowOf.{proper, RowOf}

-- Keys are ordered as paths are, and a key gives its path back.
unfoldable pub KeysOrdered : Type 0
KeysOrdered =
    (p q : List ℕ) → proper p ≡ true → proper q ≡ true →
    (earlier (key_of p) (key_of q) ≡ earlier p q) × (same (key_of p) (key_of q) ≡ same p q) × (path_of (key_of p) ≡ p)

-- A row that says that it has no files and no weight is the empty tree.
unfoldable pub EmptyRight : Type 0
EmptyRight = (stands : ℕ → List ℕ) (ws : List ℕ) → 2 ≤ length ws → slice_index ws 0 ≡ 0 → slice_index ws 1 ≡ 0 → RowOf stands ws []

abbrev pub listed : Option ℕ → List ℕ
listed None = []
listed (Some r) = r ∷ []

-- What is found stands for what the tree has at the path.
unfoldable pub FindsRight : Type 0
FindsRight = (stands : ℕ → List ℕ) (ws : List ℕ) (t : Tree) (p : List ℕ) → RowOf stands ws t → proper p ≡ true → each stands (listed (find_in p ws)) ≡ found t p

-- A file is put as the tree puts it, unless there would be too many; then the row stays.
unfoldable pub PutsRight : Type 0
PutsRight =
    (stands : ℕ → List ℕ) (ws : List ℕ) (t : Tree) (p : List ℕ) (r : ℕ) → RowOf stands ws t → proper p ≡ true →
    let fits : Bool = nat_le (length (put p (stands r) t)) (room ws) in
    (put_answer p r ws ≡ pick fits (Ok tt) (Err Full)) × (fits ≡ true → RowOf stands (put_in p r ws) (put p (stands r) t)) × (fits ≡ false → put_in p r ws ≡ ws)

-- A file is taken out as the tree does it, and the answer says whether there was one.
unfoldable pub TakesRight : Type 0
TakesRight =
    (stands : ℕ → List ℕ) (ws : List ℕ) (t : Tree) (p : List ℕ) → RowOf stands ws t → proper p ≡ true →
    (taken_from p ws ≡ not (none_of (found t p))) × RowOf stands (take_from p ws) (without p t)

-- among the references of two rows, equal bytes mean equal references
abbrev pub Apart : (ℕ → List ℕ) → List ℕ → List ℕ → Type 0
Apart stands xs ys = (i j : ℕ) → has (references xs) i ≡ true → has (references ys) j ≡ true → stands i ≡ stands j → i ≡ j

-- Two rows are the same exactly if their trees are.
unfoldable pub SameRight : Type 0
SameRight =
    (stands : ℕ → List ℕ) (xs ys : List ℕ) (t u : Tree) → RowOf stands xs t → RowOf stands ys u → Apart stands xs ys →
    same_tree (entries_of xs) (entries_of ys) ≡ same_tree t u

-- A row that was stored, and spread into any row with room for its files, gives its entries and its weight; spread into itself it stays.
unfoldable pub StoredRight : Type 0
StoredRight =
    (stands : ℕ → List ℕ) (ws : List ℕ) (t : Tree) (z into : List ℕ) → RowOf stands ws t → 2 ≤ length into → length t ≤ room into →
    (spread_fits (squeezed ws ++ z) into ≡ true) × RowOf stands (spread_into (squeezed ws ++ z) into) t × (spread_into (squeezed ws ++ z) ws ≡ ws)

-- All differences, one answer after another, are the marks of the two trees, path by path.
unfoldable pub DiffersRight : Type 0
DiffersRight =
    (stands : ℕ → List ℕ) (xs ys : List ℕ) (t u : Tree) (n : ℕ) → RowOf stands xs t → RowOf stands ys u → Apart stands xs ys → length t + length u ≤ n →
    each (shown xs ys) (answers n xs ys (record { old = 0; new = 0 })) ≡ flat (mark t u) (paths (both t u))
