-- Where two trees differ, path by path in rising order, one at a time. Assumes nothing: these are definitions.
use Rattle.std.specs.Prelude.{ℕ, zero, suc, ◌+◌, ◌*◌, Bool, false, ◌&&◌, List, [], ◌∷◌, take, drop, Some, None, Option}
use Rattle.pages.specs.Lists.{pick, same, earlier}
use Rattle.trees.specs.Tree.{Tree}
use Rattle.trees.specs.Row.{path_of, entries_of}
use Rattle.trees.specs.declared.differences.Cursor.{Cursor}
use Rattle.trees.specs.declared.differences.Place.{Place}
use Rattle.trees.specs.declared.differences.Place.TheVariants.{New, Changed, Gone}
use Rattle.trees.specs.declared.differences.Difference.{Difference}

-- a difference at a place, and from where to go on
abbrev pub differs : Place → ℕ → ℕ → Option Difference
differs m i j = Some (record { place = m; next = record { old = i; new = j } })

-- whether the first files of two lists are one
abbrev pub meets : Tree → Tree → Bool
meets [] gs = false
meets (f ∷ fs) [] = false
meets (f ∷ fs) (g ∷ gs) = same f.path g.path && same f.bytes g.bytes

-- how the first files of two lists differ, where i and j files came before them
abbrev pub difference_here : Tree → Tree → ℕ → ℕ → Option Difference
difference_here [] [] i j = None
difference_here [] (g ∷ gs) i j = differs (New j) i (j + 1)
difference_here (f ∷ fs) [] i j = differs (Gone i) (i + 1) j
difference_here (f ∷ fs) (g ∷ gs) i j =
    pick (same f.path g.path) (differs (Changed j) (i + 1) (j + 1)) (pick (earlier f.path g.path) (differs (Gone i) (i + 1) j) (differs (New j) i (j + 1)))

-- the first difference of two lists
unfoldable pub first_difference : Tree → Tree → ℕ → ℕ → Option Difference
first_difference [] gs i j = difference_here [] gs i j
first_difference (f ∷ fs) [] i j = difference_here (f ∷ fs) [] i j
first_difference (f ∷ fs) (g ∷ gs) i j = pick (meets (f ∷ fs) (g ∷ gs)) (first_difference fs gs (i + 1) (j + 1)) (difference_here (f ∷ fs) (g ∷ gs) i j)

-- the first difference of two rows from a place in each on
unfoldable pub difference_from : List ℕ → List ℕ → Cursor → Option Difference
difference_from xs ys c = first_difference (drop c.old (entries_of xs)) (drop c.new (entries_of ys)) c.old c.new

-- the answers one after another from a cursor on, at most n of them
unfoldable pub answers : ℕ → List ℕ → List ℕ → Cursor → List Place
answers zero xs ys c = []
answers (suc n) xs ys c = elim (difference_from xs ys c) [ None ↦ [] | Some d ↦ d.place ∷ answers n xs ys d.next ]

-- the path of a file of a row
abbrev pub path_in : List ℕ → ℕ → List ℕ
path_in ws i = path_of (take 9 (drop (10 * i + 2) ws))

-- what is shown of a difference: 1 new, 2 changed, 3 gone, and the path
abbrev pub shown : List ℕ → List ℕ → Place → List ℕ
shown xs ys (New j) = 1 ∷ path_in ys j
shown xs ys (Changed j) = 2 ∷ path_in ys j
shown xs ys (Gone i) = 3 ∷ path_in xs i
