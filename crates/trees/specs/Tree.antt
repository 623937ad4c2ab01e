-- Paths, files, trees, and how two trees are put together. Assumes nothing: these are definitions.
use Rattle.std.specs.Prelude.{ℕ, Bool, true, false, not, ◌&&◌, List, [], ◌∷◌, ◌++◌}
use Rattle.pages.specs.Lists.{pick, every, each, those, same, earlier, none_of}

pub record File : Type 0 where
  pub path : List ℕ
  pub bytes : List ℕ

-- by rising path, each path once
abbrev pub Tree : Type 0
Tree = List File

-- what is at a path: none, or one row of bytes
unfoldable pub found : Tree → List ℕ → List (List ℕ)
found [] p = []
found (f ∷ fs) p = pick (same f.path p) (f.bytes ∷ []) (found fs p)

unfoldable pub alike : List (List ℕ) → List (List ℕ) → Bool
alike [] [] = true
alike [] (b ∷ bs) = false
alike (a ∷ qs) [] = false
alike (a ∷ qs) (b ∷ bs) = same a b && alike qs bs

unfoldable pub put : List ℕ → List ℕ → Tree → Tree
put p b [] = record { path = p; bytes = b } ∷ []
put p b (f ∷ fs) =
    pick (same p f.path) (record { path = p; bytes = b } ∷ fs)
    (pick (earlier p f.path) (record { path = p; bytes = b } ∷ f ∷ fs) (f ∷ put p b fs))

unfoldable pub without : List ℕ → Tree → Tree
without p [] = []
without p (f ∷ fs) = pick (same p f.path) fs (f ∷ without p fs)

unfoldable pub set : List ℕ → List (List ℕ) → Tree → Tree
set p [] t = without p t
set p (b ∷ bs) t = put p b t

unfoldable pub same_tree : Tree → Tree → Bool
same_tree [] [] = true
same_tree [] (g ∷ gs) = false
same_tree (f ∷ fs) [] = false
same_tree (f ∷ fs) (g ∷ gs) = (same f.path g.path && same f.bytes g.bytes) && same_tree fs gs

abbrev pub paths : Tree → List (List ℕ)
paths fs = each (λ f. f.path) fs

-- what is at a path when our tree and theirs are put together, given the trees from which both came
unfoldable pub changed : List Tree → List (List ℕ) → List ℕ → Bool
changed bases here p = not (every (λ b. alike (found b p) here) bases)

unfoldable pub clash : List Tree → Tree → Tree → List ℕ → Bool
clash bases ours theirs p =
    not (alike (found ours p) (found theirs p)) && (changed bases (found ours p) p && changed bases (found theirs p) p)

unfoldable pub joined_at : List Tree → Tree → Tree → List ℕ → List (List ℕ)
joined_at bases ours theirs p =
    pick (alike (found ours p) (found theirs p)) (found ours p)
    (pick (changed bases (found ours p) p) (found ours p) (found theirs p))

unfoldable pub joined_over : List Tree → Tree → Tree → List (List ℕ) → Tree → Tree
joined_over bases ours theirs [] t = t
joined_over bases ours theirs (p ∷ ps) t = joined_over bases ours theirs ps (set p (joined_at bases ours theirs p) t)

-- at a clash ours stands
abbrev pub joined : List Tree → Tree → Tree → Tree
joined bases ours theirs = joined_over bases ours theirs (paths theirs ++ paths ours) ours

-- all paths of two trees, rising
unfoldable pub both : Tree → Tree → Tree
both t [] = t
both t (f ∷ fs) = both (put f.path f.bytes t) fs

abbrev pub clashes : List Tree → Tree → Tree → List (List ℕ)
clashes bases ours theirs = those (clash bases ours theirs) (paths (both ours theirs))

-- a tree as a house keeps it: by rising path, each path once
unfoldable pub rising_paths : Tree → Bool
rising_paths [] = true
rising_paths (f ∷ fs) = every (λ g. earlier f.path g.path) fs && rising_paths fs

-- what differs from an older tree at a path: 1 new, 2 changed, 3 gone
unfoldable pub mark : Tree → Tree → List ℕ → List (List ℕ)
mark old now p =
    pick (alike (found old p) (found now p)) []
    ((pick (none_of (found old p)) 1 (pick (none_of (found now p)) 3 2) ∷ p) ∷ [])
