-- The names of a house's branches: which of them the head tells, and which a list on the tape. Assumes nothing: these are definitions.
use Rattle.std.specs.Prelude.{◌≡◌, ℕ, ◌+◌, ◌≤◌, true, false, List, [], ◌∷◌, ◌++◌, length, slice_index}
use Rattle.pages.specs.Lists.{each, same}
use Rattle.pages.specs.Object.{kind_of, object_at}
use Rattle.objects.specs.Layouts.{name_object, packed_bytes}
use Rattle.commands.specs.Command.{a_name}
use Rattle.house.specs.House.{Ref, Clone, ref_of}
use Rattle.house.specs.Facts.{all_differ}
use Rattle.trees.specs.Tree.{Tree}

-- what a name's object names: the next name, and the branch's commit
abbrev pub next_named : List ℕ → ℕ
next_named o = slice_index o 2

abbrev pub commit_named : List ℕ → ℕ
commit_named o = slice_index o 3

-- a branch, with its commit by its number in the book
pub record NameAt (number : ℕ → ℕ) (t : List ℕ) (r : ℕ) (n : Ref) : Type 0 where
  pub one : 1 ≤ r
  pub named : a_name n.name ≡ true
  pub is : object_at t r ≡ name_object (next_named (object_at t r)) (commit_named (object_at t r)) 1 (length n.name) (packed_bytes n.name)
  pub some : 1 ≤ commit_named (object_at t r)
  pub kind : kind_of (object_at t (commit_named (object_at t r))) ≡ 3
  pub to : number (commit_named (object_at t r)) ≡ n.to

-- a list of them, from the first one's reference on: 0 is the empty one
pub data Names (number : ℕ → ℕ) (t : List ℕ) : ℕ → List Ref → Type 0 where
  no_names : (r : ℕ) → r ≡ 0 → Names number t r []
  one_more : (r : ℕ) (n : Ref) (ns : List Ref) → NameAt number t r n → Names number t (next_named (object_at t r)) ns → Names number t r (n ∷ ns)

abbrev pub names_in : List Ref → List (List ℕ)
names_in rs = each (λ r. r.name) rs

-- A house's branches, in the order in which they came; the one worked on, which may have a commit; and all others, in any order, each once.
pub record Branches (bs : List Ref) (here : List ℕ) (tips : List ℕ) (ns : List Ref) : Type 0 where
  pub here_is : ref_of bs here ≡ tips
  pub none_here : ref_of ns here ≡ []
  pub others : (n : List ℕ) → same n here ≡ false → ref_of bs n ≡ ref_of ns n
  pub once : all_differ (names_in bs) ≡ true
  pub names_once : all_differ (names_in ns) ≡ true
  pub many : length bs ≡ length tips + length ns

-- a house with these branches that keeps a tree in work and joins nothing
abbrev pub with_branches : List Ref → List ℕ → Tree → Clone
with_branches bs here tree = record { branches = bs; tags = []; others = []; here = here; work = tree; joining = []; unsettled = [] }

-- the branch worked on first
abbrev pub here_first : List ℕ → List ℕ → List Ref → List Ref
here_first here tips ns = each (λ k. record { name = here; to = k }) tips ++ ns
