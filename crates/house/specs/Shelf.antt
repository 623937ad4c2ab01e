-- What a house that notes versions holds on its tape, for the plain house that it stands for. Assumes nothing: these are definitions.
use Rattle.std.specs.Prelude.{◌≡◌, ℕ, ◌+◌, ◌-◌, ◌*◌, ◌<◌, ◌≤◌, true, ◌⊎◌, List, [], ◌∷◌, ◌++◌, length, take, drop, ◌==◌, slice_index}
use Rattle.pages.specs.Lists.{pick, each, has, zeros}
use Rattle.pages.specs.Words.{bytes_of, words}
use Rattle.pages.specs.Object.{size_of, kind_of, own_weight, references_of, object_at}
use Rattle.pages.specs.Tape.{first_page, last_page}
use Rattle.objects.specs.Heap.{Live, Heap}
use Rattle.objects.specs.Layouts.{commit_object, file_bytes, file_object, packed_bytes, tree_weight_in}
use Rattle.objects.specs.Room.{reserve}
use Rattle.objects.specs.Sweeping.{roots_of}
use Rattle.trees.specs.Tree.{Tree}
use Rattle.trees.specs.Row.{room}
use Rattle.trees.specs.RowOf.{weight_of, RowOf}
use Rattle.trees.specs.Packed.{spread_fits, spread_into}
use Rattle.history.specs.Book.{Book, Sum, nth, id}
use Rattle.commands.specs.Command.{a_text}
use Rattle.house.specs.House.{Plain, Clone, Ref, clone_at, weight}
use Rattle.house.specs.Facts.{Fine}
use Rattle.house.specs.Control.{the_branch}
use Rattle.house.specs.declared.control.Control.{Control}

-- the bytes of the file that a reference names
abbrev pub bytes_at : List ℕ → ℕ → List ℕ
bytes_at t r = take (file_bytes (object_at t r)) (bytes_of (drop 6 (object_at t r)))

-- a file, under its own sum
pub record FileAt (sum : Sum) (t : List ℕ) (r : ℕ) : Type 0 where
  pub one : 1 ≤ r
  pub text : a_text (bytes_at t r) ≡ true
  pub is : object_at t r ≡ file_object (words 4 (sum (bytes_at t r))) (length (bytes_at t r)) (packed_bytes (bytes_at t r))

-- a tree: in any row that has room it is spread as the plain tree, and it names files
pub record TreeAt (sum : Sum) (t : List ℕ) (r : ℕ) (tree : Tree) : Type 0 where
  pub one : 1 ≤ r
  pub kind : kind_of (object_at t r) ≡ 2
  pub light : own_weight (object_at t r) ≡ 0
  pub weighs : tree_weight_in (object_at t r) ≡ weight_of tree
  pub short : 8 * size_of (object_at t r) + 41 * length (references_of (object_at t r)) ≤ weight_of tree + 24
  pub named : (s : ℕ) → has (references_of (object_at t r)) s ≡ true → FileAt sum t s
  pub files : each (bytes_at t) (references_of (object_at t r)) ≡ each (λ f. f.bytes) tree
  pub spreads :
      (z into : List ℕ) → 2 ≤ length into → length tree ≤ room into →
      (spread_fits (object_at t r ++ z) into ≡ true) × RowOf (bytes_at t) (spread_into (object_at t r ++ z) into) tree

-- the tree that a head or a commit names: none is the empty one
abbrev pub WorkAt : Sum → List ℕ → ℕ → Tree → Type 0
WorkAt sum t r tree = ((r ≡ 0) × (tree ≡ [])) ⊎ TreeAt sum t r tree

-- what a commit names: its tree, and the commit from which it comes
abbrev pub tree_named : List ℕ → ℕ
tree_named o = slice_index o 2

abbrev pub parent_named : List ℕ → ℕ
parent_named o = slice_index o 3

-- a commit that is named, or none, by its number in the book
abbrev pub Numbered : (ℕ → ℕ) → List ℕ → ℕ → List ℕ → Type 0
Numbered number t r ks = ((r ≡ 0) × (ks ≡ [])) ⊎ ((1 ≤ r) × (kind_of (object_at t r) ≡ 3) × (ks ≡ number r ∷ []))

-- a commit with its number in the book, under its id; none has a second parent
pub record CommitAt (sum : Sum) (b : Book) (number : ℕ → ℕ) (t : List ℕ) (r : ℕ) : Type 0 where
  pub one : 1 ≤ r
  pub noted : number r < length b
  pub is :
      object_at t r
      ≡ commit_object (tree_named (object_at t r)) (parent_named (object_at t r)) 0 (words 4 (id sum b (number r))) (nth b (number r)).stamp
      (weight_of (nth b (number r)).tree) (length (nth b (number r)).words) (packed_bytes (nth b (number r)).words)
  pub tree : WorkAt sum t (tree_named (object_at t r)) (nth b (number r)).tree
  pub parent : Numbered number t (parent_named (object_at t r)) (nth b (number r)).parents

-- what stands there
pub data Thing (sum : Sum) (b : Book) (number : ℕ → ℕ) (t : List ℕ) (r : ℕ) : Type 0 where
  a_file : FileAt sum t r → Thing sum b number t r
  a_tree : (u : Tree) → TreeAt sum t r u → Thing sum b number t r
  a_commit : CommitAt sum b number t r → Thing sum b number t r

-- All that is live is a file, a tree or a commit of the book; each different file and each commit is there once.
pub record Stored (sum : Sum) (b : Book) (number : ℕ → ℕ) (t roots : List ℕ) : Type 0 where
  pub thing : (r : ℕ) → Live t roots r → Thing sum b number t r
  pub files_once :
      (r s : ℕ) → Live t roots r → Live t roots s → kind_of (object_at t r) ≡ 1 → kind_of (object_at t s) ≡ 1 → bytes_at t r ≡ bytes_at t s → r ≡ s
  pub commits_once :
      (r s : ℕ) → Live t roots r → Live t roots s → kind_of (object_at t r) ≡ 3 → kind_of (object_at t s) ≡ 3 → number r ≡ number s → r ≡ s

-- what the head names
abbrev pub work_root : List ℕ → ℕ
work_root h = slice_index h 2

abbrev pub tip_root : List ℕ → ℕ
tip_root h = slice_index h 3

-- the files that a tree names
abbrev pub files_named : List ℕ → ℕ → List ℕ
files_named t r = pick (r == 0) [] (references_of (object_at t r))

-- a plain house that works on the one branch, which may have a commit
abbrev pub at_branch : ℕ → Ref
at_branch k = record { name = the_branch; to = k }

abbrev pub keeping : Tree → List ℕ → Clone
keeping tree tips =
    record { branches = each at_branch tips; tags = []; others = []; here = the_branch; work = tree; joining = []; unsettled = [] }

-- The head names the tree in work and the branch's commit, and nothing else; all that is live stands in its place; no more than a quarter of the pages is kept, and
-- the ring has room for one copy of it.
pub record Shelf (sum : Sum) (pages : ℕ) (b : Book) (number : ℕ → ℕ) (h t : List ℕ) (tree : Tree) (tips : List ℕ) : Type 0 where
  pub whole : length t ≡ 64 * last_page h
  pub others : drop 4 h ≡ zeros 28
  pub heap : Heap t (8 * first_page h) (8 * last_page h) (roots_of h)
  pub stored : Stored sum b number t (roots_of h)
  pub work : WorkAt sum t (work_root h) tree
  pub tip : Numbered number t (tip_root h) tips
  pub weight : weight b (keeping tree tips) ≤ 128 * pages
  pub ring : last_page h + reserve pages ≤ first_page h + (pages - 1)

-- what a house's tape stands for: page numbers are bounded by what may still happen
pub record Stands (sum : Sum) (pages things c : ℕ) (w : Plain) (h t : List ℕ) : Type 0 where
  pub tree : Tree
  pub tips : List ℕ
  pub number : ℕ → ℕ
  pub clone : clone_at w.clones c ≡ keeping tree tips
  pub shelf : Shelf sum pages w.book number h t tree tips
  pub bounded : last_page h + 2097152 * things ≤ 18014398509481984

-- a house that works on the one branch
abbrev pub Bare : Clone → Type 0
Bare x = (tips : List ℕ) × (length tips ≤ 1) × (x ≡ keeping x.work tips)

-- what is known of the plain houses: no commit comes from two, and each house has the one branch
pub record Simple (houses things : ℕ) (w : Plain) : Type 0 where
  pub fine : Fine w
  pub single : (k : ℕ) → length (nth w.book k).parents ≤ 1
  pub many : length w.clones ≡ houses
  pub bare : (c : ℕ) → Bare (clone_at w.clones c)

-- what a house remembers
pub record Remembers (pages c : ℕ) (k : Control) : Type 0 where
  pub house : k.house ≡ c
  pub pages_are : k.pages ≡ pages
