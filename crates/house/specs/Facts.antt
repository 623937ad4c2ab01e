-- What holds of the plain houses at all times: at the start, and after every turn of a command that fits.
use Rattle.std.specs.Prelude.{◌≡◌, ℕ, ◌<◌, ◌≤◌, Bool, true, not, ◌&&◌, List, [], ◌∷◌, ◌++◌, length, nat_lt}
use Rattle.pages.specs.Lists.{every, any, each, same, none_of, so_many}
use Rattle.trees.specs.Tree.{Tree, File, rising_paths}
use Rattle.history.specs.Book.{Book, Commit, Sum, nth}
use Rattle.commands.specs.Command.{Command, a_name, a_ref, a_text, fits}
use Rattle.house.specs.House.{Plain, Clone, Ref, turn, clone_at, ref_of, empty_clone}

-- no row stands twice
unfoldable pub all_differ : List (List ℕ) → Bool
all_differ [] = true
all_differ (p ∷ ps) = not (any (same p) ps) && all_differ ps

abbrev pub a_file : File → Bool
a_file f = a_name f.path && a_text f.bytes

-- by rising path, each path once, at most 4,096 files, each within its bounds
pub record FineTree (t : Tree) : Type 0 where
  pub rising : rising_paths t ≡ true
  pub few : length t ≤ 4096
  pub files : every a_file t ≡ true

-- a commit with its number
pub record FineCommit (k : ℕ) (c : Commit) : Type 0 where
  pub lower : every (λ j. nat_lt j k) c.parents ≡ true
  pub two : length c.parents ≤ 2
  pub tree : FineTree c.tree
  pub stamp : c.stamp < 18446744073709551616
  pub words : a_text c.words ≡ true

-- no commit stands twice
pub record FineBook (b : Book) : Type 0 where
  pub commits : (k : ℕ) → FineCommit k (nth b k)
  pub once : (j k : ℕ) → j < length b → k < length b → nth b j ≡ nth b k → j ≡ k

-- names that are told apart, each of a commit in a book with so many
pub record FineRefs (n : ℕ) (named : List ℕ → Bool) (rs : List Ref) : Type 0 where
  pub names : every (λ r. named r.name) rs ≡ true
  pub differ : all_differ (each (λ r. r.name) rs) ≡ true
  pub into : every (λ r. nat_lt r.to n) rs ≡ true

-- the names of a house beside a book with so many commits; neither a branch nor the one on which one works has the name of a tag
pub record FineNames (n : ℕ) (branches tags others : List Ref) (here : List ℕ) : Type 0 where
  pub branch_names : FineRefs n a_name branches
  pub tag_names : FineRefs n a_name tags
  pub other_names : FineRefs n a_ref others
  pub apart : all_differ (each (λ r. r.name) (branches ++ tags)) ≡ true
  pub named : a_name here ≡ true
  pub untagged : none_of (ref_of tags here) ≡ true

-- what it has in work; at most one commit is being joined, and at most 8,192 paths clash
pub record FineWork (n : ℕ) (work : Tree) (joining : List ℕ) (unsettled : List (List ℕ)) : Type 0 where
  pub tree : FineTree work
  pub into : every (λ j. nat_lt j n) joining ≡ true
  pub one : length joining ≤ 1
  pub clashing : every a_name unsettled ≡ true
  pub differ : all_differ unsettled ≡ true
  pub few : length unsettled ≤ 8192

pub record FineClone (n : ℕ) (x : Clone) : Type 0 where
  pub names : FineNames n x.branches x.tags x.others x.here
  pub state : FineWork n x.work x.joining x.unsettled

pub record Fine (w : Plain) : Type 0 where
  pub book : FineBook w.book
  pub clones : (c : ℕ) → FineClone (length w.book) (clone_at w.clones c)

-- Houses are fine at the start, and every turn of a command that fits keeps them so.
unfoldable pub StaysFine : Type 0
StaysFine =
    ((houses : ℕ) → Fine (record { book = []; clones = so_many houses empty_clone }))
    × ((sum : Sum) (w : Plain) (c : ℕ) (a : Command) → fits a ≡ true → Fine w → Fine (turn sum w c (clone_at w.clones c) a).next)
