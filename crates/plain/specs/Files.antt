-- What code holds of files, commits and names, as the plain definitions have them; and what joins them. Assumes nothing: these are definitions.
use Rattle.std.specs.Prelude.{◌≡◌, ℕ, List, [], ◌∷◌, Some, None, Option, Result, Ok, Err, Vec}
use Rattle.std.specs.Borrow.{Bor}
use Rattle.std.specs.BTreeMap.{BTreeMap}
use Rattle.std.specs.Global.{Global}
use Rattle.pages.specs.Lists.{each}
use Rattle.trees.specs.Tree.{File, Tree, found, mark}
use Rattle.history.specs.Book.{Book, Commit}
use Rattle.house.specs.House.{Clone, Ref}
use Rattle.plain.specs.declared.tree.Tree.{Tree as Held}
use Rattle.plain.specs.declared.book.Commit.{Commit as HeldCommit}
use Rattle.plain.specs.declared.book.Book.{Book as HeldBook}
use Rattle.plain.specs.declared.houses.House.{House as HeldHouse}
use Rattle.plain.specs.declared.houses.Shown.{Shown}
use Rattle.plain.specs.declared.houses.Trouble.{Trouble}
use Rattle.plain.specs.declared.houses.Trouble.TheVariants.{Memory, Refused}
use Rattle.commands.specs.Refusal.{number_of}
use Rattle.commands.specs.declared.refusal.Refusal.{Refusal}
use Rattle.std.specs.declared.alloc.AllocError.{AllocError}

abbrev pub file_of : Vec ℕ Global × Vec ℕ Global → File
file_of e = record { path = e.0.items; bytes = e.1.items }

-- the tree that code holds
abbrev pub held : Held → Tree
held t = each file_of t.files.entries

-- the tree that code found; an empty one where it found none
abbrev pub held_or_empty : Option (Bor Held) → Tree
held_or_empty None = []
held_or_empty (Some t) = held t.now

abbrev pub commit_of : HeldCommit → Commit
commit_of c = record { parents = c.parents.items; tree = held c.tree; stamp = c.stamp; words = c.words.items }

abbrev pub book_of : HeldBook → Book
book_of b = each commit_of b.commits.items

-- a number, or none
abbrev pub one : Option ℕ → List ℕ
one None = []
one (Some k) = k ∷ []

abbrev pub name_of : Vec ℕ Global × ℕ → Ref
name_of e = record { name = e.0.items; to = e.1 }

abbrev pub names_of : BTreeMap (Vec ℕ Global) ℕ → List Ref
names_of m = each name_of m.entries

-- the plain house that code holds
abbrev pub house_of : HeldHouse → Clone
house_of x = record {
  branches = names_of x.branches;
  tags = names_of x.tags;
  others = names_of x.others;
  here = x.here.items;
  work = held x.work;
  joining = one x.joining;
  unsettled = each (λ p. p.items) x.unsettled.keys;
}

abbrev pub marked : Option ℕ → List ℕ → List (List ℕ)
marked None p = []
marked (Some kind) p = (kind ∷ p) ∷ []

-- whatever the trees: if these rows are at the path, in the old one and now, then this mark is what differs there
abbrev pub Marks : List (List ℕ) → List (List ℕ) → Option ℕ → Type 0
Marks was is kind = (old now : Tree) (p : List ℕ) → found old p ≡ was → found now p ≡ is → mark old now p ≡ marked kind p

abbrev pub rows_shown : Shown → List (List ℕ)
rows_shown s = each (λ r. r.items) s.rows.items

-- these rows are shown; refused with 3 where there is none
abbrev pub Shows : Result Shown Trouble → List (List ℕ) → Type 0
Shows (Ok s) rs = rows_shown s ≡ rs
Shows (Err (Memory e)) rs = Unit {0}
Shows (Err (Refused why)) rs = (number_of why ≡ 3) × (rs ≡ [])

-- the work is this afterwards; or the command is refused by this number, and this holds of the rows that were at the path
abbrev pub Works : Result Shown Trouble → Tree → Tree → ℕ → Type 0 → Type 0
Works (Ok s) new wanted n P = new ≡ wanted
Works (Err (Memory e)) new wanted n P = Unit {0}
Works (Err (Refused why)) new wanted n P = (number_of why ≡ n) × P

-- the commit for a new name, or the reply by which it is refused
abbrev pub NewName : Result ℕ Refusal → List ℕ → ℕ → Type 0
NewName (Ok k) ks reply = (ks ≡ k ∷ []) × (reply ≡ 0)
NewName (Err why) ks reply = number_of why ≡ reply

abbrev pub IsMemory : Trouble → Type 0
IsMemory trouble = (e : AllocError) × (trouble ≡ Memory e)

-- done where the reply is 0, and refused by it where it is not
abbrev pub Replies : Result Shown Trouble → ℕ → Type 0
Replies (Ok s) reply = reply ≡ 0
Replies (Err (Memory e)) reply = Unit {0}
Replies (Err (Refused why)) reply = number_of why ≡ reply
