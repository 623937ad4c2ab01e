-- A book in which no commit has more than one parent: what a commit comes from is a chain. Assumes nothing: these are definitions.
use Rattle.std.specs.Prelude.{◌≡◌, ℕ, zero, suc, ◌<◌, ◌≤◌, List, [], ◌∷◌, length}
use Rattle.history.specs.Book.{Book, Sum, nth, log}
use Rattle.history.specs.Laws.{Grown}

abbrev pub Single : Book → Type 0
Single b = (k : ℕ) → length (nth b k).parents ≤ 1

-- a commit and what it comes from, one after another, so many at most
unfoldable pub chain_from : ℕ → Book → List ℕ → List ℕ
chain_from zero b ks = []
chain_from (suc n) b [] = []
chain_from (suc n) b (k ∷ ks) = k ∷ chain_from n b (nth b k).parents

-- A log is then that chain.
unfoldable pub ChainLog : Type 0
ChainLog = (sum : Sum) (b : Book) (k : ℕ) → Grown b → Single b → k < length b → log sum b (k ∷ []) ≡ chain_from (length b) b (k ∷ [])
