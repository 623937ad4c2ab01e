-- What a log, the latest common commits and ids promise, as statements: each is a type whose proof stands on a contract of this crate.
use Rattle.std.specs.Prelude.{◌≡◌, ℕ, zero, suc, ◌<◌, ◌≤◌, Bool, true, false, not, ◌&&◌, List, [], ◌∷◌, ◌++◌, length, nat_lt}
use Rattle.pages.specs.Lists.{every, any, same, has}
use Rattle.history.specs.Book.{Book, Sum, nth, id, clear, back, under, common, latest_common, log}

-- A log has a commit and all it comes from, each once, each before those it comes from.
unfoldable pub Grown : Book → Type 0
Grown b = (k : ℕ) → every (λ j. nat_lt j k) (nth b k).parents ≡ true

unfoldable pub nth_or : ℕ → List ℕ → ℕ → ℕ
nth_or d [] i = d
nth_or d (k ∷ ks) zero = k
nth_or d (k ∷ ks) (suc i) = nth_or d ks i

unfoldable pub LogOrder : Type 0
LogOrder =
    (sum : Sum) (b : Book) (k : ℕ) → Grown b → k < length b →
    ((j : ℕ) → has (log sum b (k ∷ [])) j ≡ has (back b (k ∷ [])) j)
    × (length (log sum b (k ∷ [])) ≡ length (back b (k ∷ [])))
    × ((i j : ℕ) → i < j → j < length (log sum b (k ∷ [])) →
    under b (nth_or 0 (log sum b (k ∷ [])) i) (nth_or 0 (log sum b (k ∷ [])) j) ≡ false)

-- The latest that two come from: the same from either side; if one comes from the other, that other alone; and everything common comes to one of them.
unfoldable pub LatestRight : Type 0
LatestRight =
    (b : Book) (j k : ℕ) → Grown b → j < length b → k < length b →
    ((i : ℕ) → has (latest_common b j k) i ≡ has (latest_common b k j) i)
    × (under b j k ≡ true → latest_common b j k ≡ j ∷ [])
    × ((i : ℕ) → has (common b j k) i ≡ true → any (λ h. under b i h) (latest_common b j k) ≡ true)

-- Known ids tell commits apart, as long as sums do.
unfoldable pub IdsTell : Type 0
IdsTell =
    (sum : Sum) (b : Book) (j k : ℕ) → clear sum b ≡ true → j < length b → k < length b → same (id sum b j) (id sum b k) ≡ true → j ≡ k

-- What stands in the book stays as it is when more comes behind it: ids, what comes before a commit, its log.
unfoldable pub GrowsBehind : Type 0
GrowsBehind =
    (sum : Sum) (b more : Book) → Grown b →
    ((k : ℕ) → k < length b → (id sum (b ++ more) k ≡ id sum b k) × (log sum (b ++ more) (k ∷ []) ≡ log sum b (k ∷ [])))
    × ((ks : List ℕ) → every (λ k. nat_lt k (length b)) ks ≡ true → back (b ++ more) ks ≡ back b ks)

-- no number stands twice
unfoldable pub each_once : List ℕ → Bool
each_once [] = true
each_once (k ∷ ks) = not (has ks k) && each_once ks

-- What comes before some commits: these, with each its parents, and nothing but that; each once.
unfoldable pub BackRight : Type 0
BackRight =
    (b : Book) (ks : List ℕ) → Grown b →
    ((k : ℕ) → has ks k ≡ true → has (back b ks) k ≡ true)
    × ((k j : ℕ) → has (back b ks) k ≡ true → has (nth b k).parents j ≡ true → has (back b ks) j ≡ true)
    × ((all : ℕ → Bool) → every all ks ≡ true → ((k : ℕ) → all k ≡ true → every all (nth b k).parents ≡ true) → every all (back b ks) ≡ true)
    × (each_once ks ≡ true → each_once (back b ks) ≡ true)

-- A commit comes from itself; what it comes from is lower; and coming from goes on.
unfoldable pub UnderRight : Type 0
UnderRight =
    (b : Book) (i j k : ℕ) → Grown b →
    (under b k k ≡ true) × (under b j k ≡ true → j ≤ k) × (under b i j ≡ true → under b j k ≡ true → under b i k ≡ true)
