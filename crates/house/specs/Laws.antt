-- What the plain houses promise, as statements: each is a type whose proof stands on a contract of this crate.
use Rattle.std.specs.Prelude.{◌≡◌, ℕ, ◌<◌, Bool, true, ◌&&◌, ltb, List, [], ◌∷◌, ◌++◌, length, nat_le, nat_lt}
use Rattle.pages.specs.Lists.{or, every, same, has}
use Rattle.trees.specs.Tree.{found, alike, joined, both, rising_paths}
use Rattle.history.specs.Book.{Book, Sum, nth}
use Rattle.history.specs.Laws.{Grown, each_once}
use Rattle.commands.specs.Command.{Command}
use Rattle.house.specs.House.{Plain, Clone, Way, turn, clone_at, carry_all, all_refs, reached, weight}
use Rattle.house.specs.Promise.{Never}

-- Commits of a chain, carried one by one onto another commit that changed other paths, come to what joining gives, if the files of that commit and of each carried one, put together, are at most 4,096.
unfoldable pub chain : Book → ℕ → List ℕ → Bool
chain b i [] = true
chain b i (k ∷ ks) = same (nth b k).parents (i ∷ []) && (nat_lt k (length b) && chain b k ks)

unfoldable pub last_or : ℕ → List ℕ → ℕ
last_or d [] = d
last_or d (k ∷ ks) = last_or k ks

unfoldable pub CarriedJoined : Type 0
CarriedJoined =
    (b : Book) (i j : ℕ) (ks : List ℕ) → j < length b → chain b i ks ≡ true →
    ((p : List ℕ) → or (alike (found (nth b j).tree p) (found (nth b i).tree p))
    (every (λ k. alike (found (nth b k).tree p) (found (nth b i).tree p)) ks) ≡ true) →
    every (λ k. rising_paths (nth b k).tree && nat_le (length (both (nth b j).tree (nth b k).tree)) 4096) (j ∷ ks) ≡ true →
    let v : Way = carry_all (record { book = b; at = j; made = []; well = true }) ks in
    (v.well ≡ true)
    × ((p : List ℕ) → found (nth v.book v.at).tree p ≡ found (joined ((nth b i).tree ∷ []) (nth b j).tree (nth b (last_or i ks)).tree) p)

-- What is done at one house changes no other; and the book only grows.
unfoldable pub Apart : Type 0
Apart =
    (sum : Sum) (w : Plain) (c d : ℕ) (a : Command) → (c ≡ d → Never) →
    (clone_at (turn sum w c (clone_at w.clones c) a).next.clones d ≡ clone_at w.clones d)
    × ((more : Book) × ((turn sum w c (clone_at w.clones c) a).next.book ≡ w.book ++ more))

-- What a house can reach has each commit once.
unfoldable pub ReachOnce : Type 0
ReachOnce = (b : Book) (x : Clone) → each_once (reached b x) ≡ true

-- What a house has to keep depends on what it can reach and has in work, and on how many names it has; not on their order.
unfoldable pub WeightByReach : Type 0
WeightByReach =
    (b : Book) (x y : Clone) → ((k : ℕ) → has (reached b x) k ≡ has (reached b y) k) → x.work ≡ y.work → length (all_refs x) ≡ length (all_refs y) →
    weight b x ≡ weight b y

-- What a house can reach and has to keep stays as it is when the book grows.
unfoldable pub WeightStays : Type 0
WeightStays =
    (b more : Book) (x : Clone) → Grown b →
    every (λ r. ltb r.to (length b)) (all_refs x) ≡ true → every (λ j. ltb j (length b)) x.joining ≡ true →
    (reached (b ++ more) x ≡ reached b x) × (weight (b ++ more) x ≡ weight b x)
