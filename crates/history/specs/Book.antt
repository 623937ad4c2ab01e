-- All commits there ever were, numbered as they came; their ids; which come before which. Assumes nothing: these are definitions.
use Rattle.std.specs.Prelude.{ℕ, zero, suc, Bool, true, not, ◌&&◌, List, [], ◌∷◌, ◌++◌, length, ◌==◌, nat_lt}
use Rattle.pages.specs.Lists.{pick, or, every, any, each, those, flat, same, earlier, has}
use Rattle.pages.specs.Bytes.{eight, with_length}
use Rattle.trees.specs.Tree.{Tree, File, same_tree}

pub record Commit : Type 0 where
  pub parents : List ℕ  -- numbers of commits, all lower than its own
  pub tree : Tree
  pub stamp : ℕ
  pub words : List ℕ

abbrev pub Book : Type 0
Book = List Commit

abbrev pub no_commit : Commit
no_commit = record { parents = []; tree = []; stamp = 0; words = [] }

unfoldable pub nth : Book → ℕ → Commit
nth [] k = no_commit
nth (c ∷ cs) zero = c
nth (c ∷ cs) (suc k) = nth cs k

-- a sum over bytes; the house's own is that of FIPS 180-4 with 256 bits, but nothing below rests on which it is
abbrev pub Sum : Type 0
Sum = List ℕ → List ℕ

unfoldable pub file_spelled : Sum → File → List ℕ
file_spelled sum f = with_length f.path ++ with_length (sum f.bytes)

abbrev pub commit_spelled : Sum → List (List ℕ) → Commit → List ℕ
commit_spelled sum ids c =
    eight (length ids) ++ flat with_length ids ++ eight (length c.tree) ++ flat (file_spelled sum) c.tree ++ eight c.stamp ++ with_length c.words

-- the id of a commit is the sum over how it's spelled, parents by their ids; the first number is above the commit's own
unfoldable pub id_within : ℕ → Sum → Book → ℕ → List ℕ
id_within zero sum b k = []
id_within (suc n) sum b k = sum (commit_spelled sum (each (id_within n sum b) (nth b k).parents) (nth b k))

abbrev pub id : Sum → Book → ℕ → List ℕ
id sum b k = id_within (length b) sum b k

unfoldable pub up_to : ℕ → List ℕ
up_to zero = []
up_to (suc n) = up_to n ++ n ∷ []

-- no two different commits, and no two different files, have one sum
abbrev pub all_files : Book → List (List ℕ)
all_files b = flat (λ c. each (λ f. f.bytes) c.tree) b

unfoldable pub clear : Sum → Book → Bool
clear sum b =
    every (λ j. every (λ k. or (j == k) (not (same (id sum b j) (id sum b k)))) (up_to (length b))) (up_to (length b))
    && every (λ x. every (λ y. or (same x y) (not (same (sum x) (sum y)))) (all_files b)) (all_files b)

-- a commit that is there already is not made again
unfoldable pub same_commit : Commit → Commit → Bool
same_commit c d = (same c.parents d.parents && same_tree c.tree d.tree) && (c.stamp == d.stamp && same c.words d.words)

unfoldable pub place : Commit → Book → ℕ
place c [] = 0
place c (d ∷ ds) = pick (same_commit c d) 0 (suc (place c ds))

abbrev pub noted : Commit → Book → Book
noted c b = pick (nat_lt (place c b) (length b)) b (b ++ c ∷ [])

-- a commit and all that come before it
unfoldable pub added : List ℕ → List ℕ → List ℕ
added [] ks = ks
added (j ∷ js) ks = added js (pick (has ks j) ks (ks ++ j ∷ []))

unfoldable pub closed : ℕ → Book → List ℕ → List ℕ
closed zero b ks = ks
closed (suc n) b ks = closed n b (added (flat (λ k. (nth b k).parents) ks) ks)

abbrev pub back : Book → List ℕ → List ℕ
back b ks = closed (length b) b ks

abbrev pub under : Book → ℕ → ℕ → Bool
under b j k = has (back b (k ∷ [])) j

-- the latest that both come from: no other that both come from comes from them
unfoldable pub common : Book → ℕ → ℕ → List ℕ
common b j k = those (λ i. has (back b (k ∷ [])) i) (back b (j ∷ []))

abbrev pub latest_common : Book → ℕ → ℕ → List ℕ
latest_common b j k = those (λ i. not (any (λ h. not (h == i) && under b i h) (common b j k))) (common b j k)

-- the order of a log: at each turn, of those from which no other that is left comes, the one with the largest stamp, of several the one with the least id
unfoldable pub sooner : Sum → Book → ℕ → ℕ → Bool
sooner sum b j k =
    pick (nat_lt (nth b k).stamp (nth b j).stamp) true ((nth b j).stamp == (nth b k).stamp && earlier (id sum b j) (id sum b k))

unfoldable pub soonest : Sum → Book → ℕ → List ℕ → ℕ
soonest sum b j [] = j
soonest sum b j (k ∷ ks) = soonest sum b (pick (sooner sum b k j) k j) ks

unfoldable pub next_of : Sum → Book → List ℕ → List ℕ
next_of sum b [] = []
next_of sum b (k ∷ ks) = soonest sum b k ks ∷ []

abbrev pub free : Book → List ℕ → List ℕ
free b ks = those (λ j. not (any (λ k. not (k == j) && under b j k) ks)) ks

unfoldable pub in_order : ℕ → Sum → Book → List ℕ → List ℕ
in_order zero sum b ks = []
in_order (suc n) sum b ks = next_of sum b (free b ks) ++ in_order n sum b (those (λ k. not (has (next_of sum b (free b ks)) k)) ks)

abbrev pub log : Sum → Book → List ℕ → List ℕ
log sum b ks = in_order (length b) sum b (back b ks)
