-- The plain house: what each command shows and what is afterwards. It keeps whole trees and one book of all commits of all houses.
-- Assumes nothing: these are definitions.
use Rattle.std.specs.Prelude.{ℕ, zero, suc, ◌+◌, ◌*◌, Bool, true, false, not, ◌&&◌, leb, List, [], ◌∷◌, ◌++◌, length, ◌==◌, nat_le, nat_lt}
use Rattle.pages.specs.Lists.{pick, or, every, any, each, those, flat, same, none_of, first_of, first_or, distinct, added_up}
use Rattle.trees.specs.Tree.{Tree, alike, found, put, without, same_tree, joined, clashes, both, paths, mark}
use Rattle.history.specs.Book.{Book, Commit, Sum, nth, id, noted, place, back, under, latest_common, log, added}
use Rattle.commands.specs.Command.{Command, write_file, drop_file, commit, branch, go_to, history, show_file, status, read_file, join, settle, leave, move_onto, carry, forget, tag, who, sweep, fetch}

pub record Ref : Type 0 where
  pub name : List ℕ
  pub to : ℕ

pub record Clone : Type 0 where
  pub branches : List Ref
  pub tags : List Ref
  pub others : List Ref  -- branches of other houses, as they were when fetched: the house's number before the name
  pub here : List ℕ  -- the branch on which one works; it may have no commit yet
  pub work : Tree
  pub joining : List ℕ  -- the commit that is being joined, if one is
  pub unsettled : List (List ℕ)  -- paths that clash

pub record Plain : Type 0 where
  pub book : Book
  pub clones : List Clone

pub record Turn : Type 0 where
  pub reply : ℕ  -- 0 done, otherwise the number of the refusal
  pub shows : List (List ℕ)
  pub next : Plain

unfoldable pub ref_of : List Ref → List ℕ → List ℕ
ref_of [] n = []
ref_of (r ∷ rs) n = pick (same r.name n) (r.to ∷ []) (ref_of rs n)

unfoldable pub without_ref : List ℕ → List Ref → List Ref
without_ref n rs = those (λ r. not (same r.name n)) rs

unfoldable pub set_ref : List ℕ → ℕ → List Ref → List Ref
set_ref n k [] = record { name = n; to = k } ∷ []
set_ref n k (r ∷ rs) = pick (same r.name n) (record { name = n; to = k } ∷ rs) (r ∷ set_ref n k rs)

abbrev pub all_refs : Clone → List Ref
all_refs x = x.branches ++ x.tags ++ x.others

abbrev pub tip : Clone → List ℕ
tip x = ref_of x.branches x.here

unfoldable pub tree_of : Book → List ℕ → Tree
tree_of b [] = []
tree_of b (k ∷ ks) = (nth b k).tree

abbrev pub clean : Book → Clone → Bool
clean b x = same_tree x.work (tree_of b (tip x)) && none_of x.joining

abbrev pub empty_clone : Clone
empty_clone = record { branches = []; tags = []; others = []; here = 109 ∷ 97 ∷ 105 ∷ 110 ∷ []; work = []; joining = []; unsettled = [] }

unfoldable pub clone_at : List Clone → ℕ → Clone
clone_at [] c = empty_clone
clone_at (x ∷ xs) zero = x
clone_at (x ∷ xs) (suc c) = clone_at xs c

unfoldable pub set_clone : List Clone → ℕ → Clone → List Clone
set_clone [] c y = []
set_clone (x ∷ xs) zero y = y ∷ xs
set_clone (x ∷ xs) (suc c) y = x ∷ set_clone xs c y

abbrev pub no : ℕ → Plain → Turn
no n w = record { reply = n; shows = []; next = w }

abbrev pub yes_with : List (List ℕ) → Book → Plain → ℕ → Clone → Turn
yes_with ss b w c y = record { reply = 0; shows = ss; next = record { book = b; clones = set_clone w.clones c y } }

-- with work, joining and unsettled paths as given
abbrev pub with_work : Clone → Tree → List ℕ → List (List ℕ) → Clone
with_work x t js ps = record { branches = x.branches; tags = x.tags; others = x.others; here = x.here; work = t; joining = js; unsettled = ps }

-- our branch at a commit, and its tree in work
abbrev pub moved : Book → Clone → ℕ → Clone
moved b x k = record { branches = set_ref x.here k x.branches; tags = x.tags; others = x.others; here = x.here; work = (nth b k).tree; joining = []; unsettled = [] }

abbrev pub drop_path : List ℕ → List (List ℕ) → List (List ℕ)
drop_path p ps = those (λ q. not (same q p)) ps

-- one commit once more on top of another: the book, where we are, the new ids, and whether it went
pub record Way : Type 0 where
  pub book : Book
  pub at : ℕ
  pub made : List ℕ
  pub well : Bool

abbrev pub parent_tree : Book → ℕ → Tree
parent_tree b k = tree_of b (nth b k).parents

abbrev pub carried_tree : Book → ℕ → ℕ → Tree
carried_tree b at k = joined (parent_tree b k ∷ []) (nth b at).tree (nth b k).tree

unfoldable pub carry_one : Way → ℕ → Way
carry_one v k =
    pick (none_of (clashes (parent_tree v.book k ∷ []) (nth v.book v.at).tree (nth v.book k).tree) && nat_le (length (carried_tree v.book v.at k)) 4096)
    (pick (same_tree (carried_tree v.book v.at k) (nth v.book v.at).tree) v
    (let c : Commit = record { parents = v.at ∷ []; tree = carried_tree v.book v.at k; stamp = (nth v.book k).stamp; words = (nth v.book k).words } in
    record { book = noted c v.book; at = place c v.book; made = v.made ++ place c v.book ∷ []; well = v.well }))
    (record { book = v.book; at = v.at; made = v.made; well = false })

unfoldable pub carry_all : Way → List ℕ → Way
carry_all v [] = v
carry_all v (k ∷ ks) = carry_all (carry_one v k) ks

-- our commits that another one does not come from, the oldest first; and whether none of them has two parents
unfoldable pub ours_alone : ℕ → Book → ℕ → List ℕ → List ℕ
ours_alone zero b j ks = []
ours_alone (suc n) b j [] = []
ours_alone (suc n) b j (k ∷ ks) = pick (under b k j) [] (ours_alone n b j (nth b k).parents ++ k ∷ [])

abbrev pub single : Book → List ℕ → Bool
single b ks = every (λ k. leb (length (nth b k).parents) 1) ks

-- the commits that a house can reach
abbrev pub reached : Book → Clone → List ℕ
reached b x = back b (added (each (λ r. r.to) (all_refs x) ++ x.joining) [])

unfoldable pub by_id : Sum → Book → List ℕ → List ℕ → List ℕ
by_id sum b i ks = those (λ k. same (id sum b k) i) ks

-- the commits in a history from which a path is as it is
abbrev pub makers : Book → List ℕ → List (List ℕ) → List ℕ → List ℕ
makers b ks f p =
    those (λ k. alike (found (nth b k).tree p) f && every (λ j. not (alike (found (nth b j).tree p) f)) (nth b k).parents) ks

-- a name with the number of its house before it
abbrev pub far : ℕ → Ref → Ref
far d r = record { name = d ∷ r.name; to = r.to }

abbrev pub is_far : ℕ → Ref → Bool
is_far d r = first_or 999 r.name == d

abbrev pub line : Sum → Book → ℕ → List ℕ
line sum b k = id sum b k ++ (nth b k).words

unfoldable pub turn : Sum → Plain → ℕ → Clone → Command → Turn
turn sum w c x (write_file p b) =
    pick (nat_lt 4096 (length (put p b x.work))) (no 10 w) (yes_with [] w.book w c (with_work x (put p b x.work) x.joining (drop_path p x.unsettled)))
turn sum w c x (drop_file p) =
    pick (none_of (found x.work p)) (no 3 w) (yes_with [] w.book w c (with_work x (without p x.work) x.joining (drop_path p x.unsettled)))
turn sum w c x (commit s ws) =
    let b : Book = w.book in
    let new : Commit = record { parents = tip x ++ x.joining; tree = x.work; stamp = s; words = ws } in
    pick (none_of x.unsettled)
    (pick (same_tree x.work (tree_of b (tip x)) && none_of x.joining) (no 7 w)
    (yes_with (id sum (noted new b) (place new b) ∷ []) (noted new b) w c (moved (noted new b) x (place new b))))
    (no 6 w)
turn sum w c x (branch n) =
    pick (none_of (ref_of (x.branches ++ x.tags) n) && not (same n x.here))
    (pick (none_of (tip x)) (no 3 w)
    (yes_with [] w.book w c (record { branches = set_ref n (first_or 0 (tip x)) x.branches; tags = x.tags; others = x.others; here = x.here; work = x.work; joining = x.joining; unsettled = x.unsettled })))
    (no 4 w)
turn sum w c x (go_to n) =
    pick (none_of (ref_of x.branches n)) (no 3 w)
    (pick (clean w.book x)
    (yes_with [] w.book w c (record { branches = x.branches; tags = x.tags; others = x.others; here = n; work = tree_of w.book (ref_of x.branches n); joining = []; unsettled = [] }))
    (no 5 w))
turn sum w c x history = yes_with (each (line sum w.book) (log sum w.book (tip x))) w.book w c x
turn sum w c x (show_file n p) =
    pick (none_of (found (tree_of w.book (ref_of (all_refs x) n)) p)) (no 3 w) (yes_with (found (tree_of w.book (ref_of (all_refs x) n)) p) w.book w c x)
turn sum w c x status =
    yes_with (flat (mark (tree_of w.book (tip x)) x.work) (paths (both (tree_of w.book (tip x)) x.work)) ++ each (λ p. 4 ∷ p) x.unsettled) w.book w c x
turn sum w c x (read_file p) = pick (none_of (found x.work p)) (no 3 w) (yes_with (found x.work p) w.book w c x)
turn sum w c x (join n) =
    let b : Book = w.book in
    let js : List ℕ = ref_of (all_refs x) n in
    let j : ℕ = first_or 0 js in
    let k : ℕ = first_or 0 (tip x) in
    pick (or (none_of js) (none_of (tip x))) (no 3 w)
    (pick (clean b x)
    (pick (under b j k) (no 7 w)
    (pick (under b k j) (yes_with (id sum b j ∷ []) b w c (moved b x j))
    (let bases : List Tree = pick (none_of (latest_common b j k)) ([] ∷ []) (each (λ i. (nth b i).tree) (latest_common b j k)) in
    let ours : Tree = (nth b k).tree in
    let theirs : Tree = (nth b j).tree in
    pick (nat_lt 4096 (length (joined bases ours theirs))) (no 10 w)
    (yes_with (clashes bases ours theirs) b w c (with_work x (joined bases ours theirs) (j ∷ []) (clashes bases ours theirs))))))
    (no 5 w))
turn sum w c x (settle p) =
    pick (any (λ q. same q p) x.unsettled) (yes_with [] w.book w c (with_work x x.work x.joining (drop_path p x.unsettled))) (no 6 w)
turn sum w c x leave = yes_with [] w.book w c (with_work x (tree_of w.book (tip x)) [] [])
turn sum w c x (move_onto n) =
    let b : Book = w.book in
    let js : List ℕ = ref_of (all_refs x) n in
    let j : ℕ = first_or 0 js in
    let k : ℕ = first_or 0 (tip x) in
    let mine : List ℕ = ours_alone (length b) b j (k ∷ []) in
    let v : Way = carry_all (record { book = b; at = j; made = []; well = true }) mine in
    pick (or (none_of js) (none_of (tip x))) (no 3 w)
    (pick (clean b x)
    (pick (under b j k) (no 7 w)
    (pick (under b k j) (yes_with (id sum b j ∷ []) b w c (moved b x j))
    (pick (single b mine && v.well)
    (yes_with (each (id sum v.book) v.made) v.book w c (moved v.book x v.at))
    (no 6 w))))
    (no 5 w))
turn sum w c x (carry i) =
    let b : Book = w.book in
    let js : List ℕ = by_id sum b i (reached b x) in
    let j : ℕ = first_or 0 js in
    let k : ℕ = first_or 0 (tip x) in
    let v : Way = carry_one (record { book = b; at = k; made = []; well = true }) j in
    pick (or (none_of js) (none_of (tip x))) (no 3 w)
    (pick (clean b x)
    (pick (single b (j ∷ []) && v.well)
    (pick (none_of v.made) (no 7 w) (yes_with (each (id sum v.book) v.made) v.book w c (moved v.book x v.at)))
    (no 6 w))
    (no 5 w))
turn sum w c x (forget n) =
    pick (none_of (ref_of x.branches n)) (no 3 w)
    (pick (same n x.here) (no 6 w)
    (yes_with [] w.book w c (record { branches = without_ref n x.branches; tags = x.tags; others = x.others; here = x.here; work = x.work; joining = x.joining; unsettled = x.unsettled })))
turn sum w c x (tag n) =
    pick (none_of (ref_of (x.branches ++ x.tags) n) && not (same n x.here))
    (pick (none_of (tip x)) (no 3 w)
    (yes_with [] w.book w c (record { branches = x.branches; tags = set_ref n (first_or 0 (tip x)) x.tags; others = x.others; here = x.here; work = x.work; joining = x.joining; unsettled = x.unsettled })))
    (no 4 w)
turn sum w c x (who p) =
    let b : Book = w.book in
    let f : List (List ℕ) = found (tree_of b (tip x)) p in
    pick (none_of f) (no 3 w) (yes_with (each (id sum b) (first_of (makers b (log sum b (tip x)) f p))) b w c x)
turn sum w c x sweep = yes_with [] w.book w c x
turn sum w c x (fetch d) =
    pick (nat_lt d (length w.clones) && not (d == c))
    (yes_with [] w.book w c (record { branches = x.branches; tags = x.tags; others = those (λ r. not (is_far d r)) x.others ++ each (far d) (clone_at w.clones d).branches; here = x.here; work = x.work; joining = x.joining; unsettled = x.unsettled }))
    (no 3 w)

-- how much there is to keep, in bytes: each different file once, each commit, each line of its tree
unfoldable pub tree_weight : Tree → ℕ
tree_weight t = added_up (λ f. 64 + length f.path) t

unfoldable pub weight : Book → Clone → ℕ
weight b x =
    added_up (λ bs. 64 + length bs) (distinct (flat (λ k. each (λ f. f.bytes) (nth b k).tree) (reached b x) ++ each (λ f. f.bytes) x.work))
    + added_up (λ k. 256 + length (nth b k).words + tree_weight (nth b k).tree) (reached b x)
    + tree_weight x.work + 128 * length (all_refs x)
