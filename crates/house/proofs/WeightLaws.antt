-- What a house can reach, and how much that is.
use Rattle.std.proofs.Common.{◌≡◌, ℕ, ◌+◌, ◌*◌, ◌<◌, true, eqb, ltb, List, [], ◌++◌, length, sym, refl, ap, ◌∙◌, subst, ⊎_elim}
use Rattle.std.proofs.lemmas.Bool.{ltb-true}
use Rattle.std.proofs.lemmas.Bool.Decides.{Decides-eqb}
use Rattle.pages.specs.Lists.{every, each, flat, same, distinct, added_up}
use Rattle.pages.proofs.ListLaws.{In, in_left, in_right, in_append, every_in, each_in, flat_in, in_flat, has_in, in_has, flat_alike, added_up_alike, added_up_members, Once, same_tells, distinct_in, in_distinct, once_distinct}
use Rattle.trees.specs.Tree.{Tree}
use Rattle.history.specs.Book.{Book, Commit, nth, added}
use Rattle.history.proofs.BookLaws.{nth_front}
use Rattle.history.proofs.BackLaws.{each_once_from, added_in, once_added, once_back, back_within}
use Rattle.history.proofs.GrowLaws.{Below, back_more}
use Rattle.house.specs.House.{Clone, Ref, all_refs, reached, weight, tree_weight}
use Rattle.house.specs.Laws.{ReachOnce, WeightByReach, WeightStays}

-- from where a house reaches
abbrev pub starts : Clone → List ℕ
starts x = added (each (λ r. r.to) (all_refs x) ++ x.joining) []

pub once_reached : (b : Book) (x : Clone) → Once (reached b x)
once_reached b x = once_back b (starts x) (once_added (each (λ r. r.to) (all_refs x) ++ x.joining) [] tt)

pub reach_once : ReachOnce
unfolding ReachOnce
reach_once b x = each_once_from (reached b x) (once_reached b x)

-- the files of some commits and of the work
abbrev pub files_kept : Book → List ℕ → Tree → List (List ℕ)
files_kept b ks t = flat (λ k. each (λ f. f.bytes) (nth b k).tree) ks ++ each (λ f. f.bytes) t

abbrev pub commit_weight : Book → ℕ → ℕ
commit_weight b k = 256 + length (nth b k).words + tree_weight (nth b k).tree

-- how much some commits, the work and the names are to keep
abbrev pub kept : Book → List ℕ → Tree → ℕ → ℕ
kept b ks t n =
    added_up (λ bs. 64 + length bs) (distinct (files_kept b ks t)) + added_up (λ k. 256 + length (nth b k).words + tree_weight (nth b k).tree) ks + tree_weight t + 128 * n

pub weight_kept : (b : Book) (x : Clone) → weight b x ≡ kept b (reached b x) x.work (length (all_refs x))
unfolding weight
weight_kept b x = refl

pub files_kept_within : (b : Book) (ks js : List ℕ) (t : Tree) → ((k : ℕ) → In k ks → In k js) → (f : List ℕ) → In f (files_kept b ks t) → In f (files_kept b js t)
files_kept_within b ks js t h f i =
    let files : ℕ → List (List ℕ) = λ k. each (λ f. f.bytes) (nth b k).tree in
    ⊎_elim
    (λ l. let r : (k : ℕ) × In k ks × In f (files k) = flat_in files ks f l in
    in_left f (flat files js) (each (λ f. f.bytes) t) (in_flat files js r.0 f (h r.0 r.1) r.2))
    (λ r. in_right f (flat files js) (each (λ f. f.bytes) t) r)
    (in_append f (flat files ks) (each (λ f. f.bytes) t) i)

-- what counts is who is among them
pub kept_members : (b : Book) (ks js : List ℕ) (t : Tree) (n : ℕ) → Once ks → Once js → ((k : ℕ) → In k ks → In k js) → ((k : ℕ) → In k js → In k ks) →
    kept b ks t n ≡ kept b js t n
kept_members b ks js t n o q f g =
    let files : added_up (λ bs. 64 + length bs) (distinct (files_kept b ks t)) ≡ added_up (λ bs. 64 + length bs) (distinct (files_kept b js t)) =
    added_up_members same same_tells (λ bs. 64 + length bs) (distinct (files_kept b ks t)) (distinct (files_kept b js t))
    (once_distinct (files_kept b ks t)) (once_distinct (files_kept b js t))
    (λ x i. in_distinct (files_kept b js t) x (files_kept_within b ks js t f x (distinct_in (files_kept b ks t) x i)))
    (λ x i. in_distinct (files_kept b ks t) x (files_kept_within b js ks t g x (distinct_in (files_kept b js t) x i))) in
    let commits : added_up (commit_weight b) ks ≡ added_up (commit_weight b) js = added_up_members eqb Decides-eqb (commit_weight b) ks js o q f g in
    λ i. files i + commits i + tree_weight t + 128 * n

pub weight_by_reach : WeightByReach
unfolding WeightByReach
weight_by_reach b x y h e l =
    weight_kept b x
    ∙ (kept_members b (reached b x) (reached b y) x.work (length (all_refs x)) (once_reached b x) (once_reached b y)
    (λ k i. has_in (reached b y) k (sym (h k) ∙ in_has (reached b x) k i)) (λ k i. has_in (reached b x) k (h k ∙ in_has (reached b y) k i))
    ∙ ((λ i. kept b (reached b y) (e i) (l i)) ∙ sym (weight_kept b y)))

-- all of it stays when the book grows
pub kept_more : (b more : Book) (ks : List ℕ) (t : Tree) (n : ℕ) → Below (length b) ks → kept (b ++ more) ks t n ≡ kept b ks t n
kept_more b more ks t n f =
    let files : flat (λ k. each (λ f. f.bytes) (nth (b ++ more) k).tree) ks ≡ flat (λ k. each (λ f. f.bytes) (nth b k).tree) ks =
    flat_alike _ _ ks (λ k i. ap (λ (c : Commit). each (λ f. f.bytes) c.tree) (nth_front b more k (f k i))) in
    let commits : added_up (commit_weight (b ++ more)) ks ≡ added_up (commit_weight b) ks =
    added_up_alike (commit_weight (b ++ more)) (commit_weight b) ks
    (λ k i. ap (λ (c : Commit). 256 + length c.words + tree_weight c.tree) (nth_front b more k (f k i))) in
    λ i. added_up (λ bs. 64 + length bs) (distinct (files i ++ each (λ f. f.bytes) t)) + commits i + tree_weight t + 128 * n

pub starts_below : (n : ℕ) (x : Clone) → every (λ r. ltb r.to n) (all_refs x) ≡ true → every (λ j. ltb j n) x.joining ≡ true → Below n (starts x)
starts_below n x h m k i =
    ⊎_elim
    (λ l. ⊎_elim
    (λ e. let r : (s : Ref) × In s (all_refs x) × (s.to ≡ k) = each_in (λ r. r.to) (all_refs x) k e in
    subst (λ z. z < n) r.2 (ltb-true r.0.to n (every_in (λ r. ltb r.to n) (all_refs x) h r.0 r.1)))
    (λ e. ltb-true k n (every_in (λ j. ltb j n) x.joining m k e))
    (in_append k (each (λ r. r.to) (all_refs x)) x.joining l))
    (λ e. absurd e)
    (added_in (each (λ r. r.to) (all_refs x) ++ x.joining) [] k i)

pub weight_stays : WeightStays
unfolding WeightStays
weight_stays b more x g h m =
    let low : Below (length b) (starts x) = starts_below (length b) x h m in
    let same_reach : reached (b ++ more) x ≡ reached b x = back_more b more (starts x) g low in (
      same_reach,
      weight_kept (b ++ more) x
          ∙ (ap (λ ks. kept (b ++ more) ks x.work (length (all_refs x))) same_reach
          ∙ (kept_more b more (reached b x) x.work (length (all_refs x)) (back_within b (starts x) g low) ∙ sym (weight_kept b x))),
    )
