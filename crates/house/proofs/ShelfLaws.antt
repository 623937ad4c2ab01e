-- What stands on a house's tape: files, trees and commits, and what they name; what is live is what the plain house reaches; what that weighs, how many units it
-- takes, and that a sweep leaves it as it was. Assumes nothing.
use Rattle.std.proofs.Common.{◌≡◌, ℕ, zero, suc, ◌+◌, ◌-◌, ◌*◌, ◌/◌, ◌<◌, ◌≤◌, Bool, true, false, not, ◌&&◌, eqb, ltb, leb, ◌⊎◌, List, [], ◌∷◌, ◌++◌, length, get_or, take, drop, sym, refl, ap, ◌∙◌, subst, ap₂, inl, inr, ⊎_elim, append_assoc, arith, length-append, length-drop}
use Rattle.std.proofs.lemmas.List.{take_at, take-append-drop, take-append-le, drop-append-le, drop-drop, drop-take, get_or-take, get_or-drop, get_or_append_left, get_or-append_right, length-take-le}
use Rattle.std.proofs.lemmas.Bool.{false≢true, eqb-true, eq-eqb, ne_eqb, lt-ltb, ltb-true, and_parts, and_from, leb-true, leb-false, true≢false, cases_lt, cases_order}
use Rattle.std.proofs.lemmas.Bool.Decides.{Decides-eqb}
use Rattle.pages.specs.Lists.{pick, or, first_or, every, any, each, those, flat, has, same, zeros, distinct, added_up}
use Rattle.pages.specs.Words.{bytes_of, words}
use Rattle.pages.specs.Object.{heading, references_in, size_in, kind_in, kind_of, own_weight, references_of, data_of, object_at}
use Rattle.pages.specs.Tape.{first_page, last_page}
use Rattle.pages.proofs.ListLaws.{In, Once, in_left, in_right, in_append, in_flat, flat_in, added_up_alike, added_up_members, false_unless, pick_both, pick_false, or_cases, or_left, or_right, any_in, any_from, every_in, every_from, every_those, has_in, in_has, those_in, in_those, each_in, in_each, each_alike, length_each, same_tells}
use Rattle.pages.proofs.ObjectLaws.{heading_parts}
use Rattle.pages.proofs.WordLaws.{length_words, length_zeros}
use Rattle.objects.specs.Heap.{has_key, Live, root, named, Heap, Lives, rising, units_at, weight_at, weights}
use Rattle.objects.specs.Layouts.{commit_object, file_bytes, file_object, packed_bytes, words_for, tree_weight_in, noted_weight}
use Rattle.objects.specs.Room.{Built, Roomy, reserve, work_weight}
use Rattle.objects.specs.Sweeping.{roots_of, renamed, Swept}
use Rattle.objects.proofs.GrowLaws.{live_part}
use Rattle.objects.proofs.MarkLaws.{has_cases}
use Rattle.objects.proofs.PackLaws.{heading_renamed, references_renamed}
use Rattle.objects.proofs.SweptLaws.{named_lives, roots_live, whole_object}
use Rattle.objects.proofs.RoomLaws.{added_up_each, rising_once, layouts_built, takes_little, ring_has_room}
use Rattle.trees.specs.Tree.{Tree}
use Rattle.trees.specs.RowOf.{weight_of, RowOf}
use Rattle.trees.specs.Packed.{files_in, spread_fits, spread_into}
use Rattle.trees.proofs.ObjectLaws.{renamed_right}
use Rattle.trees.proofs.StoredLaws.{each_each}
use Rattle.history.specs.Book.{Book, Commit, Sum, nth, id, added, closed, back}
use Rattle.history.specs.Laws.{Grown}
use Rattle.history.proofs.BackLaws.{Steps, back_in, back_self, back_parents, once_back}
use Rattle.history.proofs.BookLaws.{nth_front}
use Rattle.history.proofs.GrowLaws.{id_more}
use Rattle.commands.specs.Command.{a_text}
use Rattle.house.specs.House.{all_refs, weight, tree_weight}
use Rattle.house.specs.Laws.{WeightStays}
use Rattle.house.specs.Shelf.{bytes_at, FileAt, TreeAt, WorkAt, tree_named, parent_named, Numbered, CommitAt, Thing, a_file, a_tree, a_commit, Stored, work_root, tip_root, files_named, keeping, Shelf}
use Rattle.house.proofs.SumLaws.{any_member, any_both, once_each, files_weigh, files_weigh_more, weights_by}
use Rattle.house.proofs.WeightLaws.{weight_kept, weight_stays}
use Rattle.house.proofs.Sheets.{text_parts, first_names}

-- A FILE'S OBJECT
pub bytes_alike : (t u : List ℕ) (r s : ℕ) → object_at u s ≡ object_at t r → bytes_at u s ≡ bytes_at t r
bytes_alike t u r s e = ap (λ o. take (file_bytes o) (bytes_of (drop 6 o))) e

-- the same object on another tape, or by another name, is the same file
pub file_alike : (sum : Sum) (t u : List ℕ) (r s : ℕ) → 1 ≤ s → object_at u s ≡ object_at t r → FileAt sum t r → FileAt sum u s
file_alike sum t u r s one e f =
    record {
      one = one;
      text = ap a_text (bytes_alike t u r s e) ∙ f.text;
      is = e ∙ f.is ∙ ap (λ b. file_object (words 4 (sum b)) (length b) (packed_bytes b)) (sym (bytes_alike t u r s e));
    }

module _ (sum : Sum) (t : List ℕ) (r : ℕ) (f : FileAt sum t r) where
  file_short : length (bytes_at t r) < 65536
  file_short = (text_parts (bytes_at t r) f.text).0

  file_words : length (packed_bytes (bytes_at t r)) ≡ words_for (length (bytes_at t r))
  file_words = length_words (words_for (length (bytes_at t r))) (bytes_at t r ++ zeros 7)

  pub file_lone : references_in (get_or (object_at t r) 0 0) ≡ 0
  file_lone =
      ap (λ o. references_in (get_or o 0 0)) f.is ∙ (heading_parts 1 0 (6 + length (packed_bytes (bytes_at t r))) (omega arith) (omega (arith, file_words, file_short))).0

  -- it names nothing
  pub file_names : references_of (object_at t r) ≡ []
  file_names = ap (λ n. take n (drop 2 (object_at t r))) file_lone

  pub file_kind : kind_of (object_at t r) ≡ 1
  file_kind = ap kind_of f.is ∙ (heading_parts 1 0 (6 + length (packed_bytes (bytes_at t r))) (omega arith) (omega (arith, file_words, file_short))).2

  pub file_weighs : own_weight (object_at t r) ≡ 64 + length (bytes_at t r)
  file_weighs = ap own_weight f.is

  -- it has the key of some bytes just if they have one sum
  pub file_key : (key : List ℕ) → has_key 1 key (object_at t r) ≡ same (words 4 (sum (bytes_at t r))) key
  file_key key =
      ap₂ (λ k n. eqb k 1 && same (take 4 (drop (2 + n) (object_at t r))) key) file_kind file_lone
      ∙ ap (λ o. same (take 4 (drop 2 o)) key) f.is ∙ ap (λ x. same x key) (take_at (words 4 (sum (bytes_at t r))) (packed_bytes (bytes_at t r)) 4 (length_words 4 (sum (bytes_at t r))))

  pub file_is_built : Built (object_at t r)
  file_is_built =
      subst Built (sym f.is)
      (layouts_built.0 (words 4 (sum (bytes_at t r))) (packed_bytes (bytes_at t r)) (length (bytes_at t r)) (length_words 4 (sum (bytes_at t r))) file_short file_words)

  -- and stays under any names
  pub file_renamed : (g : ℕ → ℕ) → renamed g (object_at t r) ≡ object_at t r
  file_renamed g =
      ap₂ (λ rs n. take 2 (object_at t r) ++ (each g rs ++ drop (2 + n) (object_at t r))) file_names file_lone ∙ take-append-drop 2 (object_at t r)

-- A COMMIT'S OBJECT
module _ (sum : Sum) (b : Book) (number : ℕ → ℕ) (t : List ℕ) (r : ℕ) (c : CommitAt sum b number t r) (text : a_text (nth b (number r)).words ≡ true) where
  commit_short : length (nth b (number r)).words < 65536
  commit_short = (text_parts (nth b (number r)).words text).0

  commit_words : length (packed_bytes (nth b (number r)).words) ≡ words_for (length (nth b (number r)).words)
  commit_words = length_words (words_for (length (nth b (number r)).words)) ((nth b (number r)).words ++ zeros 7)

  commit_heading :
      (references_in (heading 3 3 (11 + length (packed_bytes (nth b (number r)).words))) ≡ 3)
      × (size_in (heading 3 3 (11 + length (packed_bytes (nth b (number r)).words))) ≡ 11 + length (packed_bytes (nth b (number r)).words))
      × (kind_in (heading 3 3 (11 + length (packed_bytes (nth b (number r)).words))) ≡ 3)
  commit_heading = heading_parts 3 3 (11 + length (packed_bytes (nth b (number r)).words)) (omega arith) (omega (arith, commit_words, commit_short))

  pub commit_three : references_in (get_or (object_at t r) 0 0) ≡ 3
  commit_three = ap (λ o. references_in (get_or o 0 0)) c.is ∙ commit_heading.0

  pub commit_kind : kind_of (object_at t r) ≡ 3
  commit_kind = ap kind_of c.is ∙ commit_heading.2

  -- it names its tree and the commit that it comes from
  pub commit_names : references_of (object_at t r) ≡ tree_named (object_at t r) ∷ parent_named (object_at t r) ∷ 0 ∷ []
  commit_names = ap (λ n. take n (drop 2 (object_at t r))) commit_three ∙ ap (λ o. take 3 (drop 2 o)) c.is

  pub commit_weighs : own_weight (object_at t r) ≡ 256 + length (nth b (number r)).words + weight_of (nth b (number r)).tree
  commit_weighs = ap own_weight c.is

  -- what it notes of its tree
  pub commit_notes : noted_weight (object_at t r) ≡ weight_of (nth b (number r)).tree
  commit_notes =
      ap (λ n. get_or (drop (2 + n) (object_at t r)) 5 0) commit_three ∙ ap (λ o. get_or (drop 5 o) 5 0) c.is
      ∙ get_or-append_right (words 4 (id sum b (number r))) ((nth b (number r)).stamp ∷ weight_of (nth b (number r)).tree ∷ packed_bytes (nth b (number r)).words) 4 5 0
      (length_words 4 (id sum b (number r))) (omega arith)

  -- it has the key of some bytes just if they are its id
  pub commit_key : (key : List ℕ) → has_key 3 key (object_at t r) ≡ same (words 4 (id sum b (number r))) key
  commit_key key =
      ap₂ (λ k n. eqb k 3 && same (take 4 (drop (2 + n) (object_at t r))) key) commit_kind commit_three
      ∙ ap (λ o. same (take 4 (drop 5 o)) key) c.is
      ∙ ap (λ x. same x key)
      (take_at (words 4 (id sum b (number r))) ((nth b (number r)).stamp ∷ weight_of (nth b (number r)).tree ∷ packed_bytes (nth b (number r)).words) 4
      (length_words 4 (id sum b (number r))))

  pub commit_is_built : Built (object_at t r)
  commit_is_built =
      subst Built (sym c.is)
      (layouts_built.1 (words 4 (id sum b (number r))) (packed_bytes (nth b (number r)).words) (tree_named (object_at t r)) (parent_named (object_at t r)) 0
      (nth b (number r)).stamp (weight_of (nth b (number r)).tree) (length (nth b (number r)).words) (length_words 4 (id sum b (number r))) commit_short commit_words)

-- A TREE'S OBJECT
pub tree_is_built : (sum : Sum) (t : List ℕ) (r : ℕ) (u : Tree) → TreeAt sum t r u → Built (object_at t r)
tree_is_built sum t r u k =
    let two : kind_of (object_at t r) ≡ 2 = k.kind in
    record {
      known = inr (inl two);
      file = λ e. absurd (omega arith);
      tree = λ e. (k.light, omega (arith, k.short, k.weighs));
      commit = λ e. absurd (omega arith);
      name = λ e. absurd (omega arith);
    }

-- WHICH THING it is, by its kind
module _ (sum : Sum) (b : Book) (number : ℕ → ℕ) (t : List ℕ) (r : ℕ) where
  pub as_commit : Thing sum b number t r → kind_of (object_at t r) ≡ 3 → CommitAt sum b number t r
  as_commit (a_file f) e = absurd (omega (arith, e, file_kind sum t r f))
  as_commit (a_tree u k) e = absurd (omega (arith, e, k.kind))
  as_commit (a_commit c) e = c

  module _ (texts : (k : ℕ) → a_text (nth b k).words ≡ true) where
    pub as_file : Thing sum b number t r → kind_of (object_at t r) ≡ 1 → FileAt sum t r
    as_file (a_file f) e = f
    as_file (a_tree u k) e = absurd (omega (arith, e, k.kind))
    as_file (a_commit c) e = absurd (omega (arith, e, commit_kind sum b number t r c (texts (number r))))

    pub as_tree : Thing sum b number t r → kind_of (object_at t r) ≡ 2 → (u : Tree) × TreeAt sum t r u
    as_tree (a_file f) e = absurd (omega (arith, e, file_kind sum t r f))
    as_tree (a_tree u k) e = (u, k)
    as_tree (a_commit c) e = absurd (omega (arith, e, commit_kind sum b number t r c (texts (number r))))

    pub thing_is_built : Thing sum b number t r → Built (object_at t r)
    thing_is_built (a_file f) = file_is_built sum t r f
    thing_is_built (a_tree u k) = tree_is_built sum t r u k
    thing_is_built (a_commit c) = commit_is_built sum b number t r c (texts (number r))

-- WHAT LIVE THINGS NAME
-- a tree's files are live
pub tree_files_live : (sum : Sum) (t roots : List ℕ) (r : ℕ) (u : Tree) → Live t roots r → TreeAt sum t r u →
    (s : ℕ) → has (references_of (object_at t r)) s ≡ true → Live t roots s × (kind_of (object_at t s) ≡ 1)
tree_files_live sum t roots r u l k s e = (named s r (k.named s e).one l e, file_kind sum t s (k.named s e))

module _ (sum : Sum) (b : Book) (number : ℕ → ℕ) (t roots : List ℕ) (r : ℕ) (c : CommitAt sum b number t r) (text : a_text (nth b (number r)).words ≡ true) where
  pub commit_names_both : (s : ℕ) → 1 ≤ s → has (references_of (object_at t r)) s ≡ true → (s ≡ tree_named (object_at t r)) ⊎ (s ≡ parent_named (object_at t r))
  commit_names_both s one e =
      go (has_in (tree_named (object_at t r) ∷ parent_named (object_at t r) ∷ 0 ∷ []) s (ap (λ rs. has rs s) (sym (commit_names sum b number t r c text)) ∙ e))
    where
      go : In s (tree_named (object_at t r) ∷ parent_named (object_at t r) ∷ 0 ∷ []) → (s ≡ tree_named (object_at t r)) ⊎ (s ≡ parent_named (object_at t r))
      go (inl q) = inl (sym q)
      go (inr (inl q)) = inr (sym q)
      go (inr (inr (inl q))) = absurd (omega arith)
      go (inr (inr (inr q))) = absurd q

  names_tree : has (references_of (object_at t r)) (tree_named (object_at t r)) ≡ true
  names_tree =
      ap (λ rs. has rs (tree_named (object_at t r))) (commit_names sum b number t r c text)
      ∙ in_has (tree_named (object_at t r) ∷ parent_named (object_at t r) ∷ 0 ∷ []) (tree_named (object_at t r)) (inl refl)

  names_parent : has (references_of (object_at t r)) (parent_named (object_at t r)) ≡ true
  names_parent =
      ap (λ rs. has rs (parent_named (object_at t r))) (commit_names sum b number t r c text)
      ∙ in_has (tree_named (object_at t r) ∷ parent_named (object_at t r) ∷ 0 ∷ []) (parent_named (object_at t r)) (inr (inl refl))

  -- so are a commit's tree and the commit that it comes from, if there are such
  pub commit_tree_live : Live t roots r → 1 ≤ tree_named (object_at t r) →
      Live t roots (tree_named (object_at t r)) × TreeAt sum t (tree_named (object_at t r)) (nth b (number r)).tree
  commit_tree_live l one = (named (tree_named (object_at t r)) r one l names_tree, go c.tree)
    where
      go : WorkAt sum t (tree_named (object_at t r)) (nth b (number r)).tree → TreeAt sum t (tree_named (object_at t r)) (nth b (number r)).tree
      go (inl (z, e)) = absurd (omega arith)
      go (inr k) = k

  pub commit_parent_live : Live t roots r → 1 ≤ parent_named (object_at t r) →
      Live t roots (parent_named (object_at t r)) × (kind_of (object_at t (parent_named (object_at t r))) ≡ 3) × ((nth b (number r)).parents ≡ number (parent_named (object_at t r)) ∷ [])
  commit_parent_live l one =
      let q = go c.parent in
      (named (parent_named (object_at t r)) r one l names_parent, q.0, q.1)
    where
      go : Numbered number t (parent_named (object_at t r)) (nth b (number r)).parents →
          (kind_of (object_at t (parent_named (object_at t r))) ≡ 3) × ((nth b (number r)).parents ≡ number (parent_named (object_at t r)) ∷ [])
      go (inl (z, e)) = absurd (omega arith)
      go (inr (p, k, e)) = (k, e)

-- all that fewer roots name is stored
pub stored_part : (sum : Sum) (b : Book) (number : ℕ → ℕ) (t roots new : List ℕ) → ((r : ℕ) → 1 ≤ r → has new r ≡ true → Live t roots r) →
    Stored sum b number t roots → Stored sum b number t new
stored_part sum b number t roots new h s =
    record {
      thing = λ r l. s.thing r (live_part t roots new h r l);
      files_once = λ r q l k. s.files_once r q (live_part t roots new h r l) (live_part t roots new h q k);
      commits_once = λ r q l k. s.commits_once r q (live_part t roots new h r l) (live_part t roots new h q k);
    }

-- HEADS that name the tree in work and the branch's commit, and nothing else
pub head_long : (h : List ℕ) → drop 4 h ≡ zeros 28 → length h ≡ 32
head_long h e = omega (arith, ap length e, length-drop 4 h, length_zeros 28)

pub head_roots : (h : List ℕ) → drop 4 h ≡ zeros 28 → roots_of h ≡ work_root h ∷ tip_root h ∷ zeros 6
unfolding zeros
head_roots [] e = absurd (omega (arith, head_long [] e))
head_roots (a ∷ []) e = absurd (omega (arith, head_long (a ∷ []) e))
head_roots (a ∷ b ∷ []) e = absurd (omega (arith, head_long (a ∷ b ∷ []) e))
head_roots (a ∷ b ∷ c ∷ []) e = absurd (omega (arith, head_long (a ∷ b ∷ c ∷ []) e))
head_roots (a ∷ b ∷ c ∷ d ∷ x) e = ap (λ y. c ∷ d ∷ take 6 y) e

pub no_zeros : (n r : ℕ) → 1 ≤ r → has (zeros n) r ≡ true → ⊥
unfolding zeros
no_zeros zero r one e = false≢true e
no_zeros (suc n) r one e = ⊎_elim (λ (z : 0 ≡ r). absurd (omega arith)) (λ k. no_zeros n r one k) (has_cases 0 r (zeros n) e)

-- of two roots, with zeros behind them
pub two_roots : (a b n r : ℕ) → 1 ≤ r → has (a ∷ b ∷ zeros n) r ≡ true → (r ≡ a) ⊎ (r ≡ b)
two_roots a b n r one e =
    ⊎_elim (λ (q : a ≡ r). inl (sym q))
    (λ k. ⊎_elim (λ (q : b ≡ r). inr (sym q)) (λ z. absurd (no_zeros n r one z)) (has_cases b r (zeros n) k)) (has_cases a r (b ∷ zeros n) e)

pub roots_only : (h : List ℕ) → drop 4 h ≡ zeros 28 → (r : ℕ) → 1 ≤ r → has (roots_of h) r ≡ true → (r ≡ work_root h) ⊎ (r ≡ tip_root h)
roots_only h others r one e = two_roots (work_root h) (tip_root h) 6 r one (ap (λ rs. has rs r) (sym (head_roots h others)) ∙ e)

-- WHAT THE TREE IN WORK NAMES
pub named_files : (t : List ℕ) (work : ℕ) → 1 ≤ work → files_named t work ≡ references_of (object_at t work)
named_files t work one = pick_false (eqb work 0) [] (references_of (object_at t work)) (ne_eqb work 0 (λ z. omega arith))

pub work_there : (t : List ℕ) (work r : ℕ) → has (files_named t work) r ≡ true → 1 ≤ work
work_there t zero r e = absurd (false≢true e)
work_there t (suc work) r e = omega arith

-- a tree that is named, or the empty one
pub work_is : (sum : Sum) (t : List ℕ) (work : ℕ) (tree : Tree) → WorkAt sum t work tree → 1 ≤ work → TreeAt sum t work tree
work_is sum t work tree (inl (z, e)) one = absurd (omega arith)
work_is sum t work tree (inr k) one = k

pub work_names : (sum : Sum) (t : List ℕ) (work : ℕ) (tree : Tree) → WorkAt sum t work tree → each (bytes_at t) (files_named t work) ≡ each (λ f. f.bytes) tree
work_names sum t work tree (inl (z, e)) = ap (λ r. each (bytes_at t) (files_named t r)) z ∙ ap (each (λ f. f.bytes)) (sym e)
work_names sum t work tree (inr k) = ap (each (bytes_at t)) (named_files t work k.one) ∙ k.files

pub work_file : (sum : Sum) (t : List ℕ) (work : ℕ) (tree : Tree) → WorkAt sum t work tree → (r : ℕ) → has (files_named t work) r ≡ true → FileAt sum t r
work_file sum t work tree (inl (z, e)) r k = absurd (omega (arith, work_there t work r k))
work_file sum t work tree (inr q) r k = q.named r (ap (λ rs. has rs r) (sym (named_files t work q.one)) ∙ k)

pub work_weighs : (sum : Sum) (t : List ℕ) (work : ℕ) (tree : Tree) → WorkAt sum t work tree → work_weight t work ≡ weight_of tree
unfolding weight_of added_up
work_weighs sum t work tree (inl (z, e)) = ap (work_weight t) z ∙ ap weight_of (sym e)
work_weighs sum t work tree (inr k) = pick_false (eqb work 0) 0 (tree_weight_in (object_at t work)) (ne_eqb work 0 (λ z. omega (arith, k.one))) ∙ k.weighs

-- a commit that is named, or none
pub numbered_is : (number : ℕ → ℕ) (t : List ℕ) (r : ℕ) (ks : List ℕ) → Numbered number t r ks → 1 ≤ r → (kind_of (object_at t r) ≡ 3) × (ks ≡ number r ∷ [])
numbered_is number t r ks (inl (z, e)) one = absurd (omega arith)
numbered_is number t r ks (inr (o, k, e)) one = (k, e)

pub numbered_in : (number : ℕ → ℕ) (t : List ℕ) (r : ℕ) (ks : List ℕ) → Numbered number t r ks → (k : ℕ) → In k ks → (1 ≤ r) × (kind_of (object_at t r) ≡ 3) × (number r ≡ k)
numbered_in number t r ks (inl (z, e)) k i = absurd (subst (In k) e i)
numbered_in number t r ks (inr (o, q, e)) k i = (o, q, ⊎_elim (λ f. f) (λ n. absurd n) (subst (In k) e i))

pub numbered_once : (number : ℕ → ℕ) (t : List ℕ) (r : ℕ) (ks : List ℕ) → Numbered number t r ks → Once ks
numbered_once number t r ks (inl (z, e)) = subst Once (sym e) tt
numbered_once number t r ks (inr (o, q, e)) = subst Once (sym e) (λ i. i, tt)

-- A RANGE, and all that pass a test
abbrev pub range : ℕ → ℕ → List ℕ
range a zero = []
range a (suc n) = a ∷ range (suc a) n

range_above : (a b n : ℕ) → b < a → every (λ s. ltb b s) (range a n) ≡ true
range_above a b zero h = refl
range_above a b (suc n) h = and_from (ltb b a) (every (λ s. ltb b s) (range (suc a) n)) (lt-ltb b a h) (range_above (suc a) b n (omega arith))

range_rising : (a n : ℕ) → rising (range a n) ≡ true
unfolding rising
range_rising a zero = refl
range_rising a (suc n) = and_from (every (λ s. ltb a s) (range (suc a) n)) (rising (range (suc a) n)) (range_above (suc a) a n (omega arith)) (range_rising (suc a) n)

in_range : (a n r : ℕ) → a ≤ r → r < a + n → In r (range a n)
in_range a zero r from to = absurd (omega arith)
in_range a (suc n) r from to = go (leb r a) refl (λ lt. in_range (suc a) n r lt (omega arith))
  where
    go : (b : Bool) → leb r a ≡ b → (suc a ≤ r → In r (range (suc a) n)) → (a ≡ r) ⊎ In r (range (suc a) n)
    go true e on = inl (omega (arith, leb-true r a e))
    go false e on = inr (on (omega (arith, leb-false r a e)))

range_from : (a n r : ℕ) → In r (range a n) → a ≤ r
range_from a zero r i = absurd i
range_from a (suc n) r (inl e) = omega arith
range_from a (suc n) r (inr i) = omega (arith, range_from (suc a) n r i)

pub rising_those : (p : ℕ → Bool) (ls : List ℕ) → rising ls ≡ true → rising (those p ls) ≡ true
unfolding rising
rising_those p [] h = refl
rising_those p (r ∷ rs) h =
    let a = and_parts (every (λ s. ltb r s) rs) (rising rs) h in
    pick_both (λ l. rising l ≡ true) (p r) (r ∷ those p rs) (those p rs) (λ _. and_from (every (λ s. ltb r s) (those p rs)) (rising (those p rs)) (every_those (λ s. ltb r s) p rs a.0) (rising_those p rs a.1))
    (λ _. rising_those p rs a.1)

added_up_none : {A : Type 0} (f : A → ℕ) (xs : List A) → ((x : A) → In x xs → f x ≡ 0) → added_up f xs ≡ 0
unfolding added_up
added_up_none f [] h = refl
added_up_none f (x ∷ xs) h = omega (arith, h x (inl refl), added_up_none f xs (λ y i. h y (inr i)))

-- WHAT IS LIVE IS WHAT IS REACHED
-- a commit with one of some numbers, a file with some of these bytes, or a tree of such files
abbrev pub Among : (ℕ → ℕ) → List ℕ → List ℕ → List (List ℕ) → ℕ → Type 0
Among number t ks bs r =
    ((kind_of (object_at t r) ≡ 3) × In (number r) ks)
    ⊎ (((kind_of (object_at t r) ≡ 1) × In (bytes_at t r) bs)
    ⊎ ((kind_of (object_at t r) ≡ 2) × ((s : ℕ) → has (references_of (object_at t r)) s ≡ true → In (bytes_at t s) bs)))

-- a live commit has this number; a live file has these bytes
abbrev pub CommitThere : (ℕ → ℕ) → List ℕ → List ℕ → ℕ → Type 0
CommitThere number t roots k = (r : ℕ) × Live t roots r × (kind_of (object_at t r) ≡ 3) × (number r ≡ k)

abbrev pub FileThere : List ℕ → List ℕ → List ℕ → Type 0
FileThere t roots f = (r : ℕ) × Live t roots r × (kind_of (object_at t r) ≡ 1) × (bytes_at t r ≡ f)

-- the bytes of the files of some commits and of all that they come from, and some more
abbrev pub commits_files : Book → List ℕ → List (List ℕ)
commits_files b tips = flat (λ k. each (λ f. f.bytes) (nth b k).tree) (back b tips)

abbrev pub files_weight : List (List ℕ) → ℕ
files_weight bs = added_up (λ x. 64 + length x) (distinct bs)

abbrev pub commits_weight : Book → List ℕ → ℕ
commits_weight b tips = added_up (λ k. 256 + length (nth b k).words + tree_weight (nth b k).tree) (back b tips)

is_kind : List ℕ → ℕ → ℕ → Bool
is_kind t k r = eqb (kind_of (object_at t r)) k

kind_is : (t : List ℕ) (k r : ℕ) → is_kind t k r ≡ true → kind_of (object_at t r) ≡ k
unfolding is_kind
kind_is t k r e = eqb-true (kind_of (object_at t r)) k e

is_of_kind : (t : List ℕ) (k r : ℕ) → kind_of (object_at t r) ≡ k → is_kind t k r ≡ true
unfolding is_kind
is_of_kind t k r e = eq-eqb (kind_of (object_at t r)) k e

not_kind : (t : List ℕ) (k r : ℕ) → not (is_kind t k r) ≡ true → kind_of (object_at t r) ≡ k → ⊥
not_kind t k r n e = false≢true (ap not (sym (is_of_kind t k r e)) ∙ n)

is_not_kind : (t : List ℕ) (k r : ℕ) → (kind_of (object_at t r) ≡ k → ⊥) → not (is_kind t k r) ≡ true
unfolding is_kind
is_not_kind t k r n = ap not (ne_eqb (kind_of (object_at t r)) k n)

module _ (sum : Sum) (b : Book) (number : ℕ → ℕ) (t roots tips : List ℕ) (extra : List (List ℕ)) (grown : Grown b) (texts : (k : ℕ) → a_text (nth b k).words ≡ true)
    (stored : Stored sum b number t roots) (root_is : (r : ℕ) → 1 ≤ r → has roots r ≡ true → Among number t tips extra r) where
  from_root : (r : ℕ) → Among number t tips extra r → Among number t (back b tips) (commits_files b tips ++ extra) r
  from_root r (inl (k, i)) = inl (k, back_self b tips (number r) grown i)
  from_root r (inr (inl (k, i))) = inr (inl (k, in_right (bytes_at t r) (commits_files b tips) extra i))
  from_root r (inr (inr (k, f))) = inr (inr (k, λ s e. in_right (bytes_at t s) (commits_files b tips) extra (f s e)))

  from_tree : (r : ℕ) → kind_of (object_at t r) ≡ 2 → Among number t (back b tips) (commits_files b tips ++ extra) r → (s : ℕ) →
      has (references_of (object_at t r)) s ≡ true → In (bytes_at t s) (commits_files b tips ++ extra)
  from_tree r e (inl (k, i)) s h = absurd (omega (arith, e, k))
  from_tree r e (inr (inl (k, i))) s h = absurd (omega (arith, e, k))
  from_tree r e (inr (inr (k, f))) s h = f s h

  from_commit : (r : ℕ) → kind_of (object_at t r) ≡ 3 → Among number t (back b tips) (commits_files b tips ++ extra) r → In (number r) (back b tips)
  from_commit r e (inl (k, i)) = i
  from_commit r e (inr (inl (k, i))) = absurd (omega (arith, e, k))
  from_commit r e (inr (inr (k, f))) = absurd (omega (arith, e, k))

  -- the files of a tree of a commit that is reached
  tree_files_in : (k : ℕ) → In k (back b tips) → (r : ℕ) → TreeAt sum t r (nth b k).tree → (s : ℕ) → has (references_of (object_at t r)) s ≡ true →
      In (bytes_at t s) (commits_files b tips ++ extra)
  tree_files_in k i r q s e =
      in_left (bytes_at t s) (commits_files b tips) extra
      (in_flat (λ j. each (λ f. f.bytes) (nth b j).tree) (back b tips) k (bytes_at t s) i
      (subst (In (bytes_at t s)) q.files (in_each (bytes_at t) (references_of (object_at t r)) s (has_in (references_of (object_at t r)) s e))))

  by_commit : (s r : ℕ) → 1 ≤ s → Live t roots r → (c : CommitAt sum b number t r) → has (references_of (object_at t r)) s ≡ true → In (number r) (back b tips) →
      Among number t (back b tips) (commits_files b tips ++ extra) s
  by_commit s r one l c e i =
      ⊎_elim
      (λ q.
      let k = commit_tree_live sum b number t roots r c (texts (number r)) l (omega arith) in
      subst (Among number t (back b tips) (commits_files b tips ++ extra)) (sym q) (inr (inr (k.1.kind, tree_files_in (number r) i (tree_named (object_at t r)) k.1))))
      (λ q.
      let k = commit_parent_live sum b number t roots r c (texts (number r)) l (omega arith) in
      subst (Among number t (back b tips) (commits_files b tips ++ extra)) (sym q)
      (inl (k.1, back_parents b tips (number r) (number (parent_named (object_at t r))) grown i (subst (In (number (parent_named (object_at t r)))) (sym k.2) (inl refl)))))
      (commit_names_both sum b number t roots r c (texts (number r)) s one e)

  by_thing : (s r : ℕ) → 1 ≤ s → Live t roots r → Thing sum b number t r → has (references_of (object_at t r)) s ≡ true →
      Among number t (back b tips) (commits_files b tips ++ extra) r → Among number t (back b tips) (commits_files b tips ++ extra) s
  by_thing s r one l (a_file f) e p = absurd (false≢true (ap (λ rs. has rs s) (sym (file_names sum t r f)) ∙ e))
  by_thing s r one l (a_tree u k) e p = inr (inl (file_kind sum t s (k.named s e), from_tree r k.kind p s e))
  by_thing s r one l (a_commit c) e p = by_commit s r one l c e (from_commit r (commit_kind sum b number t r c (texts (number r))) p)

  -- what is live is reached
  pub live_reached : (r : ℕ) → Live t roots r → Among number t (back b tips) (commits_files b tips ++ extra) r
  live_reached r l = go l
    where
      go : {s : ℕ} → Live t roots s → Among number t (back b tips) (commits_files b tips ++ extra) s
      go (root s one e) = from_root s (root_is s one e)
      go (named s s₁ one k e) = by_thing s s₁ one k (stored.thing s₁ k) e (go k)

  pub live_file_reached : (r : ℕ) → Live t roots r → kind_of (object_at t r) ≡ 1 → In (bytes_at t r) (commits_files b tips ++ extra)
  live_file_reached r l e = go (live_reached r l)
    where
      go : Among number t (back b tips) (commits_files b tips ++ extra) r → In (bytes_at t r) (commits_files b tips ++ extra)
      go (inl (k, i)) = absurd (omega (arith, e, k))
      go (inr (inl (k, i))) = i
      go (inr (inr (k, f))) = absurd (omega (arith, e, k))

  pub live_commit_reached : (r : ℕ) → Live t roots r → kind_of (object_at t r) ≡ 3 → In (number r) (back b tips)
  live_commit_reached r l e = from_commit r e (live_reached r l)

  module _ (tip_there : (k : ℕ) → In k tips → CommitThere number t roots k) where
    steps_there : (n k j : ℕ) → Steps b n k j → CommitThere number t roots k → CommitThere number t roots j
    steps_there zero k j s (r, l, e, f) = (r, l, e, f ∙ s)
    steps_there (suc n) k j (i, h, s) (r, l, e, f) =
        let c : CommitAt sum b number t r = as_commit sum b number t r (stored.thing r l) e in
        let q = numbered_in number t (parent_named (object_at t r)) (nth b (number r)).parents c.parent i (subst (λ x. In i (nth b x).parents) (sym f) h) in
        steps_there n i j s (parent_named (object_at t r), (commit_parent_live sum b number t roots r c (texts (number r)) l q.0).0, q.1, q.2)

    -- what is reached is live: each commit, and each file of such a commit
    pub commit_there : (k : ℕ) → In k (back b tips) → CommitThere number t roots k
    commit_there k i = let q = back_in b tips k i in steps_there q.2.0 q.0 k q.2.1 (tip_there q.0 q.1)

    commit_file_at : (r k : ℕ) → Live t roots r → CommitAt sum b number t r → number r ≡ k → (f : List ℕ) → In f (each (λ x. x.bytes) (nth b k).tree) → FileThere t roots f
    commit_file_at r k l c e f i = go c.tree
      where
        go : WorkAt sum t (tree_named (object_at t r)) (nth b (number r)).tree → FileThere t roots f
        go (inl (z, n)) = absurd (subst (λ x. In f (each (λ y. y.bytes) x)) (ap (λ j. (nth b j).tree) (sym e) ∙ n) i)
        go (inr q) =
            let refs : List ℕ = references_of (object_at t (tree_named (object_at t r))) in
            let x = each_in (bytes_at t) refs f (subst (In f) (ap (λ j. each (λ y. y.bytes) (nth b j).tree) (sym e) ∙ sym q.files) i) in
            let live = (commit_tree_live sum b number t roots r c (texts (number r)) l q.one).0 in
            let both = tree_files_live sum t roots (tree_named (object_at t r)) (nth b (number r)).tree live q x.0 (in_has refs x.0 x.1) in
            (x.0, both.0, both.1, x.2)

    pub commit_file_there : (f : List ℕ) → In f (commits_files b tips) → FileThere t roots f
    commit_file_there f i =
        let q = flat_in (λ k. each (λ x. x.bytes) (nth b k).tree) (back b tips) f i in
        let c = commit_there q.0 q.1 in
        commit_file_at c.0 q.0 c.1 (as_commit sum b number t c.0 (stored.thing c.0 c.1) c.2) c.3 f q.2

    -- WEIGHTS of what is live: the files, the commits; trees weigh nothing by themselves
    module _ (once : Once tips) (ls : List ℕ) (lives : Lives t roots ls) where
      file_list : List ℕ
      file_list = those (is_kind t 1) ls

      rest_list : List ℕ
      rest_list = those (λ r. not (is_kind t 1 r)) ls

      commit_list : List ℕ
      commit_list = those (is_kind t 3) rest_list

      in_file_list : (r : ℕ) → In r file_list → Live t roots r × (kind_of (object_at t r) ≡ 1)
      unfolding file_list
      in_file_list r i = let q = those_in (is_kind t 1) ls r i in (lives.only r (in_has ls r q.0), kind_is t 1 r q.1)

      file_listed : (r : ℕ) → Live t roots r → kind_of (object_at t r) ≡ 1 → In r file_list
      unfolding file_list
      file_listed r l e = in_those (is_kind t 1) ls r (has_in ls r (lives.all r l)) (is_of_kind t 1 r e)

      in_rest_list : (r : ℕ) → In r rest_list → Live t roots r × (kind_of (object_at t r) ≡ 1 → ⊥)
      unfolding rest_list
      in_rest_list r i = let q = those_in (λ x. not (is_kind t 1 x)) ls r i in (lives.only r (in_has ls r q.0), not_kind t 1 r q.1)

      in_commit_list : (r : ℕ) → In r commit_list → Live t roots r × (kind_of (object_at t r) ≡ 3)
      unfolding commit_list
      in_commit_list r i = let q = those_in (is_kind t 3) rest_list r i in ((in_rest_list r q.0).0, kind_is t 3 r q.1)

      commit_listed : (r : ℕ) → Live t roots r → kind_of (object_at t r) ≡ 3 → In r commit_list
      unfolding commit_list rest_list
      commit_listed r l e =
          in_those (is_kind t 3) rest_list r
          (in_those (λ x. not (is_kind t 1 x)) ls r (has_in ls r (lives.all r l)) (is_not_kind t 1 r (λ f. absurd (omega (arith, e, f))))) (is_of_kind t 3 r e)

      files_rise : rising file_list ≡ true
      unfolding file_list
      files_rise = rising_those (is_kind t 1) ls lives.rise

      commits_rise : rising commit_list ≡ true
      unfolding commit_list rest_list
      commits_rise = rising_those (is_kind t 3) rest_list (rising_those (λ r. not (is_kind t 1 r)) ls lives.rise)

      commit_at_list : (r : ℕ) → In r commit_list → CommitAt sum b number t r
      commit_at_list r i = as_commit sum b number t r (stored.thing r (in_commit_list r i).0) (in_commit_list r i).1

      file_at_list : (r : ℕ) → In r file_list → FileAt sum t r
      file_at_list r i = as_file sum b number t r texts (stored.thing r (in_file_list r i).0) (in_file_list r i).1

      others_light : weights t (those (λ r. not (is_kind t 3 r)) rest_list) ≡ 0
      others_light =
          added_up_none (weight_at t) (those (λ r. not (is_kind t 3 r)) rest_list)
          (λ r i.
          let q = those_in (λ x. not (is_kind t 3 x)) rest_list r i in
          light r (not_kind t 3 r q.1) (in_rest_list r q.0).1 (stored.thing r (in_rest_list r q.0).0))
        where
          light : (r : ℕ) → (kind_of (object_at t r) ≡ 3 → ⊥) → (kind_of (object_at t r) ≡ 1 → ⊥) → Thing sum b number t r → weight_at t r ≡ 0
          light r n m (a_file f) = absurd (m (file_kind sum t r f))
          light r n m (a_tree u k) = k.light
          light r n m (a_commit c) = absurd (n (commit_kind sum b number t r c (texts (number r))))

      commit_sum : weights t commit_list ≡ commits_weight b tips
      unfolding weight_of tree_weight
      commit_sum =
          added_up_alike (weight_at t) (λ r. 256 + length (nth b (number r)).words + tree_weight (nth b (number r)).tree) commit_list
          (λ r i. commit_weighs sum b number t r (commit_at_list r i) (texts (number r)))
          ∙ sym (added_up_each (λ k. 256 + length (nth b k).words + tree_weight (nth b k).tree) number commit_list)
          ∙ added_up_members eqb Decides-eqb (λ k. 256 + length (nth b k).words + tree_weight (nth b k).tree) (each number commit_list) (back b tips)
          (once_each number commit_list (rising_once commit_list commits_rise)
          (λ r s i j e. stored.commits_once r s (in_commit_list r i).0 (in_commit_list s j).0 (in_commit_list r i).1 (in_commit_list s j).1 e))
          (once_back b tips once)
          (λ k i.
          let q = each_in number commit_list k i in
          subst (λ x. In x (back b tips)) q.2 (live_commit_reached q.0 (in_commit_list q.0 q.1).0 (in_commit_list q.0 q.1).1))
          (λ k i. let q = commit_there k i in subst (λ x. In x (each number commit_list)) q.3 (in_each number commit_list q.0 (commit_listed q.0 q.1 q.2)))

      split : weights t ls ≡ weights t file_list + commits_weight b tips
      unfolding file_list rest_list commit_list
      split =
          let a : weights t ls ≡ weights t (those (is_kind t 1) ls) + weights t (those (λ r. not (is_kind t 1 r)) ls) = weights_by t ls (is_kind t 1) in
          let c : weights t rest_list ≡ weights t (those (is_kind t 3) rest_list) + weights t (those (λ r. not (is_kind t 3 r)) rest_list) = weights_by t rest_list (is_kind t 3) in
          let e : weights t commit_list ≡ commits_weight b tips = commit_sum in
          let z : weights t (those (λ r. not (is_kind t 3 r)) rest_list) ≡ 0 = others_light in
          a ∙ ap (λ w. weights t (those (is_kind t 1) ls) + w) (omega (arith, a, c, e, z))

      listed_there : (f : List ℕ) → FileThere t roots f → In f (each (bytes_at t) file_list)
      listed_there f (r, l, e, q) = subst (λ x. In x (each (bytes_at t) file_list)) q (in_each (bytes_at t) file_list r (file_listed r l e))

      listed_in : (f : List ℕ) → In f (each (bytes_at t) file_list) → FileThere t roots f
      listed_in f i = let q = each_in (bytes_at t) file_list f i in (q.0, (in_file_list q.0 q.1).0, (in_file_list q.0 q.1).1, q.2)

      there_reached : (f : List ℕ) → FileThere t roots f → In f (commits_files b tips ++ extra)
      there_reached f (r, l, e, q) = subst (λ x. In x (commits_files b tips ++ extra)) q (live_file_reached r l e)

      list_weighs : (r : ℕ) → has file_list r ≡ true → weight_at t r ≡ 64 + length (bytes_at t r)
      list_weighs r e = file_weighs sum t r (file_at_list r (has_in file_list r e))

      list_differs : (r s : ℕ) → has file_list r ≡ true → has file_list s ≡ true → bytes_at t r ≡ bytes_at t s → r ≡ s
      list_differs r s e f q =
          let i = in_file_list r (has_in file_list r e) in
          let j = in_file_list s (has_in file_list s f) in
          stored.files_once r s i.0 j.0 i.1 j.1 q

      -- where each file that is kept is live
      pub live_weighs : ((f : List ℕ) → In f extra → FileThere t roots f) → weights t ls ≡ files_weight (commits_files b tips ++ extra) + commits_weight b tips
      live_weighs extra_there =
          split
          ∙ ap (λ w. w + commits_weight b tips)
          (sym (files_weigh t file_list (bytes_at t) (commits_files b tips ++ extra) files_rise list_weighs list_differs
          (λ f. any_both (commits_files b tips ++ extra) (each (bytes_at t) file_list) f
          (λ i. listed_there f (⊎_elim (λ k. commit_file_there f k) (λ k. extra_there f k) (in_append f (commits_files b tips) extra i)))
          (λ i. there_reached f (listed_in f i)))))

      -- and where each but one is
      pub live_weighs_more : (new : List ℕ) → In new extra → ((f : List ℕ) → In f extra → (f ≡ new) ⊎ FileThere t roots f) → (FileThere t roots new → ⊥) →
          weights t ls + (64 + length new) ≡ files_weight (commits_files b tips ++ extra) + commits_weight b tips
      live_weighs_more new among extra_there absent =
          let e : files_weight (commits_files b tips ++ extra) ≡ weights t file_list + (64 + length new) =
          files_weigh_more t file_list (bytes_at t) (commits_files b tips ++ extra) files_rise list_weighs list_differs new
          (λ f. any_both (commits_files b tips ++ extra) (new ∷ each (bytes_at t) file_list) f
          (λ i. ⊎_elim (λ k. inr (listed_there f (commit_file_there f k))) (λ k. ⊎_elim (λ q. inl (sym q)) (λ q. inr (listed_there f q)) (extra_there f k))
          (in_append f (commits_files b tips) extra i))
          (λ i. ⊎_elim (λ q. subst (λ x. In x (commits_files b tips ++ extra)) q (in_right new (commits_files b tips) extra among)) (λ k. there_reached f (listed_in f k)) i))
          (false_unless (any (same new) (each (bytes_at t) file_list)) (λ h. absent (listed_in new (any_member same same_tells (each (bytes_at t) file_list) new h)))) in
          let s : weights t ls ≡ weights t file_list + commits_weight b tips = split in
          omega (arith, e, s)

-- WHAT IS LIVE, in a list
pub live_cases : (t roots : List ℕ) (r : ℕ) → Live t roots r →
    (1 ≤ r) × ((has roots r ≡ true) ⊎ ((s : ℕ) × Live t roots s × (has (references_of (object_at t s)) r ≡ true)))
live_cases t roots r l = go l
  where
    go : {s : ℕ} → Live t roots s → (1 ≤ s) × ((has roots s ≡ true) ⊎ ((q : ℕ) × Live t roots q × (has (references_of (object_at t q)) s ≡ true)))
    go (root s one e) = (one, inl e)
    go (named s s₁ one k e) = (one, inr (s₁, k, e))

-- down from the top: a reference is live if it is a root, or if a live one above names it
live_test : List ℕ → List ℕ → List ℕ → ℕ → Bool
live_test t roots above r = or (has roots r) (any (λ s. has (references_of (object_at t s)) r) above)

lives_down : List ℕ → List ℕ → ℕ → ℕ → List ℕ
lives_down t roots top zero = []
lives_down t roots top (suc n) =
    pick (live_test t roots (lives_down t roots top n) (top - n)) ((top - n) ∷ lives_down t roots top n) (lives_down t roots top n)

tests_live : (t roots above : List ℕ) (r : ℕ) → 1 ≤ r → ((s : ℕ) → In s above → Live t roots s) → live_test t roots above r ≡ true → Live t roots r
unfolding live_test
tests_live t roots above r one known e =
    ⊎_elim (λ h. root r one h)
    (λ h. let q = any_in (λ s. has (references_of (object_at t s)) r) above h in named r q.0 one (known q.0 q.1) q.2)
    (or_cases (has roots r) (any (λ s. has (references_of (object_at t s)) r) above) e)

live_tests : (t roots above : List ℕ) (r : ℕ) → ((s : ℕ) → Live t roots s → has (references_of (object_at t s)) r ≡ true → In s above) → Live t roots r →
    live_test t roots above r ≡ true
unfolding live_test
live_tests t roots above r there l =
    ⊎_elim (λ h. or_left (has roots r) (any (λ s. has (references_of (object_at t s)) r) above) h)
    (λ q. or_right (has roots r) (any (λ s. has (references_of (object_at t s)) r) above) (any_from (λ s. has (references_of (object_at t s)) r) above q.0 (there q.0 q.1 q.2) q.2))
    (live_cases t roots r l).1

module _ (t roots : List ℕ) (lo top : ℕ) (heap : Heap t lo top roots) where
  down_in : (n : ℕ) → n ≤ top → (r : ℕ) → In r (lives_down t roots top n) → (top < r + n) × Live t roots r
  unfolding lives_down
  down_in zero low r i = absurd i
  down_in (suc n) low r i =
      let later : In r (lives_down t roots top n) → (top < r + suc n) × Live t roots r = λ k. (let q = down_in n (omega arith) r k in (omega (arith, q.0), q.1)) in
      pick_both (λ l. In r l → (top < r + suc n) × Live t roots r) (live_test t roots (lives_down t roots top n) (top - n)) ((top - n) ∷ lives_down t roots top n)
      (lives_down t roots top n)
      (λ e k. ⊎_elim
      (λ q. (omega arith, subst (Live t roots) q (tests_live t roots (lives_down t roots top n) (top - n) (omega arith) (λ s j. (down_in n (omega arith) s j).1) e))) later k)
      (λ e. later) i

  down_rises : (n : ℕ) → n ≤ top → rising (lives_down t roots top n) ≡ true
  unfolding lives_down rising
  down_rises zero low = refl
  down_rises (suc n) low =
      pick_both (λ l. rising l ≡ true) (live_test t roots (lives_down t roots top n) (top - n)) ((top - n) ∷ lives_down t roots top n) (lives_down t roots top n)
      (λ e. and_from (every (λ s. ltb (top - n) s) (lives_down t roots top n)) (rising (lives_down t roots top n))
      (every_from (λ s. ltb (top - n) s) (lives_down t roots top n) (λ s i. lt-ltb (top - n) s (omega (arith, (down_in n (omega arith) s i).0))))
      (down_rises n (omega arith)))
      (λ e. down_rises n (omega arith))

  down_all : (n : ℕ) → n ≤ top → (r : ℕ) → Live t roots r → top < r + n → In r (lives_down t roots top n)
  unfolding lives_down
  down_all zero low r l above = let q = heap.placed r l in absurd (omega (arith, q.within, q.whole, q.above))
  down_all (suc n) low r l above =
      pick_both (λ k. In r k) (live_test t roots (lives_down t roots top n) (top - n)) ((top - n) ∷ lives_down t roots top n) (lives_down t roots top n)
      (λ e. ⊎_elim (λ lt. inr (down_all n (omega arith) r l lt)) (λ le. inl (omega arith)) (cases_lt top (r + n)))
      (λ e. ⊎_elim (λ lt. down_all n (omega arith) r l lt)
      (λ le. absurd (true≢false
      (sym (live_tests t roots (lives_down t roots top n) (top - n)
      (λ s k h.
      let lt : top - n < s = ltb-true (top - n) s (every_in (λ x. ltb x s) (references_of (object_at t s)) (heap.placed s k).lower (top - n) (has_in (references_of (object_at t s)) (top - n) h)) in
      down_all n (omega arith) s k (omega arith))
      (subst (Live t roots) (same_place le) l)) ∙ e))) (cases_lt top (r + n)))
    where
      same_place : r + n ≤ top → r ≡ top - n
      same_place le = omega arith

  pub lives_there : (ls : List ℕ) × Lives t roots ls
  lives_there = (
    lives_down t roots top top,
    record {
      rise = down_rises top (omega arith);
      all = λ r l. in_has (lives_down t roots top top) r (down_all top (omega arith) r l (omega (arith, (heap.placed r l).above)));
      only = λ r e. (down_in top (omega arith) r (has_in (lives_down t roots top top) r e)).1;
    },
  )

-- A HOUSE that works on the one branch: what it has to keep
pub keeping_weighs : (b : Book) (tree : Tree) (tips : List ℕ) → length tips ≤ 1 →
    weight b (keeping tree tips) ≡ files_weight (commits_files b tips ++ each (λ f. f.bytes) tree) + commits_weight b tips + weight_of tree + 128 * length tips
unfolding added weight_of tree_weight
keeping_weighs b tree [] l = weight_kept b (keeping tree [])
keeping_weighs b tree (k ∷ []) l = weight_kept b (keeping tree (k ∷ []))
keeping_weighs b tree (k ∷ j ∷ ks) l = absurd (omega arith)

pub numbered_few : (number : ℕ → ℕ) (t : List ℕ) (r : ℕ) (ks : List ℕ) → Numbered number t r ks → length ks ≤ 1
numbered_few number t r ks (inl (z, e)) = omega (arith, ap length e)
numbered_few number t r ks (inr (o, q, e)) = omega (arith, ap length e)

-- A SHELF
module _ (sum : Sum) (pages : ℕ) (b : Book) (number : ℕ → ℕ) (h t : List ℕ) (tree : Tree) (tips : List ℕ) (s : Shelf sum pages b number h t tree tips) where
  pub root_live : 1 ≤ work_root h → Live t (roots_of h) (work_root h)
  root_live one =
      root (work_root h) one (ap (λ rs. has rs (work_root h)) (head_roots h s.others) ∙ in_has (work_root h ∷ tip_root h ∷ zeros 6) (work_root h) (inl refl))

  pub tip_live : 1 ≤ tip_root h → Live t (roots_of h) (tip_root h)
  tip_live one =
      root (tip_root h) one (ap (λ rs. has rs (tip_root h)) (head_roots h s.others) ∙ in_has (work_root h ∷ tip_root h ∷ zeros 6) (tip_root h) (inr (inl refl)))

  pub work_file_at : (r : ℕ) → has (files_named t (work_root h)) r ≡ true → FileAt sum t r
  work_file_at r e = work_file sum t (work_root h) tree s.work r e

  pub file_live : (r : ℕ) → has (files_named t (work_root h)) r ≡ true → Live t (roots_of h) r
  file_live r e =
      let one : 1 ≤ work_root h = work_there t (work_root h) r e in
      named r (work_root h) (work_file_at r e).one (root_live one) (ap (λ rs. has rs r) (sym (named_files t (work_root h) one)) ∙ e)

  pub lives_of : (ls : List ℕ) × Lives t (roots_of h) ls
  lives_of = lives_there t (roots_of h) (8 * first_page h) (8 * last_page h) s.heap

  -- the tree in work
  pub work_at : 1 ≤ work_root h → TreeAt sum t (work_root h) tree
  work_at one = work_is sum t (work_root h) tree s.work one

  pub work_files : each (bytes_at t) (files_named t (work_root h)) ≡ each (λ f. f.bytes) tree
  work_files = work_names sum t (work_root h) tree s.work

  -- the branch's commit
  pub tip_at : 1 ≤ tip_root h → CommitAt sum b number t (tip_root h)
  tip_at one = as_commit sum b number t (tip_root h) (s.stored.thing (tip_root h) (tip_live one)) (numbered_is number t (tip_root h) tips s.tip one).0

  pub tip_there : (k : ℕ) → In k tips → CommitThere number t (roots_of h) k
  tip_there k i = let q = numbered_in number t (tip_root h) tips s.tip k i in (tip_root h, tip_live q.0, q.1, q.2)

  pub tips_noted : (k : ℕ) → In k tips → k < length b
  tips_noted k i =
      let q = numbered_in number t (tip_root h) tips s.tip k i in
      subst (λ x. x < length b) q.2 (tip_at q.0).noted

  pub tips_once : Once tips
  tips_once = numbered_once number t (tip_root h) tips s.tip

  root_kind : (r : ℕ) → 1 ≤ r → has (roots_of h) r ≡ true → ((r ≡ work_root h) × (kind_of (object_at t r) ≡ 2)) ⊎ ((r ≡ tip_root h) × (kind_of (object_at t r) ≡ 3))
  root_kind r one e =
      ⊎_elim (λ q. inl (q, ap (λ x. kind_of (object_at t x)) q ∙ (work_at (omega arith)).kind))
      (λ q. inr (q, ap (λ x. kind_of (object_at t x)) q ∙ (numbered_is number t (tip_root h) tips s.tip (omega arith)).0)) (roots_only h s.others r one e)

  -- the bytes of the files in work stand in live files
  pub work_files_there : (f : List ℕ) → In f (each (λ x. x.bytes) tree) → FileThere t (roots_of h) f
  work_files_there f i =
      let q = each_in (bytes_at t) (files_named t (work_root h)) f (subst (In f) (sym work_files) i) in
      let e = in_has (files_named t (work_root h)) q.0 q.1 in
      (q.0, file_live q.0 e, file_kind sum t q.0 (work_file_at q.0 e), q.2)

  pub roots_among : (r : ℕ) → 1 ≤ r → has (roots_of h) r ≡ true → Among number t tips (each (λ f. f.bytes) tree) r
  roots_among r one e =
      ⊎_elim (λ q. subst (Among number t tips (each (λ f. f.bytes) tree)) (sym q) (at_work (omega arith)))
      (λ q. subst (Among number t tips (each (λ f. f.bytes) tree)) (sym q) (at_tip (omega arith))) (roots_only h s.others r one e)
    where
      at_work : 1 ≤ work_root h → Among number t tips (each (λ f. f.bytes) tree) (work_root h)
      at_work o =
          inr (inr (
            (work_at o).kind,
            λ x k. subst (In (bytes_at t x)) (work_at o).files
                (in_each (bytes_at t) (references_of (object_at t (work_root h))) x (has_in (references_of (object_at t (work_root h))) x k)),
          ))

      at_tip : 1 ≤ tip_root h → Among number t tips (each (λ f. f.bytes) tree) (tip_root h)
      at_tip o = let q = numbered_is number t (tip_root h) tips s.tip o in inl (q.0, subst (In (number (tip_root h))) (sym q.1) (inl refl))

  module _ (grown : Grown b) (texts : (k : ℕ) → a_text (nth b k).words ≡ true) where
    -- ROOM
    thing_at : (r : ℕ) → Live t (roots_of h) r → Thing sum b number t r
    thing_at r l = s.stored.thing r l

    tree_is_named : (r : ℕ) → Live t (roots_of h) r → kind_of (object_at t r) ≡ 2 →
        (r ≡ work_root h) ⊎ ((q : ℕ) × Live t (roots_of h) q × (kind_of (object_at t q) ≡ 3) × (get_or (references_of (object_at t q)) 0 0 ≡ r))
    tree_is_named r l k =
        let c = live_cases t (roots_of h) r l in
        ⊎_elim (λ e. ⊎_elim (λ q. inl q.0) (λ q. absurd (omega (arith, k, q.1))) (root_kind r c.0 e)) (λ q. by q.0 q.1 c.0 q.2 (thing_at q.0 q.1)) c.1
      where
        by : (q : ℕ) → Live t (roots_of h) q → 1 ≤ r → has (references_of (object_at t q)) r ≡ true → Thing sum b number t q →
            (r ≡ work_root h) ⊎ ((x : ℕ) × Live t (roots_of h) x × (kind_of (object_at t x) ≡ 3) × (get_or (references_of (object_at t x)) 0 0 ≡ r))
        by q m one e (a_file f) = absurd (false≢true (ap (λ rs. has rs r) (sym (file_names sum t q f)) ∙ e))
        by q m one e (a_tree u d) = absurd (omega (arith, k, file_kind sum t r (d.named r e)))
        by q m one e (a_commit c) =
            ⊎_elim
            (λ f. inr (q, m, commit_kind sum b number t q c (texts (number q)), ap (λ rs. get_or rs 0 0) (commit_names sum b number t q c (texts (number q))) ∙ sym f))
            (λ f.
            let p = commit_parent_live sum b number t (roots_of h) q c (texts (number q)) m (omega arith) in
            absurd (omega (arith, k, p.1, ap (λ x. kind_of (object_at t x)) f)))
            (commit_names_both sum b number t (roots_of h) q c (texts (number q)) r one e)

    tree_is_noted : (q : ℕ) → Live t (roots_of h) q → kind_of (object_at t q) ≡ 3 → 1 ≤ get_or (references_of (object_at t q)) 0 0 →
        noted_weight (object_at t q) ≡ tree_weight_in (object_at t (get_or (references_of (object_at t q)) 0 0))
    tree_is_noted q m e one =
        let c = as_commit sum b number t q (thing_at q m) e in
        let first : get_or (references_of (object_at t q)) 0 0 ≡ tree_named (object_at t q) = ap (λ rs. get_or rs 0 0) (commit_names sum b number t q c (texts (number q))) in
        let k = commit_tree_live sum b number t (roots_of h) q c (texts (number q)) m (omega arith) in
        commit_notes sum b number t q c (texts (number q)) ∙ sym k.1.weighs ∙ ap (λ x. tree_weight_in (object_at t x)) (sym first)

    file_is_named : (r : ℕ) → Live t (roots_of h) r → kind_of (object_at t r) ≡ 1 →
        (q : ℕ) × Live t (roots_of h) q × (kind_of (object_at t q) ≡ 2) × (has (references_of (object_at t q)) r ≡ true)
    file_is_named r l k =
        let c = live_cases t (roots_of h) r l in
        ⊎_elim (λ e. ⊎_elim (λ q. absurd (omega (arith, k, q.1))) (λ q. absurd (omega (arith, k, q.1))) (root_kind r c.0 e)) (λ q. by q.0 q.1 c.0 q.2 (thing_at q.0 q.1)) c.1
      where
        by : (q : ℕ) → Live t (roots_of h) q → 1 ≤ r → has (references_of (object_at t q)) r ≡ true → Thing sum b number t q →
            (x : ℕ) × Live t (roots_of h) x × (kind_of (object_at t x) ≡ 2) × (has (references_of (object_at t x)) r ≡ true)
        by q m one e (a_file f) = absurd (false≢true (ap (λ rs. has rs r) (sym (file_names sum t q f)) ∙ e))
        by q m one e (a_tree u d) = (q, m, d.kind, e)
        by q m one e (a_commit c) =
            ⊎_elim
            (λ f.
            let p = commit_tree_live sum b number t (roots_of h) q c (texts (number q)) m (omega arith) in
            absurd (omega (arith, k, p.1.kind, ap (λ x. kind_of (object_at t x)) f)))
            (λ f.
            let p = commit_parent_live sum b number t (roots_of h) q c (texts (number q)) m (omega arith) in
            absurd (omega (arith, k, p.1, ap (λ x. kind_of (object_at t x)) f)))
            (commit_names_both sum b number t (roots_of h) q c (texts (number q)) r one e)

    pub shelf_roomy : Roomy t (roots_of h) (work_root h)
    shelf_roomy =
        record {
          sized = λ r l. omega (arith, (s.heap.placed r l).whole);
          built = λ r l. thing_is_built sum b number t r texts (thing_at r l);
          tree_named = tree_is_named;
          tree_noted = tree_is_noted;
          file_named = file_is_named;
        }

    -- WEIGHT
    pub shelf_weighs : (ls : List ℕ) → Lives t (roots_of h) ls → weights t ls + work_weight t (work_root h) + 128 * length tips ≡ weight b (keeping tree tips)
    shelf_weighs ls lives =
        let live : weights t ls ≡ files_weight (commits_files b tips ++ each (λ f. f.bytes) tree) + commits_weight b tips =
        live_weighs sum b number t (roots_of h) tips (each (λ f. f.bytes) tree) grown texts s.stored roots_among tip_there tips_once ls lives work_files_there in
        let work : work_weight t (work_root h) ≡ weight_of tree = work_weighs sum t (work_root h) tree s.work in
        let all = keeping_weighs b tree tips (numbered_few number t (tip_root h) tips s.tip) in
        omega arith

    pub shelf_fits : (ls : List ℕ) → Lives t (roots_of h) ls → 64 ≤ pages → (added_up (units_at t) ls + 7) / 8 ≤ reserve pages
    shelf_fits ls lives low =
        let most : weight b (keeping tree tips) ≤ 128 * pages = s.weight in
        let is : weights t ls + work_weight t (work_root h) + 128 * length tips ≡ weight b (keeping tree tips) = shelf_weighs ls lives in
        (ring_has_room pages low).1 (added_up (units_at t) ls) (weights t ls + work_weight t (work_root h))
        (takes_little t (roots_of h) ls (work_root h) lives shelf_roomy) (omega arith)

-- OBJECTS UNDER NEW NAMES, with words behind them
pub renamed_before : (g : ℕ → ℕ) (o z : List ℕ) → 2 + references_in (get_or o 0 0) ≤ length o → renamed g (o ++ z) ≡ renamed g o ++ z
renamed_before g o z l =
    ap₂ (λ a b. a ++ (each g b ++ data_of (o ++ z))) (take-append-le 2 o z (omega arith)) (first_names o z l)
    ∙ ap (λ x. take 2 o ++ (each g (references_of o) ++ drop (2 + references_in x) (o ++ z))) (get_or_append_left o z 0 0 (omega arith))
    ∙ ap (λ b. take 2 o ++ (each g (references_of o) ++ b)) (drop-append-le (2 + references_in (get_or o 0 0)) o z l)
    ∙ ap (λ b. take 2 o ++ b) (sym (append_assoc (each g (references_of o)) (data_of o) z))
    ∙ sym (append_assoc (take 2 o) (each g (references_of o) ++ data_of o) z)

zero_or : (n : ℕ) → (n ≡ 0) ⊎ (1 ≤ n)
zero_or zero = inl refl
zero_or (suc n) = inr (omega arith)

-- A COMMIT under new names
pub commit_renamed : (g : ℕ → ℕ) (a p z : ℕ) (i : List ℕ) (stamp tree_weight bytes : ℕ) (ws : List ℕ) → references_in (heading 3 3 (11 + length ws)) ≡ 3 →
    renamed g (commit_object a p z i stamp tree_weight bytes ws) ≡ commit_object (g a) (g p) (g z) i stamp tree_weight bytes ws
commit_renamed g a p z i stamp tree_weight bytes ws three =
    ap (λ n. take 2 (commit_object a p z i stamp tree_weight bytes ws) ++ (each g (take n (drop 2 (commit_object a p z i stamp tree_weight bytes ws))) ++ drop (2 + n) (commit_object a p z i stamp tree_weight bytes ws)))
    three

-- THE NUMBERS of commits under new names: a commit's number is the one that it had
abbrev pub new_number : (ℕ → ℕ) → (ℕ → ℕ) → List ℕ → ℕ → ℕ
new_number number name ls q = number (first_or 0 (those (λ r. eqb (name r) q) ls))

first_in : (ks : List ℕ) (k : ℕ) → In k ks → In (first_or 0 ks) ks
first_in [] k i = absurd i
first_in (j ∷ ks) k i = inl refl

-- A SWEEP leaves a shelf as it was, if no live name becomes none
module _ (sum : Sum) (pages : ℕ) (b : Book) (number : ℕ → ℕ) (h t h₁ t₁ ls : List ℕ) (tree : Tree) (tips : List ℕ) (s : Shelf sum pages b number h t tree tips)
    (w : Swept t h t₁ h₁ ls) (grown : Grown b) (texts : (k : ℕ) → a_text (nth b k).words ≡ true) (lives : Lives t (roots_of h) ls) where
  roots_now : roots_of h₁ ≡ each w.name (work_root h ∷ tip_root h ∷ zeros 6)
  roots_now = w.roots_are ∙ ap (each w.name) (head_roots h s.others)

  new_work : work_root h₁ ≡ w.name (work_root h)
  new_work = sym (get_or-take 8 (drop 2 h₁) 0 0 (omega arith) ∙ get_or-drop 2 h₁ 0 0) ∙ ap (λ rs. get_or rs 0 0) roots_now

  new_tip : tip_root h₁ ≡ w.name (tip_root h)
  new_tip = sym (get_or-take 8 (drop 2 h₁) 1 0 (omega arith) ∙ get_or-drop 2 h₁ 1 0) ∙ ap (λ rs. get_or rs 1 0) roots_now

  new_others : drop 4 h₁ ≡ zeros 28
  unfolding zeros
  new_others =
      sym (take-append-drop 6 (drop 4 h₁))
      ∙ ap₂ (λ x y. x ++ y)
      (ap (take 6) (sym (drop-drop 2 2 h₁)) ∙ sym (drop-take 2 6 (drop 2 h₁)) ∙ ap (drop 2) roots_now ∙ ap (λ z. z ∷ z ∷ z ∷ z ∷ z ∷ z ∷ []) w.none_is_none)
      (drop-drop 6 4 h₁ ∙ w.others_are ∙ sym (drop-drop 6 4 h) ∙ ap (drop 6) s.others)

  -- no two live references get one name
  one_name : (r q : ℕ) → Live t (roots_of h) r → Live t (roots_of h) q → w.name r ≡ w.name q → r ≡ q
  one_name r q l k e = go (cases_order r q)
    where
      go : (r ≡ q) ⊎ ((r < q) ⊎ (q < r)) → r ≡ q
      go (inl f) = f
      go (inr (inl lt)) = absurd (omega (arith, w.rises r q l k lt, e))
      go (inr (inr lt)) = absurd (omega (arith, w.rises q r k l lt, e))

  number_stays : (r : ℕ) → Live t (roots_of h) r → new_number number w.name ls (w.name r) ≡ number r
  number_stays r l =
      let i = in_those (λ x. eqb (w.name x) (w.name r)) ls r (has_in ls r (lives.all r l)) (eq-eqb (w.name r) (w.name r) refl) in
      let q = those_in (λ x. eqb (w.name x) (w.name r)) ls (first_or 0 (those (λ x. eqb (w.name x) (w.name r)) ls)) (first_in (those (λ x. eqb (w.name x) (w.name r)) ls) r i) in
      ap number
      (one_name (first_or 0 (those (λ x. eqb (w.name x) (w.name r)) ls)) r
      (lives.only (first_or 0 (those (λ x. eqb (w.name x) (w.name r)) ls)) (in_has ls (first_or 0 (those (λ x. eqb (w.name x) (w.name r)) ls)) q.0)) l
      (eqb-true (w.name (first_or 0 (those (λ x. eqb (w.name x) (w.name r)) ls))) (w.name r) q.1))

  -- one live object
  live_whole : (r : ℕ) → Live t (roots_of h) r → 2 + references_in (get_or (object_at t r) 0 0) ≤ length (object_at t r)
  live_whole r l = whole_object t (8 * first_page h) (8 * last_page h) r (s.heap.placed r l) (omega (arith, s.whole))

  refers : (r : ℕ) → Live t (roots_of h) r → references_of (object_at t₁ (w.name r)) ≡ each w.name (references_of (object_at t r))
  refers r l = ap references_of (w.kept r l) ∙ references_renamed w.name (object_at t r) (live_whole r l)

  heading_stays : (r : ℕ) → Live t (roots_of h) r → get_or (object_at t₁ (w.name r)) 0 0 ≡ get_or (object_at t r) 0 0
  heading_stays r l = ap (λ o. get_or o 0 0) (w.kept r l) ∙ heading_renamed w.name (object_at t r) (live_whole r l)

  kind_stays : (r : ℕ) → Live t (roots_of h) r → kind_of (object_at t₁ (w.name r)) ≡ kind_of (object_at t r)
  kind_stays r l = ap kind_in (heading_stays r l)

  weight_stays_so : (r : ℕ) → Live t (roots_of h) r → own_weight (object_at t₁ (w.name r)) ≡ own_weight (object_at t r)
  weight_stays_so r l =
      ap own_weight (w.kept r l)
      ∙ get_or_append_left (take 2 (object_at t r)) (each w.name (references_of (object_at t r)) ++ data_of (object_at t r)) 0 1
      (omega (arith, length-take-le 2 (object_at t r) (omega (arith, live_whole r l))))
      ∙ get_or-take 2 (object_at t r) 1 0 (omega arith)

  -- files
  file_stays : (r : ℕ) → Live t (roots_of h) r → FileAt sum t r → object_at t₁ (w.name r) ≡ object_at t r
  file_stays r l f = w.kept r l ∙ file_renamed sum t r f w.name

  bytes_stay : (r : ℕ) → Live t (roots_of h) r → FileAt sum t r → bytes_at t₁ (w.name r) ≡ bytes_at t r
  bytes_stay r l f = bytes_alike t t₁ r (w.name r) (file_stays r l f)

  file_moved : (r : ℕ) → Live t (roots_of h) r → FileAt sum t r → FileAt sum t₁ (w.name r)
  file_moved r l f = file_alike sum t t₁ r (w.name r) (w.some_is_some r l) (file_stays r l f) f

  -- trees
  module _ (r : ℕ) (u : Tree) (l : Live t (roots_of h) r) (k : TreeAt sum t r u) where
    named_live : (x : ℕ) → has (references_of (object_at t r)) x ≡ true → Live t (roots_of h) x
    named_live x e = (tree_files_live sum t (roots_of h) r u l k x e).0

    named_bytes : (x : ℕ) → has (references_of (object_at t r)) x ≡ true → bytes_at t₁ (w.name x) ≡ bytes_at t x
    named_bytes x e = bytes_stay x (named_live x e) (k.named x e)

    tree_moved : TreeAt sum t₁ (w.name r) u
    tree_moved =
        let o : List ℕ = object_at t r in
        record {
          one = w.some_is_some r l;
          kind = kind_stays r l ∙ k.kind;
          light = weight_stays_so r l ∙ k.light;
          weighs = ap tree_weight_in (w.kept r l) ∙ ap (λ v. get_or v 0 0) (renamed_right w.name o (live_whole r l)).0.kept ∙ k.weighs;
          short = omega (arith, k.short, ap size_in (heading_stays r l), ap length (refers r l), length_each w.name (references_of o));
          named =
              λ q e.
              let x = each_in w.name (references_of o) q (has_in (each w.name (references_of o)) q (ap (λ rs. has rs q) (sym (refers r l)) ∙ e)) in
              let f = in_has (references_of o) x.0 x.1 in
              subst (FileAt sum t₁) x.2 (file_moved x.0 (named_live x.0 f) (k.named x.0 f));
          files =
              ap (each (bytes_at t₁)) (refers r l) ∙ each_each (bytes_at t₁) w.name (references_of o)
              ∙ each_alike (λ x. bytes_at t₁ (w.name x)) (bytes_at t) (references_of o) (λ x i. named_bytes x (in_has (references_of o) x i)) ∙ k.files;
          spreads =
              λ z into two fits.
              let was = k.spreads z into two fits in
              let long : 2 + files_in (o ++ z) ≤ length (o ++ z) =
              omega (arith, live_whole r l, length-append o z, ap references_in (get_or_append_left o z 0 0 (omega (arith, live_whole r l)))) in
              let new = renamed_right w.name (o ++ z) long in
              subst (λ v. (spread_fits v into ≡ true) × RowOf (bytes_at t₁) (spread_into v into) u)
              (renamed_before w.name o z (live_whole r l) ∙ ap (λ v. v ++ z) (sym (w.kept r l))) (
                new.0.fits into ∙ was.0,
                new.1 (bytes_at t) (bytes_at t₁) into u was.0 (λ x e. named_bytes x (ap (λ rs. has rs x) (sym (first_names o z (live_whole r l))) ∙ e)) was.1,
              );
        }

  work_moved : (x : ℕ) (u : Tree) → (1 ≤ x → Live t (roots_of h) x) → WorkAt sum t x u → WorkAt sum t₁ (w.name x) u
  work_moved x u l (inl (z, e)) = inl (ap w.name z ∙ w.none_is_none, e)
  work_moved x u l (inr k) = inr (tree_moved x u (l k.one) k)

  -- commits
  numbered_moved : (x : ℕ) (ks : List ℕ) → (1 ≤ x → Live t (roots_of h) x) → Numbered number t x ks → Numbered (new_number number w.name ls) t₁ (w.name x) ks
  numbered_moved x ks l (inl (z, e)) = inl (ap w.name z ∙ w.none_is_none, e)
  numbered_moved x ks l (inr (o, k, e)) =
      inr (w.some_is_some x (l o), kind_stays x (l o) ∙ k, e ∙ ap (λ n. n ∷ []) (sym (number_stays x (l o))))

  module _ (r : ℕ) (l : Live t (roots_of h) r) (c : CommitAt sum b number t r) where
    text : a_text (nth b (number r)).words ≡ true
    text = texts (number r)

    laid : object_at t₁ (w.name r)
        ≡ commit_object (w.name (tree_named (object_at t r))) (w.name (parent_named (object_at t r))) 0 (words 4 (id sum b (number r))) (nth b (number r)).stamp
        (weight_of (nth b (number r)).tree) (length (nth b (number r)).words) (packed_bytes (nth b (number r)).words)
    laid =
        w.kept r l ∙ ap (renamed w.name) c.is
        ∙ commit_renamed w.name (tree_named (object_at t r)) (parent_named (object_at t r)) 0 (words 4 (id sum b (number r))) (nth b (number r)).stamp
        (weight_of (nth b (number r)).tree) (length (nth b (number r)).words) (packed_bytes (nth b (number r)).words) (commit_heading sum b number t r c text).0
        ∙ ap (λ z. commit_object (w.name (tree_named (object_at t r))) (w.name (parent_named (object_at t r))) z (words 4 (id sum b (number r))) (nth b (number r)).stamp
        (weight_of (nth b (number r)).tree) (length (nth b (number r)).words) (packed_bytes (nth b (number r)).words)) w.none_is_none

    tree_is : tree_named (object_at t₁ (w.name r)) ≡ w.name (tree_named (object_at t r))
    tree_is = ap tree_named laid

    parent_is : parent_named (object_at t₁ (w.name r)) ≡ w.name (parent_named (object_at t r))
    parent_is = ap parent_named laid

    commit_moved : CommitAt sum b (new_number number w.name ls) t₁ (w.name r)
    commit_moved =
        record {
          one = w.some_is_some r l;
          noted = subst (λ n. n < length b) (sym (number_stays r l)) c.noted;
          is =
              laid
              ∙ ap₂ (λ x y. commit_object x y 0 (words 4 (id sum b (number r))) (nth b (number r)).stamp
              (weight_of (nth b (number r)).tree) (length (nth b (number r)).words) (packed_bytes (nth b (number r)).words)) (sym tree_is) (sym parent_is)
              ∙ ap (λ n. commit_object (tree_named (object_at t₁ (w.name r))) (parent_named (object_at t₁ (w.name r))) 0 (words 4 (id sum b n)) (nth b n).stamp
              (weight_of (nth b n).tree) (length (nth b n).words) (packed_bytes (nth b n).words)) (sym (number_stays r l));
          tree =
              subst (λ x. WorkAt sum t₁ x (nth b (new_number number w.name ls (w.name r))).tree) (sym tree_is)
              (subst (λ n. WorkAt sum t₁ (w.name (tree_named (object_at t r))) (nth b n).tree) (sym (number_stays r l))
              (work_moved (tree_named (object_at t r)) (nth b (number r)).tree (λ o. (commit_tree_live sum b number t (roots_of h) r c text l o).0) c.tree));
          parent =
              subst (λ x. Numbered (new_number number w.name ls) t₁ x (nth b (new_number number w.name ls (w.name r))).parents) (sym parent_is)
              (subst (λ n. Numbered (new_number number w.name ls) t₁ (w.name (parent_named (object_at t r))) (nth b n).parents) (sym (number_stays r l))
              (numbered_moved (parent_named (object_at t r)) (nth b (number r)).parents (λ o. (commit_parent_live sum b number t (roots_of h) r c text l o).0) c.parent));
        }

  thing_moved : (r : ℕ) → Live t (roots_of h) r → Thing sum b number t r → Thing sum b (new_number number w.name ls) t₁ (w.name r)
  thing_moved r l (a_file f) = a_file (file_moved r l f)
  thing_moved r l (a_tree u k) = a_tree u (tree_moved r u l k)
  thing_moved r l (a_commit c) = a_commit (commit_moved r l c)

  -- what is live now was so before
  abbrev Old : ℕ → Type 0
  Old q = (r : ℕ) × Live t (roots_of h) r × (w.name r ≡ q)

  old_among : (rs : List ℕ) (q : ℕ) → ((x : ℕ) → In x rs → (x ≡ 0) ⊎ Live t (roots_of h) x) → 1 ≤ q → has (each w.name rs) q ≡ true → Old q
  old_among rs q known one e = let x = each_in w.name rs q (has_in (each w.name rs) q e) in go x.0 x.2 (known x.0 x.1)
    where
      go : (y : ℕ) → w.name y ≡ q → (y ≡ 0) ⊎ Live t (roots_of h) y → Old q
      go y f (inl z) = absurd (omega (arith, ap w.name z, w.none_is_none))
      go y f (inr l) = (y, l, f)

  old : {q : ℕ} → Live t₁ (roots_of h₁) q → Old q
  old (root q one e) = old_among (roots_of h) q (roots_live t (roots_of h)) one (ap (λ rs. has rs q) (sym w.roots_are) ∙ e)
  old (named q q₁ one l e) =
      let o : Old q₁ = old l in
      old_among (references_of (object_at t o.0)) q (λ x i. named_lives t (roots_of h) o.0 x o.1 i) one
      (ap (λ rs. has rs q) (sym (ap (λ y. references_of (object_at t₁ y)) (sym o.2) ∙ refers o.0 o.1)) ∙ e)

  old_kind : (k q : ℕ) (o : Old q) → kind_of (object_at t₁ q) ≡ k → kind_of (object_at t o.0) ≡ k
  old_kind k q o e = sym (kind_stays o.0 o.1) ∙ ap (λ y. kind_of (object_at t₁ y)) o.2 ∙ e

  stored_swept : Stored sum b (new_number number w.name ls) t₁ (roots_of h₁)
  stored_swept =
      record {
        thing = λ q l. let o : Old q = old l in subst (Thing sum b (new_number number w.name ls) t₁) o.2 (thing_moved o.0 o.1 (s.stored.thing o.0 o.1));
        files_once = λ r q l m k j e. files r q (old l) (old m) k j e;
        commits_once = λ r q l m k j e. commits r q (old l) (old m) k j e;
      }
    where
      bytes : (q : ℕ) (o : Old q) → kind_of (object_at t₁ q) ≡ 1 → bytes_at t₁ q ≡ bytes_at t o.0
      bytes q o k = ap (bytes_at t₁) (sym o.2) ∙ bytes_stay o.0 o.1 (as_file sum b number t o.0 texts (s.stored.thing o.0 o.1) (old_kind 1 q o k))

      files : (r q : ℕ) → Old r → Old q → kind_of (object_at t₁ r) ≡ 1 → kind_of (object_at t₁ q) ≡ 1 → bytes_at t₁ r ≡ bytes_at t₁ q → r ≡ q
      files r q o p k j e =
          sym o.2 ∙ ap w.name (s.stored.files_once o.0 p.0 o.1 p.1 (old_kind 1 r o k) (old_kind 1 q p j) (sym (bytes r o k) ∙ e ∙ bytes q p j)) ∙ p.2

      counted : (q : ℕ) (o : Old q) → new_number number w.name ls q ≡ number o.0
      counted q o = ap (new_number number w.name ls) (sym o.2) ∙ number_stays o.0 o.1

      commits : (r q : ℕ) → Old r → Old q → kind_of (object_at t₁ r) ≡ 3 → kind_of (object_at t₁ q) ≡ 3 →
          new_number number w.name ls r ≡ new_number number w.name ls q → r ≡ q
      commits r q o p k j e =
          sym o.2 ∙ ap w.name (s.stored.commits_once o.0 p.0 o.1 p.1 (old_kind 3 r o k) (old_kind 3 q p j) (sym (counted r o) ∙ e ∙ counted q p)) ∙ p.2

  swept_shelf : 64 ≤ pages → Shelf sum pages b (new_number number w.name ls) h₁ t₁ tree tips
  swept_shelf low =
      record {
        whole = w.tape_length;
        others = new_others;
        heap = w.heap;
        stored = stored_swept;
        work =
            subst (λ x. WorkAt sum t₁ x tree) (sym new_work)
            (work_moved (work_root h) tree (λ o. root_live sum pages b number h t tree tips s o) s.work);
        tip =
            subst (λ x. Numbered (new_number number w.name ls) t₁ x tips) (sym new_tip)
            (numbered_moved (tip_root h) tips (λ o. tip_live sum pages b number h t tree tips s o) s.tip);
        weight = s.weight;
        ring = omega (arith, w.first_is, w.last_is, shelf_fits sum pages b number h t tree tips s grown texts ls lives low, (ring_has_room pages low).0);
      }

pub shelf_swept : (sum : Sum) (pages : ℕ) (b : Book) (number : ℕ → ℕ) (h t h₁ t₁ ls : List ℕ) (tree : Tree) (tips : List ℕ) → Shelf sum pages b number h t tree tips →
    Swept t h t₁ h₁ ls → Grown b → ((k : ℕ) → a_text (nth b k).words ≡ true) → 64 ≤ pages → Lives t (roots_of h) ls →
    (number₁ : ℕ → ℕ) × Shelf sum pages b number₁ h₁ t₁ tree tips
shelf_swept sum pages b number h t h₁ t₁ ls tree tips s w grown texts low lives =
    (new_number number w.name ls, swept_shelf sum pages b number h t h₁ t₁ ls tree tips s w grown texts lives low)

-- AT THE START there is nothing
pub shelf_new : (sum : Sum) (pages : ℕ) → 64 ≤ pages → Shelf sum pages [] (λ r. r) (zeros 32) [] [] []
unfolding zeros weight_of added_up distinct closed
shelf_new sum pages low =
    record {
      whole = refl;
      others = refl;
      heap = record { placed = λ r l. absurd (nothing r l); apart = λ r q l k lt. absurd (nothing r l) };
      stored =
          record {
            thing = λ r l. absurd (nothing r l);
            files_once = λ r q l k e f g. absurd (nothing r l);
            commits_once = λ r q l k e f g. absurd (nothing r l);
          };
      work = inl (refl, refl);
      tip = inl (refl, refl);
      weight = omega (arith, keeping_weighs [] [] [] (omega arith));
      ring = omega (arith, (ring_has_room pages low).0);
    }
  where
    none : (r : ℕ) → 1 ≤ r → has (roots_of (zeros 32)) r ≡ true → ⊥
    none r one e = ⊎_elim (λ q. absurd (omega arith)) (λ q. absurd (omega arith)) (roots_only (zeros 32) refl r one e)

    nothing : (r : ℕ) → Live [] (roots_of (zeros 32)) r → ⊥
    nothing r l = go l
      where
        go : {q : ℕ} → Live [] (roots_of (zeros 32)) q → ⊥
        go (root q one e) = none q one e
        go (named q q₁ one k e) = go k

-- WHEN THE BOOK GROWS all stays as it is
module _ (sum : Sum) (b more : Book) (number : ℕ → ℕ) (t : List ℕ) (grown : Grown b) where
  pub commit_grown : (r : ℕ) → CommitAt sum b number t r → CommitAt sum (b ++ more) number t r
  commit_grown r c =
      let same : nth (b ++ more) (number r) ≡ nth b (number r) = nth_front b more (number r) c.noted in
      record {
        one = c.one;
        noted = omega (arith, c.noted, length-append b more);
        is =
            c.is
            ∙ ap₂ (λ (i : List ℕ) (x : Commit). commit_object (tree_named (object_at t r)) (parent_named (object_at t r)) 0 (words 4 i) x.stamp
            (weight_of x.tree) (length x.words) (packed_bytes x.words)) (sym (id_more sum b more (number r) grown c.noted)) (sym same);
        tree = subst (λ (x : Commit). WorkAt sum t (tree_named (object_at t r)) x.tree) (sym same) c.tree;
        parent = subst (λ (x : Commit). Numbered number t (parent_named (object_at t r)) x.parents) (sym same) c.parent;
      }

  pub thing_grown : (r : ℕ) → Thing sum b number t r → Thing sum (b ++ more) number t r
  thing_grown r (a_file f) = a_file f
  thing_grown r (a_tree u k) = a_tree u k
  thing_grown r (a_commit c) = a_commit (commit_grown r c)

  pub stored_grown : (roots : List ℕ) → Stored sum b number t roots → Stored sum (b ++ more) number t roots
  stored_grown roots s =
      record { thing = λ r l. thing_grown r (s.thing r l); files_once = s.files_once; commits_once = s.commits_once }

pub refs_below : (n : ℕ) (tree : Tree) (tips : List ℕ) → ((k : ℕ) → In k tips → k < n) → every (λ r. ltb r.to n) (all_refs (keeping tree tips)) ≡ true
refs_below n tree [] low = refl
refs_below n tree (k ∷ ks) low =
    and_from (ltb k n) (every (λ r. ltb r.to n) (all_refs (keeping tree ks))) (lt-ltb k n (low k (inl refl))) (refs_below n tree ks (λ j i. low j (inr i)))

pub shelf_grown : (sum : Sum) (pages : ℕ) (b : Book) (number : ℕ → ℕ) (h t : List ℕ) (tree : Tree) (tips : List ℕ) → Grown b →
    Shelf sum pages b number h t tree tips → (more : Book) → Shelf sum pages (b ++ more) number h t tree tips
unfolding WeightStays
shelf_grown sum pages b number h t tree tips grown s more =
    let stays : weight (b ++ more) (keeping tree tips) ≡ weight b (keeping tree tips) =
    (weight_stays b more (keeping tree tips) grown (refs_below (length b) tree tips (tips_noted sum pages b number h t tree tips s)) refl).1 in
    record {
      whole = s.whole;
      others = s.others;
      heap = s.heap;
      stored = stored_grown sum b more number t grown (roots_of h) s.stored;
      work = s.work;
      tip = s.tip;
      weight = omega (arith, s.weight, stays);
      ring = s.ring;
    }
