-- What every turn keeps.
use Rattle.std.proofs.Common.{◌≡◌, ℕ, zero, suc, ◌+◌, ◌<◌, ◌≤◌, Bool, true, false, not, ◌&&◌, eqb, ltb, leb, ◌⊎◌, List, [], ◌∷◌, ◌++◌, length, sym, refl, ap, ◌∙◌, subst, inl, inr, ⊎_elim, arith, lit<, lit≤, length-append}
use Rattle.std.proofs.lemmas.Bool.{true≢false, false≢true, and_parts, and_from, not-true, not_from_false, ltb-true, ltb-false, lt-ltb, leb-true, le-leb, eqb-false, cases_lt}
use Rattle.pages.specs.Lists.{pick, or, every, any, each, those, same, none_of, first_or, so_many}
use Rattle.pages.specs.Bytes.{all_bytes}
use Rattle.pages.proofs.ListLaws.{pick_both, false_unless, In, in_left, in_right, every_in, every_from, every_append, every_those, every_each, any_in, any_from, each_in, in_each, those_in, each_append, Once, once_those, once_append, once_append_parts, once_each_those, length_those, or_parts, first_or_every, same_true, same_false, same_refl}
use Rattle.trees.specs.Tree.{Tree, File, put, without, joined, clashes, paths, rising_paths, found, same_tree}
use Rattle.trees.proofs.TreeLaws.{put_rising, without_rising, put_every, without_every, length_without}
use Rattle.trees.proofs.JoinLaws.{joined_rising, joined_every, once_clashes, clashes_few, clashes_in}
use Rattle.history.specs.Book.{Book, Commit, Sum, nth, no_commit, noted, under, latest_common}
use Rattle.history.specs.Laws.{Grown}
use Rattle.history.proofs.BookLaws.{nth_front, nth_beyond, nth_end, nth_in, length_more, noted_either, place_noted, place_new, noted_more}
use Rattle.commands.specs.Command.{Command, write_file, drop_file, commit, branch, go_to, history, show_file, status, read_file, join, settle, leave, move_onto, carry, forget, tag, who, sweep, fetch, fits, a_name, a_ref, a_text}
use Rattle.house.specs.House.{Plain, Clone, Ref, Turn, Way, turn, no, yes_with, clone_at, empty_clone, ref_of, set_ref, without_ref, all_refs, tip, tree_of, clean, with_work, moved, drop_path, carry_one, carry_all, ours_alone, single, reached, by_id, far, is_far}
use Rattle.house.specs.Facts.{all_differ, a_file, FineTree, FineCommit, FineBook, FineRefs, FineNames, FineWork, FineClone, Fine, StaysFine}
use Rattle.house.proofs.TurnLaws.{Grows, grows_self, grows_carry_one, grows_carry_all, carry_either, once_more, went, set_out, clone_at_either}

-- ROWS THAT DIFFER

pub differ_once : (ps : List (List ℕ)) → all_differ ps ≡ true → Once ps
unfolding all_differ
differ_once [] h = tt
differ_once (p ∷ ps) h =
    let a : (not (any (same p) ps) ≡ true) × (all_differ ps ≡ true) = and_parts _ _ h in
    (λ i. true≢false (sym (any_from (same p) ps p i (same_refl p)) ∙ not-true _ a.0), differ_once ps a.1)

pub once_differ : (ps : List (List ℕ)) → Once ps → all_differ ps ≡ true
unfolding all_differ
once_differ [] o = refl
once_differ (p ∷ ps) o =
    and_from _ _ (not_from_false (any (same p) ps) (false_unless (any (same p) ps)
    (λ h. let r : (q : List ℕ) × In q ps × (same p q ≡ true) = any_in (same p) ps h in
    o.0 (subst (λ z. In z ps) (sym (same_true p r.0 r.2)) r.1)))) (once_differ ps o.1)

-- TREES

pub fine_empty : FineTree []
unfolding rising_paths
fine_empty = record { rising = refl; few = lit≤ tt; files = refl }

pub fine_put : (p b : List ℕ) (t : Tree) → FineTree t → (a_name p && a_text b) ≡ true → length (put p b t) ≤ 4096 → FineTree (put p b t)
fine_put p b t f h l = record { rising = put_rising p b t f.rising; few = l; files = put_every a_file p b t h f.files }

pub fine_without : (p : List ℕ) (t : Tree) → FineTree t → FineTree (without p t)
fine_without p t f =
    let l : length (without p t) ≤ length t = length_without p t in
    let m : length t ≤ 4096 = f.few in
    record { rising = without_rising p t f.rising; few = omega arith; files = without_every a_file p t f.files }

pub fine_joined : (bases : List Tree) (ours theirs : Tree) → FineTree ours → FineTree theirs → length (joined bases ours theirs) ≤ 4096 → FineTree (joined bases ours theirs)
fine_joined bases ours theirs f g l =
    record { rising = joined_rising bases ours theirs f.rising; few = l; files = joined_every a_file bases ours theirs f.files g.files }

pub fine_tree_of : (b : Book) (ks : List ℕ) → FineBook b → FineTree (tree_of b ks)
unfolding tree_of
fine_tree_of b [] f = fine_empty
fine_tree_of b (k ∷ ks) f = (f.commits k).tree

-- THE BOOK

pub fine_no_commit : (k : ℕ) → FineCommit k no_commit
unfolding all_bytes
fine_no_commit k = record { lower = refl; two = lit≤ tt; tree = fine_empty; stamp = lit< tt; words = refl }

pub fine_none : FineBook []
unfolding nth
fine_none = record { commits = λ k. fine_no_commit k; once = λ j k l m e. absurd (omega arith) }

pub fine_grown : (b : Book) → FineBook b → Grown b
unfolding Grown
fine_grown b f k = (f.commits k).lower

-- a number of a commit in the book, or of the one that came last
pub last_or_before : (b : Book) (c : Commit) (k : ℕ) → k < length (b ++ (c ∷ [])) →
    ((k < length b) × (nth (b ++ (c ∷ [])) k ≡ nth b k)) ⊎ ((k ≡ length b) × (nth (b ++ (c ∷ [])) k ≡ c))
last_or_before b c k l =
    let m : length (b ++ (c ∷ [])) ≡ suc (length b) = length_more b c in
    ⊎_elim (λ h. inl (h, nth_front b (c ∷ []) k h)) (λ h. let e : k ≡ length b = omega arith in inr (e, ap (λ z. nth (b ++ (c ∷ [])) z) e ∙ nth_end b c)) (cases_lt k (length b))

pub fine_end : (b : Book) (c : Commit) → FineBook b → FineCommit (length b) c → (In c b → ⊥) → FineBook (b ++ (c ∷ []))
fine_end b c f g n =
    record { commits = λ k. at k (cases_lt k (length (b ++ (c ∷ [])))); once = λ j k lj lk e. alone j k (last_or_before b c j lj) (last_or_before b c k lk) e }
  where
    at : (k : ℕ) → (k < length (b ++ (c ∷ []))) ⊎ (length (b ++ (c ∷ [])) ≤ k) → FineCommit k (nth (b ++ (c ∷ [])) k)
    at k (inl l) =
        ⊎_elim (λ h. subst (λ z. FineCommit k z) (sym h.1) (f.commits k))
        (λ h. subst (λ z. FineCommit k z) (sym h.1) (subst (λ z. FineCommit z c) (sym h.0) g)) (last_or_before b c k l)
    at k (inr l) = subst (λ z. FineCommit k z) (sym (nth_beyond (b ++ (c ∷ [])) k l)) (fine_no_commit k)

    alone : (j k : ℕ) → ((j < length b) × (nth (b ++ (c ∷ [])) j ≡ nth b j)) ⊎ ((j ≡ length b) × (nth (b ++ (c ∷ [])) j ≡ c)) →
        ((k < length b) × (nth (b ++ (c ∷ [])) k ≡ nth b k)) ⊎ ((k ≡ length b) × (nth (b ++ (c ∷ [])) k ≡ c)) → nth (b ++ (c ∷ [])) j ≡ nth (b ++ (c ∷ [])) k → j ≡ k
    alone j k (inl p) (inl q) e = f.once j k p.0 q.0 (sym p.1 ∙ (e ∙ q.1))
    alone j k (inl p) (inr q) e = absurd (n (subst (λ z. In z b) (sym p.1 ∙ (e ∙ q.1)) (nth_in b j p.0)))
    alone j k (inr p) (inl q) e = absurd (n (subst (λ z. In z b) (sym q.1 ∙ (sym e ∙ p.1)) (nth_in b k q.0)))
    alone j k (inr p) (inr q) e = p.0 ∙ sym q.0

pub fine_noted : (b : Book) (c : Commit) → FineBook b → FineCommit (length b) c → FineBook (noted c b)
fine_noted b c f g = noted_either FineBook c b (λ _. f) (λ e. fine_end b c f g (place_new c b (omega (arith, e))))

-- NAMES

pub fine_refs_more : (n m : ℕ) (named : List ℕ → Bool) (rs : List Ref) → n ≤ m → FineRefs n named rs → FineRefs m named rs
fine_refs_more n m named rs l f =
    record {
      names = f.names;
      differ = f.differ;
      into = every_from (λ r. ltb r.to m) rs (λ r i. let h : r.to < n = ltb-true r.to n (every_in (λ r. ltb r.to n) rs f.into r i) in lt-ltb r.to m (omega arith));
    }

pub ref_of_every : (q : ℕ → Bool) (rs : List Ref) (n : List ℕ) → every (λ r. q r.to) rs ≡ true → every q (ref_of rs n) ≡ true
unfolding ref_of
ref_of_every q [] n h = refl
ref_of_every q (r ∷ rs) n h =
    let a : (q r.to ≡ true) × (every (λ r. q r.to) rs ≡ true) = and_parts _ _ h in
    pick_both (λ l. every q l ≡ true) (same r.name n) _ _ (λ _. and_from _ _ a.0 refl) (λ _. ref_of_every q rs n a.1)

pub ref_of_one : (rs : List Ref) (n : List ℕ) → length (ref_of rs n) ≤ 1
unfolding ref_of
ref_of_one [] n = omega arith
ref_of_one (r ∷ rs) n = pick_both (λ (l : List ℕ). length l ≤ 1) (same r.name n) _ _ (λ _. omega arith) (λ _. ref_of_one rs n)

pub set_ref_every : (q : Ref → Bool) (n : List ℕ) (k : ℕ) (rs : List Ref) → q (record { name = n; to = k }) ≡ true → every q rs ≡ true → every q (set_ref n k rs) ≡ true
unfolding set_ref
set_ref_every q n k [] h e = and_from _ _ h refl
set_ref_every q n k (r ∷ rs) h e =
    let a : (q r ≡ true) × (every q rs ≡ true) = and_parts _ _ e in
    pick_both (λ l. every q l ≡ true) (same r.name n) _ _ (λ _. and_from _ _ h a.1) (λ _. and_from _ _ a.0 (set_ref_every q n k rs h a.1))

abbrev pub names : List Ref → List (List ℕ)
names rs = each (λ r. r.name) rs

pub set_ref_names : (n : List ℕ) (k : ℕ) (rs : List Ref) (m : List ℕ) → In m (names (set_ref n k rs)) → (n ≡ m) ⊎ In m (names rs)
unfolding set_ref
set_ref_names n k [] m i = ⊎_elim (λ e. inl e) (λ z. absurd z) i
set_ref_names n k (r ∷ rs) m i =
    pick_both (λ l. In m (names l) → (n ≡ m) ⊎ In m (names (r ∷ rs))) (same r.name n) _ _
    (λ _. elim [ inl e ↦ inl e | inr h ↦ inr (inr h) ])
    (λ _. elim [ inl e ↦ inr (inl e) | inr h ↦ ⊎_elim (λ e. inl e) (λ g. inr (inr g)) (set_ref_names n k rs m h) ]) i

pub set_ref_once : (n : List ℕ) (k : ℕ) (rs : List Ref) → Once (names rs) → Once (names (set_ref n k rs))
unfolding set_ref
set_ref_once n k [] o = (λ i. i, tt)
set_ref_once n k (r ∷ rs) o =
    pick_both (λ l. Once (names l)) (same r.name n) _ _
    (λ e. (λ i. o.0 (subst (λ z. In z (names rs)) (sym (same_true r.name n e)) i), o.1))
    (λ d. (λ i. ⊎_elim (λ e. same_false r.name n d (sym e)) (λ h. o.0 h) (set_ref_names n k rs r.name i), set_ref_once n k rs o.1))

pub fine_set_ref : (m : ℕ) (named : List ℕ → Bool) (n : List ℕ) (k : ℕ) (rs : List Ref) → FineRefs m named rs → named n ≡ true → k < m → FineRefs m named (set_ref n k rs)
fine_set_ref m named n k rs f h l =
    record {
      names = set_ref_every (λ r. named r.name) n k rs h f.names;
      differ = once_differ (names (set_ref n k rs)) (set_ref_once n k rs (differ_once (names rs) f.differ));
      into = set_ref_every (λ r. ltb r.to m) n k rs (lt-ltb k m l) f.into;
    }

pub fine_those : (m : ℕ) (named : List ℕ → Bool) (p : Ref → Bool) (rs : List Ref) → FineRefs m named rs → FineRefs m named (those p rs)
fine_those m named p rs f =
    record {
      names = every_those (λ r. named r.name) p rs f.names;
      differ = once_differ (names (those p rs)) (once_each_those (λ r. r.name) p rs (differ_once (names rs) f.differ));
      into = every_those (λ r. ltb r.to m) p rs f.into;
    }

-- a name with the number of its house before it
pub far_named : (d : ℕ) (n : List ℕ) → d < 256 → a_name n ≡ true → a_ref (d ∷ n) ≡ true
unfolding all_bytes
far_named d n l h =
    let a : ((leb 1 (length n) && leb (length n) 64) ≡ true) × (all_bytes n ≡ true) = and_parts _ _ h in
    let e : length n ≤ 64 = leb-true (length n) 64 (and_parts (leb 1 (length n)) (leb (length n) 64) a.0).1 in
    let low : leb 1 (length (d ∷ n)) ≡ true = le-leb 1 (length (d ∷ n)) (omega arith) in
    let high : leb (length (d ∷ n)) 65 ≡ true = le-leb (length (d ∷ n)) 65 (omega arith) in
    and_from _ _ (and_from _ _ low high) (and_from _ _ (lt-ltb d 256 l) a.1)

pub fine_fetched : (m d : ℕ) (old new : List Ref) → d < 256 → FineRefs m a_ref old → FineRefs m a_name new →
    FineRefs m a_ref (those (λ r. not (is_far d r)) old ++ each (far d) new)
fine_fetched m d old new l f g =
    let kept : FineRefs m a_ref (those (λ r. not (is_far d r)) old) = fine_those m a_ref (λ r. not (is_far d r)) old f in
    record {
      names = every_append (λ r. a_ref r.name) (those (λ r. not (is_far d r)) old) (each (far d) new) kept.names
          (every_each (λ r. a_ref r.name) (far d) new (every_from (λ r. a_ref (d ∷ r.name)) new (λ r i. far_named d r.name l (every_in (λ r. a_name r.name) new g.names r i))));
      differ = once_differ _ (subst Once (sym (each_append (λ r. r.name) (those (λ r. not (is_far d r)) old) (each (far d) new)))
          (once_append (names (those (λ r. not (is_far d r)) old)) (names (each (far d) new)) (differ_once _ kept.differ) (far_once new (differ_once (names new) g.differ))
          (λ n i k. not_both n i k)));
      into = every_append (λ r. ltb r.to m) (those (λ r. not (is_far d r)) old) (each (far d) new) kept.into (every_each (λ r. ltb r.to m) (far d) new g.into);
    }
  where
    far_names : (rs : List Ref) (n : List ℕ) → In (d ∷ n) (names (each (far d) rs)) → In n (names rs)
    far_names [] n i = i
    far_names (r ∷ rs) n (inl e) = inl (cc)
    far_names (r ∷ rs) n (inr i) = inr (far_names rs n i)

    far_once : (rs : List Ref) → Once (names rs) → Once (names (each (far d) rs))
    far_once [] o = tt
    far_once (r ∷ rs) o = (λ i. o.0 (far_names rs r.name i), far_once rs o.1)

    far_first : (rs : List Ref) (n : List ℕ) → In n (names (each (far d) rs)) → first_or 999 n ≡ d
    far_first [] n i = absurd i
    far_first (r ∷ rs) n (inl e) = ap (λ z. first_or 999 z) (sym e)
    far_first (r ∷ rs) n (inr i) = far_first rs n i

    not_both : (n : List ℕ) → In n (names (those (λ r. not (is_far d r)) old)) → In n (names (each (far d) new)) → ⊥
    not_both n i k =
        let r : (r : Ref) × In r (those (λ r. not (is_far d r)) old) × (r.name ≡ n) = each_in (λ r. r.name) (those (λ r. not (is_far d r)) old) n i in
        let h : eqb (first_or 999 r.0.name) d ≡ false = not-true _ (those_in (λ r. not (is_far d r)) old r.0 r.1).1 in
        eqb-false (first_or 999 r.0.name) d h (ap (λ z. first_or 999 z) r.2 ∙ far_first new n k)

-- a name that leads nowhere is none of the names
pub ref_of_none : (rs : List Ref) (n : List ℕ) → none_of (ref_of rs n) ≡ true → In n (names rs) → ⊥
unfolding ref_of
ref_of_none [] n h i = i
ref_of_none (r ∷ rs) n h i =
    pick_both (λ l. none_of l ≡ true → ⊥) (same r.name n) (r.to ∷ []) (ref_of rs n) (λ _ e. false≢true e)
    (λ d e. ⊎_elim (λ c. same_false r.name n d c) (λ k. ref_of_none rs n e k) i) h

pub none_ref_of : (rs : List Ref) (n : List ℕ) → (In n (names rs) → ⊥) → none_of (ref_of rs n) ≡ true
unfolding ref_of
none_ref_of [] n h = refl
none_ref_of (r ∷ rs) n h =
    pick_both (λ l. none_of l ≡ true) (same r.name n) (r.to ∷ []) (ref_of rs n) (λ e. absurd (h (inl (same_true r.name n e)))) (λ _. none_ref_of rs n (λ i. h (inr i)))

pub ref_of_there : (rs : List Ref) (n : List ℕ) → none_of (ref_of rs n) ≡ false → In n (names rs)
unfolding ref_of
ref_of_there [] n h = absurd (true≢false h)
ref_of_there (r ∷ rs) n h =
    pick_both (λ l. none_of l ≡ false → In n (names (r ∷ rs))) (same r.name n) (r.to ∷ []) (ref_of rs n) (λ e _. inl (same_true r.name n e))
    (λ _ e. inr (ref_of_there rs n e)) h

-- HOUSES

-- no name stands in both lists
abbrev pub NamesApart : List Ref → List Ref → Type 0
NamesApart rs ss = (m : List ℕ) → In m (names rs) → In m (names ss) → ⊥

pub apart_parts : (rs ss : List Ref) → all_differ (names (rs ++ ss)) ≡ true → NamesApart rs ss
apart_parts rs ss h =
    (once_append_parts (names rs) (names ss) (subst Once (each_append (λ r. r.name) rs ss) (differ_once (names (rs ++ ss)) h))).2

pub apart_from : (n : ℕ) (rs ss : List Ref) → FineRefs n a_name rs → FineRefs n a_name ss → NamesApart rs ss → all_differ (names (rs ++ ss)) ≡ true
apart_from n rs ss f g h =
    once_differ (names (rs ++ ss)) (subst Once (sym (each_append (λ r. r.name) rs ss))
    (once_append (names rs) (names ss) (differ_once (names rs) f.differ) (differ_once (names ss) g.differ) h))

-- a name that is in neither list
pub in_neither : (rs ss : List Ref) (n : List ℕ) → none_of (ref_of (rs ++ ss) n) ≡ true → (In n (names rs) → ⊥) × (In n (names ss) → ⊥)
in_neither rs ss n h =
    let out : In n (names rs ++ names ss) → ⊥ = λ i. ref_of_none (rs ++ ss) n h (subst (λ l. In n l) (sym (each_append (λ r. r.name) rs ss)) i) in
    (λ i. out (in_left n (names rs) (names ss) i), λ i. out (in_right n (names rs) (names ss) i))

pub fine_names_more : (n m : ℕ) (bs ts os : List Ref) (here : List ℕ) → n ≤ m → FineNames n bs ts os here → FineNames m bs ts os here
fine_names_more n m bs ts os here l f =
    record {
      branch_names = fine_refs_more n m a_name bs l f.branch_names;
      tag_names = fine_refs_more n m a_name ts l f.tag_names;
      other_names = fine_refs_more n m a_ref os l f.other_names;
      apart = f.apart;
      named = f.named;
      untagged = f.untagged;
    }

pub fine_work_more : (n m : ℕ) (t : Tree) (js : List ℕ) (ps : List (List ℕ)) → n ≤ m → FineWork n t js ps → FineWork m t js ps
fine_work_more n m t js ps l f =
    record {
      tree = f.tree;
      into = every_from (λ j. ltb j m) js (λ j i. let h : j < n = ltb-true j n (every_in (λ j. ltb j n) js f.into j i) in lt-ltb j m (omega arith));
      one = f.one;
      clashing = f.clashing;
      differ = f.differ;
      few = f.few;
    }

pub fine_clone_more : (n m : ℕ) (x : Clone) → n ≤ m → FineClone n x → FineClone m x
fine_clone_more n m x l f =
    record { names = fine_names_more n m x.branches x.tags x.others x.here l f.names; state = fine_work_more n m x.work x.joining x.unsettled l f.state }

pub fine_no_refs : (n : ℕ) (named : List ℕ → Bool) → FineRefs n named []
unfolding all_differ
fine_no_refs n named = record { names = refl; differ = refl; into = refl }

-- a tree in work, nothing being joined
pub fine_at_rest : (n : ℕ) (t : Tree) → FineTree t → FineWork n t [] []
unfolding all_differ
fine_at_rest n t f = record { tree = f; into = refl; one = lit≤ tt; clashing = refl; differ = refl; few = lit≤ tt }

pub fine_empty_clone : (n : ℕ) → FineClone n empty_clone
unfolding all_bytes all_differ ref_of
fine_empty_clone n =
    record {
      names = record { branch_names = fine_no_refs n a_name; tag_names = fine_no_refs n a_name; other_names = fine_no_refs n a_ref; apart = refl; named = refl; untagged = refl };
      state = fine_at_rest n [] fine_empty;
    }

pub all_empty : (n c : ℕ) → clone_at (so_many n empty_clone) c ≡ empty_clone
unfolding clone_at so_many
all_empty zero c = refl
all_empty (suc n) zero = refl
all_empty (suc n) (suc c) = all_empty n c

pub fine_start : (houses : ℕ) → Fine (record { book = []; clones = so_many houses empty_clone })
fine_start houses = record { book = fine_none; clones = λ c. subst (λ x. FineClone 0 x) (sym (all_empty houses c)) (fine_empty_clone 0) }

-- with a path less to settle
pub fine_settled : (n : ℕ) (x : Clone) (t : Tree) (p : List ℕ) → FineClone n x → FineTree t → FineClone n (with_work x t x.joining (drop_path p x.unsettled))
fine_settled n x t p f g =
    let l : length (drop_path p x.unsettled) ≤ length x.unsettled = length_those (λ q. not (same q p)) x.unsettled in
    let m : length x.unsettled ≤ 8192 = f.state.few in
    record {
      names = f.names;
      state = record {
        tree = g;
        into = f.state.into;
        one = f.state.one;
        clashing = every_those a_name (λ q. not (same q p)) x.unsettled f.state.clashing;
        differ = once_differ (drop_path p x.unsettled) (once_those (λ q. not (same q p)) x.unsettled (differ_once x.unsettled f.state.differ));
        few = omega arith;
      };
    }

-- a branch set to a commit, under a name that no tag has
pub fine_branched : (n : ℕ) (bs ts os : List Ref) (here m : List ℕ) (k : ℕ) → FineNames n bs ts os here → a_name m ≡ true → k < n → (In m (names ts) → ⊥) →
    FineNames n (set_ref m k bs) ts os here
fine_branched n bs ts os here m k f h l o =
    let set : FineRefs n a_name (set_ref m k bs) = fine_set_ref n a_name m k bs f.branch_names h l in
    record {
      branch_names = set;
      tag_names = f.tag_names;
      other_names = f.other_names;
      apart = apart_from n (set_ref m k bs) ts set f.tag_names
          (λ z i j. ⊎_elim (λ e. o (subst (λ w. In w (names ts)) (sym e) j)) (λ i₁. apart_parts bs ts f.apart z i₁ j) (set_ref_names m k bs z i));
      named = f.named;
      untagged = f.untagged;
    }

-- a tag set to a commit, under a name that no branch has
pub fine_tagged : (n : ℕ) (bs ts os : List Ref) (here m : List ℕ) (k : ℕ) → FineNames n bs ts os here → a_name m ≡ true → k < n → (In m (names bs) → ⊥) → (m ≡ here → ⊥) →
    FineNames n bs (set_ref m k ts) os here
fine_tagged n bs ts os here m k f h l o d =
    let set : FineRefs n a_name (set_ref m k ts) = fine_set_ref n a_name m k ts f.tag_names h l in
    record {
      branch_names = f.branch_names;
      tag_names = set;
      other_names = f.other_names;
      apart = apart_from n bs (set_ref m k ts) f.branch_names set
          (λ z i j. ⊎_elim (λ e. o (subst (λ w. In w (names bs)) (sym e) i)) (λ j₁. apart_parts bs ts f.apart z i j₁) (set_ref_names m k ts z j));
      named = f.named;
      untagged = none_ref_of (set_ref m k ts) here (λ i. ⊎_elim (λ e. d e) (λ j. ref_of_none ts here f.untagged j) (set_ref_names m k ts here i));
    }

-- a branch forgotten
pub fine_forgotten : (n : ℕ) (bs ts os : List Ref) (here m : List ℕ) → FineNames n bs ts os here → FineNames n (without_ref m bs) ts os here
unfolding without_ref
fine_forgotten n bs ts os here m f =
    let less : FineRefs n a_name (those (λ r. not (same r.name m)) bs) = fine_those n a_name (λ r. not (same r.name m)) bs f.branch_names in
    record {
      branch_names = less;
      tag_names = f.tag_names;
      other_names = f.other_names;
      apart = apart_from n (those (λ r. not (same r.name m)) bs) ts less f.tag_names
          (λ z i j. let r : (r : Ref) × In r (those (λ r. not (same r.name m)) bs) × (r.name ≡ z) = each_in (λ r. r.name) (those (λ r. not (same r.name m)) bs) z i in
          apart_parts bs ts f.apart z (subst (λ w. In w (names bs)) r.2 (in_each (λ r. r.name) bs r.0 (those_in (λ r. not (same r.name m)) bs r.0 r.1).0)) j);
      named = f.named;
      untagged = f.untagged;
    }

-- on another branch
pub fine_on : (n : ℕ) (bs ts os : List Ref) (here m : List ℕ) → FineNames n bs ts os here → a_name m ≡ true → In m (names bs) → FineNames n bs ts os m
fine_on n bs ts os here m f h i =
    record {
      branch_names = f.branch_names;
      tag_names = f.tag_names;
      other_names = f.other_names;
      apart = f.apart;
      named = h;
      untagged = none_ref_of ts m (λ j. apart_parts bs ts f.apart m i j);
    }

pub fine_moved : (b : Book) (x : Clone) (k : ℕ) → FineBook b → FineClone (length b) x → k < length b → FineClone (length b) (moved b x k)
fine_moved b x k g f l =
    record {
      names = fine_branched (length b) x.branches x.tags x.others x.here x.here k f.names f.names.named l (ref_of_none x.tags x.here f.names.untagged);
      state = fine_at_rest (length b) (nth b k).tree (g.commits k).tree;
    }

-- where names lead is in the book
pub refs_into : (n : ℕ) (x : Clone) → FineClone n x → every (λ r. ltb r.to n) (all_refs x) ≡ true
refs_into n x f =
    every_append (λ r. ltb r.to n) (x.branches ++ x.tags) x.others
    (every_append (λ r. ltb r.to n) x.branches x.tags f.names.branch_names.into f.names.tag_names.into) f.names.other_names.into

pub named_into : (n : ℕ) (x : Clone) (m : List ℕ) → FineClone n x → none_of (ref_of (all_refs x) m) ≡ false → first_or 0 (ref_of (all_refs x) m) < n
named_into n x m f e = ltb-true _ n (first_or_every (λ j. ltb j n) 0 (ref_of (all_refs x) m) e (ref_of_every (λ j. ltb j n) (all_refs x) m (refs_into n x f)))

pub tip_all : (n : ℕ) (x : Clone) → FineClone n x → every (λ j. ltb j n) (tip x) ≡ true
tip_all n x f = ref_of_every (λ j. ltb j n) x.branches x.here f.names.branch_names.into

pub tip_into : (n : ℕ) (x : Clone) → FineClone n x → none_of (tip x) ≡ false → first_or 0 (tip x) < n
tip_into n x f e = ltb-true _ n (first_or_every (λ j. ltb j n) 0 (tip x) e (tip_all n x f))

-- COMMITS CARRIED

pub record FineWay (v : Way) : Type 0 where
  pub book : FineBook v.book
  pub at : v.at < length v.book

pub fine_carry_one : (v : Way) (k : ℕ) → FineWay v → FineWay (carry_one v k)
fine_carry_one v k f =
    carry_either FineWay v k (λ _. record { book = f.book; at = f.at }) (λ _ _. f)
    (λ g _. record {
      book = fine_noted v.book (once_more v k) f.book (record {
        lower = and_from _ _ (lt-ltb v.at (length v.book) f.at) refl;
        two = lit≤ tt;
        tree = fine_joined _ _ _ (f.book.commits v.at).tree (f.book.commits k).tree (leb-true _ 4096 (and_parts _ _ g).1);
        stamp = (f.book.commits k).stamp;
        words = (f.book.commits k).words;
      });
      at = place_noted (once_more v k) v.book;
    })

pub fine_carry_all : (v : Way) (ks : List ℕ) → FineWay v → FineWay (carry_all v ks)
unfolding carry_all
fine_carry_all v [] f = f
fine_carry_all v (k ∷ ks) f = fine_carry_all (carry_one v k) ks (fine_carry_one v k f)

-- TURNS

pub record FineTurn (t : Turn) : Type 0 where
  pub next : Fine t.next

pub fine_pick : (s : Bool) (t u : Turn) → (s ≡ true → FineTurn t) → (s ≡ false → FineTurn u) → FineTurn (pick s t u)
fine_pick true t u f g = f refl
fine_pick false t u f g = g refl

pub fine_no : (n : ℕ) (w : Plain) → Fine w → FineTurn (no n w)
fine_no n w f = record { next = f }

pub grows_length : (b d : Book) → Grows b d → length b ≤ length d
grows_length b d g =
    let e : length d ≡ length (b ++ g.0) = ap length g.1 in
    let h : length (b ++ g.0) ≡ length b + length g.0 = length-append b g.0 in
    omega arith

pub fine_yes : (ss : List (List ℕ)) (b : Book) (w : Plain) (c : ℕ) (y : Clone) → Fine w → Grows w.book b → FineBook b → FineClone (length b) y → FineTurn (yes_with ss b w c y)
fine_yes ss b w c y f g h k =
    record {
      next = record {
        book = h;
        clones = λ d. clone_at_either (FineClone (length b)) w.clones c d y
            (fine_clone_more (length w.book) (length b) (clone_at w.clones d) (grows_length w.book b g) (f.clones d)) k;
      };
    }

pub fine_here : (ss : List (List ℕ)) (w : Plain) (c : ℕ) (y : Clone) → Fine w → FineClone (length w.book) y → FineTurn (yes_with ss w.book w c y)
fine_here ss w c y f k = fine_yes ss w.book w c y f (grows_self w.book) f.book k

-- our branch at the end of a way
pub fine_went : (ss : List (List ℕ)) (w : Plain) (c : ℕ) (x : Clone) (v : Way) → Fine w → FineClone (length w.book) x → Grows w.book v.book → FineWay v →
    FineTurn (yes_with ss v.book w c (moved v.book x v.at))
fine_went ss w c x v f fx g h =
    fine_yes ss v.book w c (moved v.book x v.at) f g h.book
    (fine_moved v.book x v.at h.book (fine_clone_more (length w.book) (length v.book) x (grows_length w.book v.book g) fx) h.at)

-- the commit that is made of what is in work
abbrev pub new_commit : Clone → ℕ → List ℕ → Commit
new_commit x s ws = record { parents = tip x ++ x.joining; tree = x.work; stamp = s; words = ws }

pub fine_new : (n : ℕ) (x : Clone) (s : ℕ) (ws : List ℕ) → FineClone n x → (ltb s 18446744073709551616 && a_text ws) ≡ true → FineCommit n (new_commit x s ws)
fine_new n x s ws f h =
    let l : length (tip x ++ x.joining) ≡ length (tip x) + length x.joining = length-append (tip x) x.joining in
    let a : length (tip x) ≤ 1 = ref_of_one x.branches x.here in
    let b : length x.joining ≤ 1 = f.state.one in
    record {
      lower = every_append (λ j. ltb j n) (tip x) x.joining (tip_all n x f) f.state.into;
      two = omega arith;
      tree = f.state.tree;
      stamp = ltb-true s _ (and_parts _ _ h).0;
      words = (and_parts (ltb s 18446744073709551616) _ h).1;
    }

-- what two trees come to when they're joined, with what clashes
pub path_named : (t : Tree) (p : List ℕ) → FineTree t → In p (paths t) → a_name p ≡ true
path_named t p f i =
    let r : (g : File) × In g t × (g.path ≡ p) = each_in (λ g. g.path) t p i in
    subst (λ q. a_name q ≡ true) r.2 (and_parts (a_name r.0.path) (a_text r.0.bytes) (every_in a_file t f.files r.0 r.1)).0

pub fine_joining : (n : ℕ) (x : Clone) (bases : List Tree) (ours theirs : Tree) (j : ℕ) → FineClone n x → FineTree ours → FineTree theirs → j < n →
    length (joined bases ours theirs) ≤ 4096 → FineClone n (with_work x (joined bases ours theirs) (j ∷ []) (clashes bases ours theirs))
fine_joining n x bases ours theirs j f g h l m =
    let few : length (clashes bases ours theirs) ≤ length ours + length theirs = clashes_few bases ours theirs in
    let a : length ours ≤ 4096 = g.few in
    let b : length theirs ≤ 4096 = h.few in
    record {
      names = f.names;
      state = record {
        tree = fine_joined bases ours theirs g h m;
        into = and_from _ _ (lt-ltb j n l) refl;
        one = lit≤ tt;
        clashing = every_from a_name (clashes bases ours theirs) (λ p i. ⊎_elim (λ k. path_named ours p g k) (λ k. path_named theirs p h k) (clashes_in bases ours theirs p i).0);
        differ = once_differ (clashes bases ours theirs) (once_clashes bases ours theirs g.rising);
        few = omega arith;
      };
    }

-- the trees from which two commits came
abbrev pub came_from : Book → ℕ → ℕ → List Tree
came_from b j k = pick (none_of (latest_common b j k)) ([] ∷ []) (each (λ i. (nth b i).tree) (latest_common b j k))

pub fine_turn : (sum : Sum) (w : Plain) (c : ℕ) (x : Clone) (a : Command) → fits a ≡ true → Fine w → FineClone (length w.book) x → FineTurn (turn sum w c x a)
unfolding turn fits
fine_turn sum w c x (write_file p b) h f fx =
    fine_pick (ltb 4096 (length (put p b x.work))) _ _ (λ _. fine_no 10 w f)
    (λ l. fine_here [] w c _ f (fine_settled (length w.book) x (put p b x.work) p fx (fine_put p b x.work fx.state.tree h (ltb-false 4096 _ l))))
fine_turn sum w c x (drop_file p) h f fx =
    fine_pick (none_of (found x.work p)) _ _ (λ _. fine_no 3 w f)
    (λ _. fine_here [] w c _ f (fine_settled (length w.book) x (without p x.work) p fx (fine_without p x.work fx.state.tree)))
fine_turn sum w c x (commit s ws) h f fx =
    fine_pick (none_of x.unsettled) _ _
    (λ _. fine_pick (same_tree x.work (tree_of w.book (tip x)) && none_of x.joining) _ _ (λ _. fine_no 7 w f)
    (λ _. fine_went _ w c x (went (set_out w.book 0) (new_commit x s ws)) f fx (noted_more (new_commit x s ws) w.book)
    (record { book = fine_noted w.book (new_commit x s ws) f.book (fine_new (length w.book) x s ws fx h); at = place_noted (new_commit x s ws) w.book })))
    (λ _. fine_no 6 w f)
fine_turn sum w c x (branch n) h f fx =
    fine_pick (none_of (ref_of (x.branches ++ x.tags) n) && not (same n x.here)) _ _
    (λ t. fine_pick (none_of (tip x)) _ _ (λ _. fine_no 3 w f)
    (λ e. fine_here [] w c _ f
    (record {
      names = fine_branched (length w.book) x.branches x.tags x.others x.here n (first_or 0 (tip x)) fx.names h (tip_into (length w.book) x fx e)
          (in_neither x.branches x.tags n (and_parts _ _ t).0).1;
      state = fx.state;
    })))
    (λ _. fine_no 4 w f)
fine_turn sum w c x (go_to n) h f fx =
    fine_pick (none_of (ref_of x.branches n)) _ _ (λ _. fine_no 3 w f)
    (λ e. fine_pick (clean w.book x) _ _
    (λ _. fine_here [] w c _ f
    (record {
      names = fine_on (length w.book) x.branches x.tags x.others x.here n fx.names h (ref_of_there x.branches n e);
      state = fine_at_rest (length w.book) (tree_of w.book (ref_of x.branches n)) (fine_tree_of w.book (ref_of x.branches n) f.book);
    }))
    (λ _. fine_no 5 w f))
fine_turn sum w c x history h f fx = fine_here _ w c x f fx
fine_turn sum w c x (show_file n p) h f fx =
    fine_pick (none_of (found (tree_of w.book (ref_of (all_refs x) n)) p)) _ _ (λ _. fine_no 3 w f) (λ _. fine_here _ w c x f fx)
fine_turn sum w c x status h f fx = fine_here _ w c x f fx
fine_turn sum w c x (read_file p) h f fx = fine_pick (none_of (found x.work p)) _ _ (λ _. fine_no 3 w f) (λ _. fine_here _ w c x f fx)
fine_turn sum w c x (join n) h f fx =
    fine_pick (or (none_of (ref_of (all_refs x) n)) (none_of (tip x))) _ _ (λ _. fine_no 3 w f)
    (λ e. let j : ℕ = first_or 0 (ref_of (all_refs x) n) in
    let k : ℕ = first_or 0 (tip x) in
    let lj : j < length w.book = named_into (length w.book) x n fx (or_parts _ _ e).0 in
    fine_pick (clean w.book x) _ _
    (λ _. fine_pick (under w.book j k) _ _ (λ _. fine_no 7 w f)
    (λ _. fine_pick (under w.book k j) _ _ (λ _. fine_here _ w c _ f (fine_moved w.book x j f.book fx lj))
    (λ _. fine_pick (ltb 4096 (length (joined (came_from w.book j k) (nth w.book k).tree (nth w.book j).tree))) _ _ (λ _. fine_no 10 w f)
    (λ l. fine_here _ w c _ f (fine_joining (length w.book) x (came_from w.book j k) (nth w.book k).tree (nth w.book j).tree j fx (f.book.commits k).tree (f.book.commits j).tree lj
    (ltb-false 4096 _ l))))))
    (λ _. fine_no 5 w f))
fine_turn sum w c x (settle p) h f fx =
    fine_pick (any (λ q. same q p) x.unsettled) _ _ (λ _. fine_here [] w c _ f (fine_settled (length w.book) x x.work p fx fx.state.tree)) (λ _. fine_no 6 w f)
fine_turn sum w c x leave h f fx =
    fine_here [] w c _ f (record { names = fx.names; state = fine_at_rest (length w.book) (tree_of w.book (tip x)) (fine_tree_of w.book (tip x) f.book) })
fine_turn sum w c x (move_onto n) h f fx =
    fine_pick (or (none_of (ref_of (all_refs x) n)) (none_of (tip x))) _ _ (λ _. fine_no 3 w f)
    (λ e. let j : ℕ = first_or 0 (ref_of (all_refs x) n) in
    let k : ℕ = first_or 0 (tip x) in
    let mine : List ℕ = ours_alone (length w.book) w.book j (k ∷ []) in
    let lj : j < length w.book = named_into (length w.book) x n fx (or_parts _ _ e).0 in
    fine_pick (clean w.book x) _ _
    (λ _. fine_pick (under w.book j k) _ _ (λ _. fine_no 7 w f)
    (λ _. fine_pick (under w.book k j) _ _ (λ _. fine_here _ w c _ f (fine_moved w.book x j f.book fx lj))
    (λ _. fine_pick (single w.book mine && (carry_all (set_out w.book j) mine).well) _ _
    (λ _. fine_went _ w c x (carry_all (set_out w.book j) mine) f fx (grows_carry_all (set_out w.book j) mine)
    (fine_carry_all (set_out w.book j) mine (record { book = f.book; at = lj })))
    (λ _. fine_no 6 w f))))
    (λ _. fine_no 5 w f))
fine_turn sum w c x (carry i) h f fx =
    fine_pick (or (none_of (by_id sum w.book i (reached w.book x))) (none_of (tip x))) _ _ (λ _. fine_no 3 w f)
    (λ e. let j : ℕ = first_or 0 (by_id sum w.book i (reached w.book x)) in
    let k : ℕ = first_or 0 (tip x) in
    let lk : k < length w.book = tip_into (length w.book) x fx (or_parts _ _ e).1 in
    fine_pick (clean w.book x) _ _
    (λ _. fine_pick (single w.book (j ∷ []) && (carry_one (set_out w.book k) j).well) _ _
    (λ _. fine_pick (none_of (carry_one (set_out w.book k) j).made) _ _ (λ _. fine_no 7 w f)
    (λ _. fine_went _ w c x (carry_one (set_out w.book k) j) f fx (grows_carry_one (set_out w.book k) j)
    (fine_carry_one (set_out w.book k) j (record { book = f.book; at = lk }))))
    (λ _. fine_no 6 w f))
    (λ _. fine_no 5 w f))
fine_turn sum w c x (forget n) h f fx =
    fine_pick (none_of (ref_of x.branches n)) _ _ (λ _. fine_no 3 w f)
    (λ _. fine_pick (same n x.here) _ _ (λ _. fine_no 6 w f)
    (λ _. fine_here [] w c _ f (record { names = fine_forgotten (length w.book) x.branches x.tags x.others x.here n fx.names; state = fx.state })))
fine_turn sum w c x (tag n) h f fx =
    fine_pick (none_of (ref_of (x.branches ++ x.tags) n) && not (same n x.here)) _ _
    (λ t. fine_pick (none_of (tip x)) _ _ (λ _. fine_no 3 w f)
    (λ e. fine_here [] w c _ f
    (record {
      names = fine_tagged (length w.book) x.branches x.tags x.others x.here n (first_or 0 (tip x)) fx.names h (tip_into (length w.book) x fx e)
          (in_neither x.branches x.tags n (and_parts _ _ t).0).0 (same_false n x.here (not-true _ (and_parts _ _ t).1));
      state = fx.state;
    })))
    (λ _. fine_no 4 w f)
fine_turn sum w c x (who p) h f fx = fine_pick (none_of (found (tree_of w.book (tip x)) p)) _ _ (λ _. fine_no 3 w f) (λ _. fine_here _ w c x f fx)
fine_turn sum w c x sweep h f fx = fine_here _ w c x f fx
fine_turn sum w c x (fetch d) h f fx =
    fine_pick (ltb d (length w.clones) && not (eqb d c)) _ _
    (λ _. fine_here [] w c _ f (record {
      names = record {
        branch_names = fx.names.branch_names;
        tag_names = fx.names.tag_names;
        other_names = fine_fetched (length w.book) d x.others (clone_at w.clones d).branches (let l : d < 16 = ltb-true d 16 h in omega arith) fx.names.other_names (f.clones d).names.branch_names;
        apart = fx.names.apart;
        named = fx.names.named;
        untagged = fx.names.untagged;
      };
      state = fx.state;
    }))
    (λ _. fine_no 3 w f)

pub stays_fine : StaysFine
unfolding StaysFine
stays_fine = (fine_start, λ sum w c a h f. (fine_turn sum w c (clone_at w.clones c) a h f (f.clones c)).next)
