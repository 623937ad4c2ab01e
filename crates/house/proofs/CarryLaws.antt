-- Commits of a chain carried onto one that changed other paths.
use Rattle.std.proofs.Common.{◌≡◌, ℕ, ◌<◌, ◌≤◌, Bool, true, false, not, ◌&&◌, ltb, leb, List, [], ◌∷◌, length, sym, refl, ap, ◌∙◌, subst, ⊎_elim, arith}
use Rattle.std.proofs.lemmas.Bool.{true≢false, and_parts, and_from, not_from_true, ltb-true, leb-true, le-leb}
use Rattle.pages.specs.Lists.{pick, every, same, none_of}
use Rattle.pages.proofs.ListLaws.{pick_both, pick_true, pick_false, or_cases, In, those_none, same_true}
use Rattle.trees.specs.Tree.{Tree, found, alike, changed, clash, joined, joined_at, clashes, both, paths, rising_paths}
use Rattle.trees.proofs.TreeLaws.{alike_true, alike_from, alike_sym, found_one, found_in, in_found, in_both_left, in_both_right, both_rising, length_within, same_tree_true}
use Rattle.trees.proofs.JoinLaws.{joined_found, joined_rising, one_side_at, clash_sym}
use Rattle.history.specs.Book.{Book, Commit, nth, noted}
use Rattle.history.proofs.BookLaws.{nth_front, nth_noted, noted_more}
use Rattle.house.specs.House.{Way, tree_of, carry_one, carry_all, parent_tree, carried_tree}
use Rattle.house.specs.Laws.{chain, last_or, CarriedJoined}
use Rattle.house.proofs.TurnLaws.{Grows, grows_self, grows_trans, carry_either, once_more, goes, set_out}

-- unchanged from the one tree both came from
pub unchanged_from : (base : Tree) (here : List (List ℕ)) (p : List ℕ) → found base p ≡ here → changed (base ∷ []) here p ≡ false
unfolding changed
unchanged_from base here p e = not_from_true _ (and_from _ _ (alike_from (found base p) here e) refl)

pub changed_from : (base : Tree) (here : List (List ℕ)) (p : List ℕ) → alike (found base p) here ≡ false → changed (base ∷ []) here p ≡ true
unfolding changed
changed_from base here p n = ap not (ap (λ t. t && true) n)

-- what theirs did not change is as ours has it
pub other_side_at : (base ours theirs : Tree) (p : List ℕ) → found base p ≡ found theirs p →
    (clash (base ∷ []) ours theirs p ≡ false) × (joined_at (base ∷ []) ours theirs p ≡ found ours p)
unfolding joined_at
other_side_at base ours theirs p e = (
  clash_sym (base ∷ []) ours theirs p ∙ (one_side_at (base ∷ []) theirs ours p (unchanged_from base (found theirs p) p e)).0,
  pick_both (λ v. v ≡ found ours p) (alike (found ours p) (found theirs p)) _ _ (λ _. refl)
      (λ n. pick_true (changed (base ∷ []) (found ours p) p) _ _ (changed_from base (found ours p) p (ap (λ z. alike z (found ours p)) e ∙ (alike_sym (found theirs p) (found ours p) ∙ n)))),
)

-- nothing clashes if no path does
pub no_clashes : (bases : List Tree) (ours theirs : Tree) → ((p : List ℕ) → clash bases ours theirs p ≡ false) → none_of (clashes bases ours theirs) ≡ true
no_clashes bases ours theirs f = ap none_of (those_none (clash bases ours theirs) (paths (both ours theirs)) (λ p _. f p))

module _ (b : Book) (i j : ℕ) where
  -- the files of a commit of the book
  abbrev at : ℕ → List ℕ → List (List ℕ)
  at k p = found (nth b k).tree p

  -- what is to be at a path once the chain is carried up to h: as the chain has it where j changed nothing, as j has it elsewhere
  abbrev want : ℕ → List ℕ → List (List ℕ)
  want h p = pick (alike (at j p) (at i p)) (at h p) (at j p)

  -- where j changed something h did not
  abbrev Aside : ℕ → Type 0
  Aside h = (p : List ℕ) → alike (at j p) (at i p) ≡ false → at h p ≡ at i p

  record Carried (h : ℕ) (v : Way) : Type 0 where
    well : v.well ≡ true
    grows : Grows b v.book
    base : (nth v.book h).tree ≡ (nth b h).tree
    rising : rising_paths (nth v.book v.at).tree ≡ true
    held : (p : List ℕ) → found (nth v.book v.at).tree p ≡ want h p

  still : (d : Book) (k : ℕ) → Grows b d → k < length b → nth d k ≡ nth b k
  still d k g l = ap (λ z. nth z k) g.1 ∙ nth_front b g.0 k l

  -- a turn: from h to k, of which h is the parent, onto t
  step_at : (h k : ℕ) (t : Tree) → Aside h → Aside k → ((p : List ℕ) → found t p ≡ want h p) → (p : List ℕ) →
      (clash ((nth b h).tree ∷ []) t (nth b k).tree p ≡ false) × (joined_at ((nth b h).tree ∷ []) t (nth b k).tree p ≡ want k p)
  step_at h k t ah ak e p = go (alike (at j p) (at i p)) refl
    where
      go : (s : Bool) → alike (at j p) (at i p) ≡ s →
          (clash ((nth b h).tree ∷ []) t (nth b k).tree p ≡ false) × (joined_at ((nth b h).tree ∷ []) t (nth b k).tree p ≡ want k p)
      go true s =
          let r : (clash ((nth b h).tree ∷ []) t (nth b k).tree p ≡ false) × (joined_at ((nth b h).tree ∷ []) t (nth b k).tree p ≡ at k p) =
          one_side_at ((nth b h).tree ∷ []) t (nth b k).tree p
          (unchanged_from (nth b h).tree (found t p) p (sym (e p ∙ pick_true (alike (at j p) (at i p)) (at h p) (at j p) s))) in
          (r.0, r.1 ∙ sym (pick_true (alike (at j p) (at i p)) (at k p) (at j p) s))
      go false s =
          let r : (clash ((nth b h).tree ∷ []) t (nth b k).tree p ≡ false) × (joined_at ((nth b h).tree ∷ []) t (nth b k).tree p ≡ found t p) =
          other_side_at (nth b h).tree t (nth b k).tree p (ah p s ∙ sym (ak p s)) in
          (r.0, r.1 ∙ (e p ∙ (pick_false (alike (at j p) (at i p)) (at h p) (at j p) s ∙ sym (pick_false (alike (at j p) (at i p)) (at k p) (at j p) s))))

  -- what is wanted stands in j or in k, so there is room
  step_few : (k : ℕ) (t : Tree) → rising_paths t ≡ true → ((p : List ℕ) → found t p ≡ want k p) → rising_paths (nth b j).tree ≡ true →
      length t ≤ length (both (nth b j).tree (nth b k).tree)
  step_few k t r e rj =
      length_within t (both (nth b j).tree (nth b k).tree) r (both_rising (nth b k).tree (nth b j).tree rj)
      (λ p m. ⊎_elim (λ n. absurd (in_found t p m n)) (λ f. somewhere p f.0 (sym (e p) ∙ f.1)) (found_one t p))
    where
      somewhere : (p c : List ℕ) → want k p ≡ c ∷ [] → In p (paths (both (nth b j).tree (nth b k).tree))
      somewhere p c =
          pick_both (λ v. v ≡ c ∷ [] → In p (paths (both (nth b j).tree (nth b k).tree))) (alike (at j p) (at i p)) (at k p) (at j p)
          (λ _ f. in_both_right (nth b k).tree (nth b j).tree p (found_in (nth b k).tree p c [] f))
          (λ _ f. in_both_left (nth b k).tree (nth b j).tree p (found_in (nth b j).tree p c [] f))

  carry_step : (h k : ℕ) (v : Way) → Carried h v → (nth b k).parents ≡ h ∷ [] → k < length b → Aside h → Aside k → rising_paths (nth b j).tree ≡ true →
      length (both (nth b j).tree (nth b k).tree) ≤ 4096 → Carried k (carry_one v k)
  unfolding tree_of
  carry_step h k v c e l ah ak rj few =
      carry_either (Carried k) v k (λ n. absurd (true≢false (sym goes_on ∙ n)))
      (λ _ s. record {
        well = c.well;
        grows = c.grows;
        base = ap (λ (x : Commit). x.tree) here;
        rising = c.rising;
        held = λ p. ap (λ u. found u p) (sym (same_tree_true (carried_tree v.book v.at k) (nth v.book v.at).tree s)) ∙ carried_held p;
      })
      (λ _ _. record {
        well = c.well;
        grows = longer;
        base = ap (λ (x : Commit). x.tree) (still (noted (once_more v k) v.book) k longer l);
        rising = subst (λ (x : Commit). rising_paths x.tree ≡ true) (sym (nth_noted (once_more v k) v.book)) carried_rising;
        held = λ p. ap (λ (x : Commit). found x.tree p) (nth_noted (once_more v k) v.book) ∙ carried_held p;
      })
    where
      here : nth v.book k ≡ nth b k
      here = still v.book k c.grows l

      longer : Grows b (noted (once_more v k) v.book)
      longer = grows_trans b v.book (noted (once_more v k) v.book) c.grows (noted_more (once_more v k) v.book)

      t : Tree
      t = (nth v.book v.at).tree

      parent_is : parent_tree v.book k ≡ (nth b h).tree
      parent_is = ap (λ (x : Commit). tree_of v.book x.parents) here ∙ (ap (λ ks. tree_of v.book ks) e ∙ c.base)

      carried_is : carried_tree v.book v.at k ≡ joined ((nth b h).tree ∷ []) t (nth b k).tree
      carried_is = λ m. joined (parent_is m ∷ []) t (here m).tree

      carried_held : (p : List ℕ) → found (carried_tree v.book v.at k) p ≡ want k p
      carried_held p = ap (λ u. found u p) carried_is ∙ (joined_found ((nth b h).tree ∷ []) t (nth b k).tree p ∙ (step_at h k t ah ak c.held p).1)

      carried_rising : rising_paths (carried_tree v.book v.at k) ≡ true
      carried_rising = joined_rising (parent_tree v.book k ∷ []) t (nth v.book k).tree c.rising

      goes_on : goes v k ≡ true
      goes_on =
          and_from _ _
          (subst (λ z. z ≡ true) (λ m. none_of (clashes (sym parent_is m ∷ []) t (sym here m).tree)) (no_clashes ((nth b h).tree ∷ []) t (nth b k).tree (λ p. (step_at h k t ah ak c.held p).0)))
          (le-leb (length (carried_tree v.book v.at k)) 4096
          (let m : length (carried_tree v.book v.at k) ≤ length (both (nth b j).tree (nth b k).tree) = step_few k (carried_tree v.book v.at k) carried_rising carried_held rj in omega arith))

  -- the whole chain
  carry_chain : (ks : List ℕ) (h : ℕ) (v : Way) → Carried h v → chain b h ks ≡ true → Aside h → ((p : List ℕ) → alike (at j p) (at i p) ≡ false → every (λ k. alike (at k p) (at i p)) ks ≡ true) →
      rising_paths (nth b j).tree ≡ true → every (λ k. rising_paths (nth b k).tree && leb (length (both (nth b j).tree (nth b k).tree)) 4096) ks ≡ true →
      Carried (last_or h ks) (carry_all v ks) × Aside (last_or h ks)
  unfolding chain last_or carry_all
  carry_chain [] h v c ch ah al rj few = (c, ah)
  carry_chain (k ∷ ks) h v c ch ah al rj few =
      let a : (same (nth b k).parents (h ∷ []) ≡ true) × ((ltb k (length b) && chain b k ks) ≡ true) = and_parts _ _ ch in
      let d : (ltb k (length b) ≡ true) × (chain b k ks ≡ true) = and_parts _ _ a.1 in
      let f : ((rising_paths (nth b k).tree && leb (length (both (nth b j).tree (nth b k).tree)) 4096) ≡ true) × (every (λ k. rising_paths (nth b k).tree && leb (length (both (nth b j).tree (nth b k).tree)) 4096) ks ≡ true) = and_parts _ _ few in
      let ak : Aside k = λ p n. alike_true (at k p) (at i p) (and_parts (alike (at k p) (at i p)) _ (al p n)).0 in
      carry_chain ks k (carry_one v k)
      (carry_step h k v c (same_true (nth b k).parents (h ∷ []) a.0) (ltb-true k (length b) d.0) ah ak rj (leb-true _ 4096 (and_parts (rising_paths (nth b k).tree) _ f.0).1))
      d.1 ak (λ p n. (and_parts (alike (at k p) (at i p)) _ (al p n)).1) rj f.1

  -- what is wanted is what joining gives
  want_joined : (h : ℕ) → Aside h → (p : List ℕ) → want h p ≡ found (joined ((nth b i).tree ∷ []) (nth b j).tree (nth b h).tree) p
  want_joined h ah p = go (alike (at j p) (at i p)) refl ∙ sym (joined_found ((nth b i).tree ∷ []) (nth b j).tree (nth b h).tree p)
    where
      go : (s : Bool) → alike (at j p) (at i p) ≡ s → want h p ≡ joined_at ((nth b i).tree ∷ []) (nth b j).tree (nth b h).tree p
      go true s =
          pick_true (alike (at j p) (at i p)) (at h p) (at j p) s
          ∙ sym (one_side_at ((nth b i).tree ∷ []) (nth b j).tree (nth b h).tree p (unchanged_from (nth b i).tree (at j p) p (sym (alike_true (at j p) (at i p) s)))).1
      go false s = pick_false (alike (at j p) (at i p)) (at h p) (at j p) s ∙ sym (other_side_at (nth b i).tree (nth b j).tree (nth b h).tree p (sym (ah p s))).1

pub carried_joined : CarriedJoined
unfolding CarriedJoined
carried_joined b i j ks lj ch al few =
    let f : ((rising_paths (nth b j).tree && leb (length (both (nth b j).tree (nth b j).tree)) 4096) ≡ true) × (every (λ k. rising_paths (nth b k).tree && leb (length (both (nth b j).tree (nth b k).tree)) 4096) ks ≡ true) = and_parts _ _ few in
    let rj : rising_paths (nth b j).tree ≡ true = (and_parts (rising_paths (nth b j).tree) _ f.0).0 in
    let r : Carried b i j (last_or i ks) (carry_all (set_out b j) ks) × Aside b i j (last_or i ks) =
    carry_chain b i j ks i (set_out b j)
    (record {
      well = refl;
      grows = grows_self b;
      base = refl;
      rising = rj;
      held = λ p. pick_both (λ v. found (nth b j).tree p ≡ v) (alike (found (nth b j).tree p) (found (nth b i).tree p)) (found (nth b i).tree p) (found (nth b j).tree p)
          (λ s. alike_true _ _ s) (λ _. refl);
    })
    ch (λ p n. refl)
    (λ p n. ⊎_elim (λ e. absurd (true≢false (sym e ∙ n))) (λ e. e) (or_cases (alike (found (nth b j).tree p) (found (nth b i).tree p)) _ (al p))) rj f.1 in
    (r.0.well, λ p. r.0.held p ∙ want_joined b i j (last_or i ks) r.1 p)
