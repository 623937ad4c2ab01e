-- Branches of a house, told by the head and by a list: what stays so when one gets another commit, when one is made, and when another is worked on; and what
-- they weigh. Assumes nothing.
use Rattle.std.proofs.Common.{◌≡◌, ℕ, suc, ◌+◌, ◌≤◌, Bool, true, false, ◌⊎◌, List, [], ◌∷◌, ◌++◌, length, sym, refl, ap, ◌∙◌, subst, inl, inr, ⊎_elim, arith, append-nil, length-append}
use Rattle.std.proofs.lemmas.Bool.{false≢true}
use Rattle.pages.specs.Lists.{pick, each, has, same, first_or, none_of}
use Rattle.house.specs.Laws.{WeightByReach}
use Rattle.house.proofs.WeightLaws.{weight_by_reach}
use Rattle.pages.proofs.ListLaws.{In, Once, pick_true, pick_false, pick_both, same_true, same_refl, same_from, same_not, in_each, each_in, in_append, in_left, in_right, has_in, in_has, same_test, length_each}
use Rattle.history.specs.Book.{Book, added, back}
use Rattle.history.specs.Laws.{Grown}
use Rattle.history.proofs.BackLaws.{added_in, in_added_new, back_in, in_back}
use Rattle.trees.proofs.StoredLaws.{each_each}
use Rattle.pages.proofs.ListLaws.{each_append}
use Rattle.trees.specs.Tree.{Tree}
use Rattle.house.specs.House.{Ref, ref_of, set_ref, weight, reached}
use Rattle.house.specs.Facts.{all_differ}
use Rattle.house.specs.Names.{Branches, names_in, with_branches, here_first}
use Rattle.house.proofs.FineLaws.{differ_once, once_differ, set_ref_once, ref_of_none, ref_of_one}

-- A NAME that is set is found with its commit, and all others as they were
pub ref_set : (n : List ℕ) (k : ℕ) (rs : List Ref) → ref_of (set_ref n k rs) n ≡ k ∷ []
unfolding set_ref ref_of
ref_set n k [] = pick_true (same n n) (k ∷ []) [] (same_refl n)
ref_set n k (r ∷ rs) =
    pick_both (λ (x : List Ref). ref_of x n ≡ k ∷ []) (same r.name n) (record { name = n; to = k } ∷ rs) (r ∷ set_ref n k rs)
    (λ _. pick_true (same n n) (k ∷ []) (ref_of rs n) (same_refl n))
    (λ e. pick_false (same r.name n) (r.to ∷ []) (ref_of (set_ref n k rs) n) e ∙ ref_set n k rs)

pub ref_set_other : (m n : List ℕ) (k : ℕ) (rs : List Ref) → same m n ≡ false → ref_of (set_ref m k rs) n ≡ ref_of rs n
unfolding set_ref ref_of
ref_set_other m n k [] h = pick_false (same m n) (k ∷ []) [] h
ref_set_other m n k (r ∷ rs) h =
    pick_both (λ (x : List Ref). ref_of x n ≡ pick (same r.name n) (r.to ∷ []) (ref_of rs n)) (same r.name m) (record { name = m; to = k } ∷ rs) (r ∷ set_ref m k rs)
    (λ e.
    pick_false (same m n) (k ∷ []) (ref_of rs n) h
    ∙ sym (pick_false (same r.name n) (r.to ∷ []) (ref_of rs n) (ap (λ x. same x n) (same_true r.name m e) ∙ h)))
    (λ _. ap (pick (same r.name n) (r.to ∷ [])) (ref_set_other m n k rs h))

pub length_set_new : (n : List ℕ) (k : ℕ) (rs : List Ref) → ref_of rs n ≡ [] → length (set_ref n k rs) ≡ suc (length rs)
unfolding set_ref ref_of
length_set_new n k [] h = refl
length_set_new n k (r ∷ rs) h = go (same r.name n) h (length_set_new n k rs)
  where
    go : (b : Bool) → pick b (r.to ∷ []) (ref_of rs n) ≡ [] → (ref_of rs n ≡ [] → length (set_ref n k rs) ≡ suc (length rs)) →
        length (pick b (record { name = n; to = k } ∷ rs) (r ∷ set_ref n k rs)) ≡ suc (suc (length rs))
    go true e next = absurd (omega (arith, ap length e))
    go false e next = ap suc (next e)

pub length_set_old : (n : List ℕ) (k j : ℕ) (rs : List Ref) → ref_of rs n ≡ j ∷ [] → length (set_ref n k rs) ≡ length rs
unfolding set_ref ref_of
length_set_old n k j [] h = absurd (omega (arith, ap length h))
length_set_old n k j (r ∷ rs) h = go (same r.name n) h (length_set_old n k j rs)
  where
    go : (b : Bool) → pick b (r.to ∷ []) (ref_of rs n) ≡ j ∷ [] → (ref_of rs n ≡ j ∷ [] → length (set_ref n k rs) ≡ length rs) →
        length (pick b (record { name = n; to = k } ∷ rs) (r ∷ set_ref n k rs)) ≡ suc (length rs)
    go true e next = refl
    go false e next = ap suc (next e)

-- names each once: a branch is found with its own commit, and what is found is a branch
pub ref_of_in : (rs : List Ref) → Once (names_in rs) → (r : Ref) → In r rs → ref_of rs r.name ≡ r.to ∷ []
unfolding ref_of
ref_of_in [] o r i = absurd i
ref_of_in (x ∷ rs) o r (inl e) = pick_true (same x.name r.name) (x.to ∷ []) (ref_of rs r.name) (same_from x.name r.name (ap (λ (y : Ref). y.name) e)) ∙ ap (λ (y : Ref). y.to ∷ []) e
ref_of_in (x ∷ rs) o r (inr i) =
    pick_false (same x.name r.name) (x.to ∷ []) (ref_of rs r.name)
    (same_not x.name r.name (λ e. absurd (o.0 (subst (λ n. In n (names_in rs)) (sym e) (in_each (λ (y : Ref). y.name) rs r i)))))
    ∙ ref_of_in rs o.1 r i

pub in_ref_of : (rs : List Ref) (n : List ℕ) (k : ℕ) → ref_of rs n ≡ k ∷ [] → (r : Ref) × In r rs × (r.name ≡ n) × (r.to ≡ k)
unfolding ref_of
in_ref_of [] n k h = absurd (omega (arith, ap length h))
in_ref_of (x ∷ rs) n k h = go (same x.name n) refl h (in_ref_of rs n k)
  where
    first : (a c : ℕ) → a ∷ [] ≡ c ∷ [] → a ≡ c
    first a c e = ap (λ (l : List ℕ). first_or 0 l) e

    go : (b : Bool) → same x.name n ≡ b → pick b (x.to ∷ []) (ref_of rs n) ≡ k ∷ [] → (ref_of rs n ≡ k ∷ [] → (r : Ref) × In r rs × (r.name ≡ n) × (r.to ≡ k)) →
        (r : Ref) × In r (x ∷ rs) × (r.name ≡ n) × (r.to ≡ k)
    go true e q next = (x, inl refl, same_true x.name n e, first x.to k q)
    go false e q next = let r = next q in (r.0, inr r.1, r.2, r.3)

-- WHOSE COMMITS: those of all branches are the one worked on's and those of the list
module _ (bs : List Ref) (here : List ℕ) (tips : List ℕ) (ns : List Ref) (v : Branches bs here tips ns) where
  bs_once : Once (names_in bs)
  bs_once = differ_once (names_in bs) v.once

  ns_once : Once (names_in ns)
  ns_once = differ_once (names_in ns) v.names_once

  pub targets_there : (k : ℕ) → In k (each (λ r. r.to) bs) → In k (tips ++ each (λ r. r.to) ns)
  targets_there k i =
      let q : (r : Ref) × In r bs × (r.to ≡ k) = each_in (λ (r : Ref). r.to) bs k i in
      go q.0 q.2 (ref_of_in bs bs_once q.0 q.1) (same q.0.name here) refl
    where
      go : (r : Ref) → r.to ≡ k → ref_of bs r.name ≡ r.to ∷ [] → (b : Bool) → same r.name here ≡ b → In k (tips ++ each (λ x. x.to) ns)
      go r e f true y =
          in_left k tips (each (λ x. x.to) ns)
          (subst (In k) (sym (ap (ref_of bs) (sym (same_true r.name here y)) ∙ f) ∙ v.here_is) (inl e))
      go r e f false y =
          let x : (x : Ref) × In x ns × (x.name ≡ r.name) × (x.to ≡ r.to) = in_ref_of ns r.name r.to (sym (v.others r.name y) ∙ f) in
          in_right k tips (each (λ x. x.to) ns) (subst (λ j. In j (each (λ x. x.to) ns)) (x.3 ∙ e) (in_each (λ (x : Ref). x.to) ns x.0 x.1))

  pub targets_here : (k : ℕ) → In k (tips ++ each (λ r. r.to) ns) → In k (each (λ r. r.to) bs)
  targets_here k i = go (in_append k tips (each (λ r. r.to) ns) i)
    where
      found : (n : List ℕ) (j : ℕ) → ref_of bs n ≡ j ∷ [] → In j (each (λ r. r.to) bs)
      found n j e = let x = in_ref_of bs n j e in subst (λ q. In q (each (λ r. r.to) bs)) x.3 (in_each (λ (r : Ref). r.to) bs x.0 x.1)

      tip_found : (ks : List ℕ) → ref_of bs here ≡ ks → length ks ≤ 1 → In k ks → In k (each (λ r. r.to) bs)
      tip_found [] e few i = absurd i
      tip_found (j ∷ []) e few (inl q) = subst (λ x. In x (each (λ r. r.to) bs)) q (found here j e)
      tip_found (j ∷ []) e few (inr q) = absurd q
      tip_found (j ∷ m ∷ ks) e few q = absurd (omega arith)

      named_found : (r : Ref) → In r ns → (b : Bool) → same r.name here ≡ b → In r.to (each (λ x. x.to) bs)
      named_found r i true e = absurd (omega (arith, ap length (sym (ref_of_in ns ns_once r i) ∙ ap (ref_of ns) (same_true r.name here e) ∙ v.none_here)))
      named_found r i false e = found r.name r.to (v.others r.name e ∙ ref_of_in ns ns_once r i)

      go : In k tips ⊎ In k (each (λ r. r.to) ns) → In k (each (λ r. r.to) bs)
      go (inl q) = tip_found tips v.here_is (subst (λ ks. length ks ≤ 1) v.here_is (ref_of_one bs here)) q
      go (inr q) = let x : (r : Ref) × In r ns × (r.to ≡ k) = each_in (λ (r : Ref). r.to) ns k q in subst (λ j. In j (each (λ r. r.to) bs)) x.2 (named_found x.0 x.1 (same x.0.name here) refl)

-- a test says yes or no
either : (b : Bool) → (b ≡ true) ⊎ (b ≡ false)
either true = inl refl
either false = inr refl

-- HOW THEY MOVE
pub branches_none : (here : List ℕ) → Branches [] here [] []
unfolding ref_of all_differ
branches_none here = record { here_is = refl; none_here = refl; others = λ n e. refl; once = refl; names_once = refl; many = refl }

-- the branch worked on has another commit
pub branches_noted : (bs : List Ref) (here : List ℕ) (tips : List ℕ) (ns : List Ref) (k : ℕ) → Branches bs here tips ns → Branches (set_ref here k bs) here (k ∷ []) ns
branches_noted bs here tips ns k v =
    record {
      here_is = ref_set here k bs;
      none_here = v.none_here;
      others = λ n e. ref_set_other here n k bs (other n e) ∙ v.others n e;
      once = once_differ (names_in (set_ref here k bs)) (set_ref_once here k bs (differ_once (names_in bs) v.once));
      names_once = v.names_once;
      many = let x : length (set_ref here k bs) ≡ suc (length ns) = go tips v.here_is (subst (λ ks. length ks ≤ 1) v.here_is (ref_of_one bs here)) v.many in omega (arith, x);
    }
  where
    other : (n : List ℕ) → same n here ≡ false → same here n ≡ false
    other n e = same_not here n (λ x. false≢true (sym e ∙ same_from n here (sym x)))

    go : (ks : List ℕ) → ref_of bs here ≡ ks → length ks ≤ 1 → length bs ≡ length ks + length ns → length (set_ref here k bs) ≡ suc (length ns)
    go [] e few m = let x : length (set_ref here k bs) ≡ suc (length bs) = length_set_new here k bs e in omega (arith, x, m)
    go (j ∷ []) e few m = let x : length (set_ref here k bs) ≡ length bs = length_set_old here k j bs e in omega (arith, x, m)
    go (j ∷ i ∷ ks) e few m = absurd (omega arith)

-- a branch is made, at a commit
pub branches_made : (bs : List Ref) (here : List ℕ) (tips : List ℕ) (ns : List Ref) (n : List ℕ) (k : ℕ) → same n here ≡ false → ref_of bs n ≡ [] → Branches bs here tips ns →
    Branches (set_ref n k bs) here tips (record { name = n; to = k } ∷ ns)
unfolding ref_of all_differ
branches_made bs here tips ns n k other fresh v =
    record {
      here_is = ref_set_other n here k bs other ∙ v.here_is;
      none_here = pick_false (same n here) (k ∷ []) (ref_of ns here) other ∙ v.none_here;
      others = λ m e. found m e (same n m) refl;
      once = once_differ (names_in (set_ref n k bs)) (set_ref_once n k bs (differ_once (names_in bs) v.once));
      names_once = once_differ (n ∷ names_in ns) (λ i. ref_of_none ns n (ap none_of (sym (v.others n other) ∙ fresh)) i, differ_once (names_in ns) v.names_once);
      many = omega (arith, length_set_new n k bs fresh, v.many);
    }
  where
    found : (m : List ℕ) → same m here ≡ false → (b : Bool) → same n m ≡ b → ref_of (set_ref n k bs) m ≡ pick (same n m) (k ∷ []) (ref_of ns m)
    found m e true y =
        ap (ref_of (set_ref n k bs)) (sym (same_true n m y)) ∙ ref_set n k bs ∙ sym (pick_true (same n m) (k ∷ []) (ref_of ns m) y)
    found m e false y = ref_set_other n m k bs y ∙ v.others m e ∙ sym (pick_false (same n m) (k ∷ []) (ref_of ns m) y)

-- another branch is worked on: the list gets the one worked on before, and gives that one up
pub branches_left : (bs : List Ref) (here : List ℕ) (tips : List ℕ) (ns ms : List Ref) (n : List ℕ) (k : ℕ) → same n here ≡ false → ref_of bs n ≡ k ∷ [] → Branches bs here tips ns →
    all_differ (names_in ms) ≡ true → length ns ≡ suc (length ms) → ref_of ms n ≡ [] → ((m : List ℕ) → same m n ≡ false → ref_of ms m ≡ ref_of ns m) →
    Branches bs n (k ∷ []) (each (λ j. record { name = here; to = j }) tips ++ ms)
unfolding ref_of all_differ
branches_left bs here tips ns ms n k other found v once fewer none same_others = go tips v.here_is (subst (λ ks. length ks ≤ 1) v.here_is (ref_of_one bs here)) v.many
  where
    here_not : same here n ≡ false
    here_not = same_not here n (λ x. false≢true (sym other ∙ same_from n here (sym x)))

    none_there : ref_of ms here ≡ []
    none_there = same_others here here_not ∙ v.none_here

    there : (m : List ℕ) → same m n ≡ false → (b : Bool) → same m here ≡ b → same m here ≡ false → ref_of bs m ≡ ref_of ms m
    there m e b y z = v.others m z ∙ sym (same_others m e)

    go : (ks : List ℕ) → ref_of bs here ≡ ks → length ks ≤ 1 → length bs ≡ length ks + length ns → Branches bs n (k ∷ []) (each (λ j. record { name = here; to = j }) ks ++ ms)
    go [] e few m =
        record {
          here_is = found;
          none_here = none;
          others = λ q f. ⊎_elim (λ z. ap (ref_of bs) (same_true q here z) ∙ e ∙ sym (ap (ref_of ms) (same_true q here z) ∙ none_there)) (λ z. there q f (same q here) refl z) (either (same q here));
          once = v.once;
          names_once = once;
          many = omega (arith, m, fewer);
        }
    go (j ∷ []) e few m =
        record {
          here_is = found;
          none_here = pick_false (same here n) (j ∷ []) (ref_of ms n) here_not ∙ none;
          others = λ q f. ⊎_elim
              (λ z. ap (ref_of bs) (same_true q here z) ∙ e ∙ sym (pick_true (same here q) (j ∷ []) (ref_of ms q) (same_from here q (sym (same_true q here z)))))
              (λ z. there q f (same q here) refl z ∙ sym (pick_false (same here q) (j ∷ []) (ref_of ms q) (same_not here q (λ x. false≢true (sym z ∙ same_from q here (sym x))))))
              (either (same q here));
          once = v.once;
          names_once = once_differ (here ∷ names_in ms) (λ i. ref_of_none ms here (ap none_of none_there) i, differ_once (names_in ms) once);
          many = omega (arith, m, fewer);
        }
    go (j ∷ i ∷ ks) e few m = absurd (omega arith)

-- WHAT THEY WEIGH does not depend on their order
pub back_members : (b : Book) (ks js : List ℕ) → Grown b → ((k : ℕ) → In k ks → In k js) → (j : ℕ) → In j (back b ks) → In j (back b js)
back_members b ks js grown h j i = let q = back_in b ks j i in in_back b js q.0 j grown (h q.0 q.1) q.2

targets_only : (rs : List Ref) → each (λ r. r.to) (rs ++ [] ++ []) ++ [] ≡ each (λ r. r.to) rs
targets_only rs = append-nil (each (λ r. r.to) (rs ++ [] ++ [])) ∙ ap (each (λ r. r.to)) (append-nil (rs ++ []) ∙ append-nil rs)

each_same : (ks : List ℕ) → each (λ k. k) ks ≡ ks
each_same [] = refl
each_same (k ∷ ks) = ap (λ l. k ∷ l) (each_same ks)

named_targets : (rs : List Ref) (k : ℕ) → In k (added (each (λ r. r.to) (rs ++ [] ++ []) ++ []) []) → In k (each (λ r. r.to) rs)
named_targets rs k i = subst (λ (l : List ℕ). In k l) (targets_only rs) (go (added_in (each (λ r. r.to) (rs ++ [] ++ []) ++ []) [] k i))
  where
    go : In k (each (λ r. r.to) (rs ++ [] ++ []) ++ []) ⊎ In k [] → In k (each (λ r. r.to) (rs ++ [] ++ []) ++ [])
    go (inl q) = q
    go (inr q) = absurd q

targets_named : (rs : List Ref) (k : ℕ) → In k (each (λ r. r.to) rs) → In k (added (each (λ r. r.to) (rs ++ [] ++ []) ++ []) [])
targets_named rs k i = in_added_new (each (λ r. r.to) (rs ++ [] ++ []) ++ []) [] k (subst (λ (l : List ℕ). In k l) (sym (targets_only rs)) i)

pub reached_by : (b : Book) (here : List ℕ) (tree : Tree) (rs qs : List Ref) → Grown b → ((k : ℕ) → In k (each (λ r. r.to) rs) → In k (each (λ r. r.to) qs)) → (j : ℕ) →
    In j (reached b (with_branches rs here tree)) → In j (reached b (with_branches qs here tree))
reached_by b here tree rs qs grown h =
    back_members b (added (each (λ r. r.to) (rs ++ [] ++ []) ++ []) []) (added (each (λ r. r.to) (qs ++ [] ++ []) ++ []) []) grown (λ k i. targets_named qs k (h k (named_targets rs k i)))

pub branches_weigh : (b : Book) (bs : List Ref) (here : List ℕ) (tips : List ℕ) (ns : List Ref) (tree : Tree) → Grown b → Branches bs here tips ns →
    weight b (with_branches bs here tree) ≡ weight b (with_branches (here_first here tips ns) here tree)
unfolding WeightByReach
branches_weigh b bs here tips ns tree grown v =
    weight_by_reach b (with_branches bs here tree) (with_branches (here_first here tips ns) here tree)
    (λ k. same_test (has (reached b (with_branches bs here tree)) k) (has (reached b (with_branches (here_first here tips ns) here tree)) k)
    (λ e. in_has (reached b (with_branches (here_first here tips ns) here tree)) k (reached_by b here tree bs (here_first here tips ns) grown there k (has_in (reached b (with_branches bs here tree)) k e)))
    (λ e. in_has (reached b (with_branches bs here tree)) k (reached_by b here tree (here_first here tips ns) bs grown here_too k (has_in (reached b (with_branches (here_first here tips ns) here tree)) k e))))
    refl many
  where
    first_targets : each (λ r. r.to) (here_first here tips ns) ≡ tips ++ each (λ r. r.to) ns
    first_targets = each_append (λ r. r.to) (each (λ k. record { name = here; to = k }) tips) ns ∙ ap (λ l. l ++ each (λ r. r.to) ns) (each_each (λ r. r.to) (λ k. record { name = here; to = k }) tips ∙ each_same tips)

    there : (k : ℕ) → In k (each (λ r. r.to) bs) → In k (each (λ r. r.to) (here_first here tips ns))
    there k i = subst (λ (l : List ℕ). In k l) (sym first_targets) (targets_there bs here tips ns v k i)

    here_too : (k : ℕ) → In k (each (λ r. r.to) (here_first here tips ns)) → In k (each (λ r. r.to) bs)
    here_too k i = targets_here bs here tips ns v k (subst (λ (l : List ℕ). In k l) first_targets i)

    many : length (bs ++ [] ++ []) ≡ length (here_first here tips ns ++ [] ++ [])
    many =
        ap length (append-nil (bs ++ []) ∙ append-nil bs) ∙ v.many
        ∙ sym (ap length (append-nil (here_first here tips ns ++ []) ∙ append-nil (here_first here tips ns)) ∙ length-append (each (λ k. record { name = here; to = k }) tips) ns ∙ ap (λ i. i + length ns) (length_each (λ k. record { name = here; to = k }) tips))
