-- What joining gives. The trees may be any lists of files: a path that stands several times is taken out as often as it stands.
use Rattle.std.proofs.Common.{◌≡◌, ℕ, suc, ◌+◌, ◌-◌, ◌≤◌, Bool, true, false, not, ◌&&◌, ◌⊎◌, List, [], ◌∷◌, ◌++◌, length, sym, refl, ap, ◌∙◌, subst, inl, inr, ⊎_elim, arith, length-append}
use Rattle.std.proofs.lemmas.Bool.{true≢false, false≢true, and_parts, and_left, and_right, not-false}
use Rattle.pages.specs.Lists.{pick, every, those, same, earlier}
use Rattle.pages.proofs.ListLaws.{pick_both, pick_true, pick_false, In, in_left, in_right, same_true, same_refl, same_from, same_false, same_sym, those_append, those_in, in_those, Once, once_those, length_those, length_each}
use Rattle.trees.specs.Tree.{File, Tree, found, alike, put, without, set, paths, both, rising_paths, changed, clash, joined_at, joined_over, joined, clashes}
use Rattle.trees.specs.Laws.{JoinedRight, OneSide, FilesFound, OneTree}
use Rattle.trees.proofs.TreeLaws.{found_without_same, put_rising, without_rising, rising_alike, alike_true, alike_from, alike_sym, found_one, found_in, found_out, found_put_same, found_put_other, found_without_other, found_set_other, set_rising, in_both_left, in_both_right, both_rising, both_in, set_every, found_every, once_paths, length_both}

-- how often a path stands in a list
abbrev pub times : List ℕ → List (List ℕ) → ℕ
times p ps = length (those (λ q. same q p) ps)

pub times_none : (p : List ℕ) (ps : List (List ℕ)) → times p ps ≡ 0 → In p ps → ⊥
times_none p ps e i = gone (those (λ q. same q p) ps) e (in_those (λ q. same q p) ps p i (same_refl p))
  where
    gone : (l : List (List ℕ)) → length l ≡ 0 → In p l → ⊥
    gone [] e i = i
    gone (x ∷ l) e i = omega arith

pub times_here : (p q : List ℕ) (ps : List (List ℕ)) → q ≡ p → times p (q ∷ ps) ≡ suc (times p ps)
times_here p q ps e = ap length (pick_true (same q p) (q ∷ those (λ r. same r p) ps) (those (λ r. same r p) ps) (same_from q p e))

pub times_further : (p q : List ℕ) (ps : List (List ℕ)) → same q p ≡ false → times p (q ∷ ps) ≡ times p ps
times_further p q ps e = ap length (pick_false (same q p) (q ∷ those (λ r. same r p) ps) (those (λ r. same r p) ps) e)

pub times_behind : (p q : List ℕ) (ps qs : List (List ℕ)) → times p ps ≡ times p qs → times p (q ∷ ps) ≡ times p (q ∷ qs)
times_behind p q ps qs e =
    ⊎_elim (λ c. times_here p q ps c ∙ (ap suc e ∙ sym (times_here p q qs c))) (λ c. times_further p q ps c ∙ (e ∙ sym (times_further p q qs c))) (by (same q p) refl)
  where
    by : (b : Bool) → same q p ≡ b → (q ≡ p) ⊎ (same q p ≡ false)
    by true e = inl (same_true q p e)
    by false e = inr e

pub times_put_other : (p q b : List ℕ) (t : Tree) → same q p ≡ false → times p (paths (put q b t)) ≡ times p (paths t)
unfolding put
times_put_other p q b [] n = times_further p q [] n
times_put_other p q b (f ∷ fs) n =
    pick_both (λ u. times p (paths u) ≡ times p (paths (f ∷ fs))) (same q f.path) _ _
    (λ e. ap (λ r. times p (r ∷ paths fs)) (same_true q f.path e))
    (λ _. pick_both (λ u. times p (paths u) ≡ times p (paths (f ∷ fs))) (earlier q f.path) _ _ (λ _. times_further p q (paths (f ∷ fs)) n)
    (λ _. times_behind p f.path (paths (put q b fs)) (paths fs) (times_put_other p q b fs n)))

pub times_without_other : (p q : List ℕ) (t : Tree) → same q p ≡ false → times p (paths (without q t)) ≡ times p (paths t)
unfolding without
times_without_other p q [] n = refl
times_without_other p q (f ∷ fs) n =
    pick_both (λ u. times p (paths u) ≡ times p (paths (f ∷ fs))) (same q f.path) _ _
    (λ e. sym (times_further p f.path (paths fs) (subst (λ r. same r p ≡ false) (same_true q f.path e) n)))
    (λ _. times_behind p f.path (paths (without q fs)) (paths fs) (times_without_other p q fs n))

pub times_without_same : (p : List ℕ) (t : Tree) → times p (paths (without p t)) ≤ times p (paths t) - 1
unfolding without
times_without_same p [] = omega arith
times_without_same p (f ∷ fs) =
    let ih : times p (paths (without p fs)) ≤ times p (paths fs) - 1 = times_without_same p fs in
    pick_both (λ u. times p (paths u) ≤ times p (paths (f ∷ fs)) - 1) (same p f.path) _ _
    (λ e. let a : times p (paths (f ∷ fs)) ≡ suc (times p (paths fs)) = times_here p f.path (paths fs) (sym (same_true p f.path e)) in omega arith)
    (λ n. let c : same f.path p ≡ false = same_sym f.path p ∙ n in
    let a : times p (paths (f ∷ fs)) ≡ times p (paths fs) = times_further p f.path (paths fs) c in
    let d : times p (f.path ∷ paths (without p fs)) ≡ times p (paths (without p fs)) = times_further p f.path (paths (without p fs)) c in
    omega arith)

pub times_set_other : (p q : List ℕ) (bs : List (List ℕ)) (t : Tree) → same q p ≡ false → times p (paths (set q bs t)) ≡ times p (paths t)
unfolding set
times_set_other p q [] t n = times_without_other p q t n
times_set_other p q (b ∷ bs) t n = times_put_other p q b t n

pub set_none : (p : List ℕ) (bs : List (List ℕ)) (t : Tree) → bs ≡ [] → set p bs t ≡ without p t
unfolding set
set_none p bs t e = ap (λ v. set p v t) e

pub set_some : (p : List ℕ) (bs : List (List ℕ)) (t : Tree) (b : List ℕ) (cs : List (List ℕ)) → bs ≡ b ∷ cs → set p bs t ≡ put p b t
unfolding set
set_some p bs t b cs e = ap (λ v. set p v t) e

-- PATH BY PATH

-- what isn't among the paths stays
pub over_apart : (bases : List Tree) (ours theirs : Tree) (ps : List (List ℕ)) (t : Tree) (p : List ℕ) →
    (In p ps → ⊥) → found (joined_over bases ours theirs ps t) p ≡ found t p
unfolding joined_over
over_apart bases ours theirs [] t p n = refl
over_apart bases ours theirs (q ∷ ps) t p n =
    over_apart bases ours theirs ps (set q (joined_at bases ours theirs q) t) p (λ i. n (inr i)) ∙ found_set_other q (joined_at bases ours theirs q) t p (λ e. n (inl e))

-- what is to go goes, if it's named often enough
pub over_gone : (bases : List Tree) (ours theirs : Tree) (ps : List (List ℕ)) (t : Tree) (p : List ℕ) →
    joined_at bases ours theirs p ≡ [] → times p (paths t) ≤ times p ps → found (joined_over bases ours theirs ps t) p ≡ []
unfolding joined_over
over_gone bases ours theirs [] t p v l = found_out t p (times_none p (paths t) (omega arith))
over_gone bases ours theirs (q ∷ ps) t p v l = go (same q p) refl (λ u. over_gone bases ours theirs ps u p v)
  where
    go : (b : Bool) → same q p ≡ b → ((u : Tree) → times p (paths u) ≤ times p ps → found (joined_over bases ours theirs ps u) p ≡ []) →
        found (joined_over bases ours theirs ps (set q (joined_at bases ours theirs q) t)) p ≡ []
    go true e ih =
        let same_path : q ≡ p = same_true q p e in
        let cut : set q (joined_at bases ours theirs q) t ≡ without p t = subst (λ r. set r (joined_at bases ours theirs r) t ≡ without p t) (sym same_path) (set_none p (joined_at bases ours theirs p) t v) in
        ih (set q (joined_at bases ours theirs q) t)
        (let a : times p (q ∷ ps) ≡ suc (times p ps) = times_here p q ps same_path in
        let m : times p (paths (without p t)) ≤ times p (paths t) - 1 = times_without_same p t in
        rw cut (omega arith))
    go false n ih =
        ih (set q (joined_at bases ours theirs q) t)
        (let a : times p (q ∷ ps) ≡ times p ps = times_further p q ps n in
        let m : times p (paths (set q (joined_at bases ours theirs q) t)) ≡ times p (paths t) = times_set_other p q (joined_at bases ours theirs q) t n in
        omega arith)

-- what is to be there stays, once it is there
pub over_stays : (bases : List Tree) (ours theirs : Tree) (ps : List (List ℕ)) (t : Tree) (p b : List ℕ) (cs : List (List ℕ)) →
    joined_at bases ours theirs p ≡ b ∷ cs → found t p ≡ b ∷ [] → found (joined_over bases ours theirs ps t) p ≡ b ∷ []
unfolding joined_over
over_stays bases ours theirs [] t p b cs v h = h
over_stays bases ours theirs (q ∷ ps) t p b cs v h =
    over_stays bases ours theirs ps (set q (joined_at bases ours theirs q) t) p b cs v (go (same q p) refl)
  where
    go : (c : Bool) → same q p ≡ c → found (set q (joined_at bases ours theirs q) t) p ≡ b ∷ []
    go true e =
        subst (λ r. found (set r (joined_at bases ours theirs r) t) p ≡ b ∷ []) (sym (same_true q p e))
        (ap (λ u. found u p) (set_some p (joined_at bases ours theirs p) t b cs v) ∙ found_put_same p b t)
    go false n = found_set_other q (joined_at bases ours theirs q) t p (same_false q p n) ∙ h

-- and it comes to be there
pub over_put : (bases : List Tree) (ours theirs : Tree) (ps : List (List ℕ)) (t : Tree) (p b : List ℕ) (cs : List (List ℕ)) →
    joined_at bases ours theirs p ≡ b ∷ cs → In p ps → found (joined_over bases ours theirs ps t) p ≡ b ∷ []
unfolding joined_over
over_put bases ours theirs [] t p b cs v i = absurd i
over_put bases ours theirs (q ∷ ps) t p b cs v (inl e) =
    over_stays bases ours theirs ps (set q (joined_at bases ours theirs q) t) p b cs v
    (subst (λ r. found (set r (joined_at bases ours theirs r) t) p ≡ b ∷ []) (sym e)
    (ap (λ u. found u p) (set_some p (joined_at bases ours theirs p) t b cs v) ∙ found_put_same p b t))
over_put bases ours theirs (q ∷ ps) t p b cs v (inr i) = over_put bases ours theirs ps (set q (joined_at bases ours theirs q) t) p b cs v i

pub over_rising : (bases : List Tree) (ours theirs : Tree) (ps : List (List ℕ)) (t : Tree) → rising_paths t ≡ true → rising_paths (joined_over bases ours theirs ps t) ≡ true
unfolding joined_over
over_rising bases ours theirs [] t h = h
over_rising bases ours theirs (q ∷ ps) t h =
    over_rising bases ours theirs ps (set q (joined_at bases ours theirs q) t) (set_rising q (joined_at bases ours theirs q) t h)

pub joined_rising : (bases : List Tree) (ours theirs : Tree) → rising_paths ours ≡ true → rising_paths (joined bases ours theirs) ≡ true
joined_rising bases ours theirs h = over_rising bases ours theirs (paths theirs ++ paths ours) ours h

-- what the rule gives is what one of the two has
pub joined_at_either : (P : List (List ℕ) → Type 0) (bases : List Tree) (ours theirs : Tree) (p : List ℕ) → P (found ours p) → P (found theirs p) → P (joined_at bases ours theirs p)
unfolding joined_at
joined_at_either P bases ours theirs p a b =
    pick_both P (alike (found ours p) (found theirs p)) _ _ (λ _. a) (λ _. pick_both P (changed bases (found ours p) p) _ _ (λ _. a) (λ _. b))

-- at every path joining gives what the rule says
pub joined_found : (bases : List Tree) (ours theirs : Tree) (p : List ℕ) → found (joined bases ours theirs) p ≡ joined_at bases ours theirs p
joined_found bases ours theirs p =
    go (joined_at bases ours theirs p) refl (joined_at_either One bases ours theirs p (found_one ours p) (found_one theirs p))
    (joined_at_either Somewhere bases ours theirs p (λ b cs e. in_right p (paths theirs) (paths ours) (found_in ours p b cs e))
    (λ b cs e. in_left p (paths theirs) (paths ours) (found_in theirs p b cs e)))
  where
    One : List (List ℕ) → Type 0
    One v = (v ≡ []) ⊎ ((b : List ℕ) × (v ≡ b ∷ []))

    Somewhere : List (List ℕ) → Type 0
    Somewhere v = (b : List ℕ) (cs : List (List ℕ)) → v ≡ b ∷ cs → In p (paths theirs ++ paths ours)

    go : (v : List (List ℕ)) → joined_at bases ours theirs p ≡ v → One (joined_at bases ours theirs p) → Somewhere (joined_at bases ours theirs p) →
        found (joined bases ours theirs) p ≡ joined_at bases ours theirs p
    go v e (inl n) w =
        over_gone bases ours theirs (paths theirs ++ paths ours) ours p n
        (let a : times p (paths theirs ++ paths ours) ≡ times p (paths theirs) + times p (paths ours) =
        ap length (those_append (λ q. same q p) (paths theirs) (paths ours)) ∙ length-append (those (λ q. same q p) (paths theirs)) (those (λ q. same q p) (paths ours)) in
        omega arith)
        ∙ sym n
    go v e (inr r) w = over_put bases ours theirs (paths theirs ++ paths ours) ours p r.0 [] r.1 (w r.0 [] r.1) ∙ sym r.1

-- THE RULE

-- unchanged: it is as in every tree that both came from
pub unchanged_is : (base : Tree) (more : List Tree) (here : List (List ℕ)) (p : List ℕ) → changed (base ∷ more) here p ≡ false → found base p ≡ here
unfolding changed
unchanged_is base more here p h =
    alike_true (found base p) here (and_parts (alike (found base p) here) _ (not-false (every (λ b. alike (found b p) here) (base ∷ more)) h)).0

pub clash_sym : (bases : List Tree) (ours theirs : Tree) (p : List ℕ) → clash bases ours theirs p ≡ clash bases theirs ours p
unfolding clash
clash_sym bases ours theirs p =
    λ i. not (alike_sym (found ours p) (found theirs p) i) && and_comm (changed bases (found ours p) p) (changed bases (found theirs p) p) i
  where
    and_comm : (x y : Bool) → (x && y) ≡ (y && x)
    and_comm true true = refl
    and_comm true false = refl
    and_comm false true = refl
    and_comm false false = refl

-- at a clash ours stands
pub clash_ours : (bases : List Tree) (ours theirs : Tree) (p : List ℕ) → clash bases ours theirs p ≡ true → joined_at bases ours theirs p ≡ found ours p
unfolding clash joined_at
clash_ours bases ours theirs p h =
    let a : (changed bases (found ours p) p ≡ true) × (changed bases (found theirs p) p ≡ true) = and_parts _ _ (and_parts (not (alike (found ours p) (found theirs p))) _ h).1 in
    pick_both (λ v. v ≡ found ours p) (alike (found ours p) (found theirs p)) _ _ (λ _. refl) (λ _. pick_true (changed bases (found ours p) p) _ _ a.0)

pub joined_at_sym : (base : Tree) (more : List Tree) (ours theirs : Tree) (p : List ℕ) →
    clash (base ∷ more) ours theirs p ≡ false → joined_at (base ∷ more) ours theirs p ≡ joined_at (base ∷ more) theirs ours p
unfolding clash joined_at
joined_at_sym base more ours theirs p h =
    go (alike (found ours p) (found theirs p)) refl (changed (base ∷ more) (found ours p) p) refl (changed (base ∷ more) (found theirs p) p) refl h
  where
    go : (a : Bool) → alike (found ours p) (found theirs p) ≡ a → (x : Bool) → changed (base ∷ more) (found ours p) p ≡ x → (y : Bool) → changed (base ∷ more) (found theirs p) p ≡ y →
        (not a && (x && y)) ≡ false →
        pick a (found ours p) (pick x (found ours p) (found theirs p)) ≡ pick (alike (found theirs p) (found ours p)) (found theirs p) (pick y (found theirs p) (found ours p))
    go true e x c y d h = alike_true _ _ e ∙ sym (pick_true (alike (found theirs p) (found ours p)) _ _ (alike_sym (found theirs p) (found ours p) ∙ e))
    go false e true c true d h = absurd (true≢false h)
    go false e true c false d h = sym (pick_false (alike (found theirs p) (found ours p)) _ _ (alike_sym (found theirs p) (found ours p) ∙ e))
    go false e false c true d h = sym (pick_false (alike (found theirs p) (found ours p)) _ _ (alike_sym (found theirs p) (found ours p) ∙ e))
    go false e false c false d h =
        absurd (false≢true (sym e ∙ alike_from _ _ (sym (unchanged_is base more (found ours p) p c) ∙ unchanged_is base more (found theirs p) p d)))

-- what only one side changed is as that side has it
pub one_side_at : (bases : List Tree) (ours theirs : Tree) (p : List ℕ) → changed bases (found ours p) p ≡ false →
    (clash bases ours theirs p ≡ false) × (joined_at bases ours theirs p ≡ found theirs p)
unfolding clash joined_at
one_side_at bases ours theirs p h = (
  and_right (not (alike (found ours p) (found theirs p))) _ (and_left (changed bases (found ours p) p) _ h),
  pick_both (λ v. v ≡ found theirs p) (alike (found ours p) (found theirs p)) _ _ (λ e. alike_true _ _ e) (λ _. pick_false (changed bases (found ours p) p) _ _ h),
)

-- THE LAWS

pub joined_right : JoinedRight
unfolding JoinedRight
joined_right base more ours theirs p = (
  λ _. joined_found (base ∷ more) ours theirs p,
  λ h. joined_found (base ∷ more) ours theirs p ∙ clash_ours (base ∷ more) ours theirs p h,
  clash_sym (base ∷ more) ours theirs p,
  λ h. joined_found (base ∷ more) ours theirs p ∙ (joined_at_sym base more ours theirs p h ∙ sym (joined_found (base ∷ more) theirs ours p)),
)

pub one_side : OneSide
unfolding OneSide
one_side bases ours theirs p h =
    ((one_side_at bases ours theirs p h).0, joined_found bases ours theirs p ∙ (one_side_at bases ours theirs p h).1)

-- what holds of every file of both holds of every file joined
pub over_every : (q : File → Bool) (bases : List Tree) (ours theirs : Tree) (ps : List (List ℕ)) (t : Tree) → every q ours ≡ true → every q theirs ≡ true →
    every q t ≡ true → every q (joined_over bases ours theirs ps t) ≡ true
unfolding joined_over
over_every q bases ours theirs [] t a b h = h
over_every q bases ours theirs (p ∷ ps) t a b h =
    over_every q bases ours theirs ps (set p (joined_at bases ours theirs p) t) a b
    (set_every q p (joined_at bases ours theirs p) t
    (joined_at_either (λ v. every (λ c. q (record { path = p; bytes = c })) v ≡ true) bases ours theirs p (found_every q ours p a) (found_every q theirs p b)) h)

pub joined_every : (q : File → Bool) (bases : List Tree) (ours theirs : Tree) → every q ours ≡ true → every q theirs ≡ true → every q (joined bases ours theirs) ≡ true
joined_every q bases ours theirs a b = over_every q bases ours theirs (paths theirs ++ paths ours) ours a b a

-- CLASHES

pub clashes_in : (bases : List Tree) (ours theirs : Tree) (p : List ℕ) → In p (clashes bases ours theirs) →
    (In p (paths ours) ⊎ In p (paths theirs)) × (clash bases ours theirs p ≡ true)
clashes_in bases ours theirs p i =
    let r : In p (paths (both ours theirs)) × (clash bases ours theirs p ≡ true) = those_in (clash bases ours theirs) (paths (both ours theirs)) p i in
    (both_in theirs ours p r.0, r.1)

pub in_clashes : (bases : List Tree) (ours theirs : Tree) (p : List ℕ) → (In p (paths ours) ⊎ In p (paths theirs)) → clash bases ours theirs p ≡ true →
    In p (clashes bases ours theirs)
in_clashes bases ours theirs p i c =
    in_those (clash bases ours theirs) (paths (both ours theirs)) p (⊎_elim (λ l. in_both_left theirs ours p l) (λ r. in_both_right theirs ours p r) i) c

pub once_clashes : (bases : List Tree) (ours theirs : Tree) → rising_paths ours ≡ true → Once (clashes bases ours theirs)
once_clashes bases ours theirs h = once_those (clash bases ours theirs) (paths (both ours theirs)) (once_paths (both ours theirs) (both_rising theirs ours h))

pub clashes_few : (bases : List Tree) (ours theirs : Tree) → length (clashes bases ours theirs) ≤ length ours + length theirs
clashes_few bases ours theirs =
    let a : length (clashes bases ours theirs) ≤ length (paths (both ours theirs)) = length_those (clash bases ours theirs) (paths (both ours theirs)) in
    let b : length (paths (both ours theirs)) ≡ length (both ours theirs) = length_each (λ f. f.path) (both ours theirs) in
    let c : length (both ours theirs) ≤ length ours + length theirs = length_both theirs ours in
    omega arith

pub files_found : FilesFound
unfolding FilesFound
files_found t p b q h n =
    let d : p ≡ q → ⊥ = same_false p q n in
    (found_put_same p b t, found_put_other p b t q d, found_without_same p t h, found_without_other p t q d, put_rising p b t h, without_rising p t h)

pub one_tree : OneTree
unfolding OneTree
one_tree = (rising_alike, joined_rising)
