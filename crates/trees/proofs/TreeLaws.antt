-- Laws of trees: what is found after a file is put or taken out, the order of paths, how many files there are.
use Rattle.std.proofs.Common.{◌≡◌, ℕ, suc, ◌+◌, ◌≤◌, Bool, true, false, ◌&&◌, ◌⊎◌, List, [], ◌∷◌, length, Decides, sym, refl, ap, ◌∙◌, subst, inl, inr, ⊎_elim, arith}
use Rattle.std.proofs.lemmas.Bool.{true≢false, false≢true, and_parts, and_from}
use Rattle.pages.specs.Lists.{pick, every, same, earlier, none_of}
use Rattle.pages.proofs.ListLaws.{pick_both, pick_true, pick_false, same_test, In, every_in, every_from, each_in, in_each, Once, same_true, same_refl, same_from, same_tells, same_false, same_not, earlier_trans, earlier_not_same, earlier_one_way, earlier_else, once_length, length_each}
use Rattle.trees.specs.Tree.{File, Tree, found, alike, put, without, set, same_tree, paths, both, rising_paths}

-- ALIKE AND THE SAME ARE EQUALITY

pub alike_true : (xs ys : List (List ℕ)) → alike xs ys ≡ true → xs ≡ ys
unfolding alike
alike_true [] [] h = refl
alike_true [] (y ∷ ys) h = absurd (false≢true h)
alike_true (x ∷ xs) [] h = absurd (false≢true h)
alike_true (x ∷ xs) (y ∷ ys) h =
    let e : (same x y ≡ true) × (alike xs ys ≡ true) = and_parts (same x y) (alike xs ys) h in
    λ i. same_true x y e.0 i ∷ alike_true xs ys e.1 i

pub alike_refl : (xs : List (List ℕ)) → alike xs xs ≡ true
unfolding alike
alike_refl [] = refl
alike_refl (x ∷ xs) = and_from (same x x) (alike xs xs) (same_refl x) (alike_refl xs)

pub alike_from : (xs ys : List (List ℕ)) → xs ≡ ys → alike xs ys ≡ true
alike_from xs ys e = subst (λ z. alike xs z ≡ true) e (alike_refl xs)

pub alike_tells : (xs ys : List (List ℕ)) → Decides (alike xs ys) (xs ≡ ys)
alike_tells xs ys = (alike_true xs ys, alike_from xs ys)

pub alike_sym : (xs ys : List (List ℕ)) → alike xs ys ≡ alike ys xs
alike_sym xs ys =
    same_test (alike xs ys) (alike ys xs) (λ e. alike_from ys xs (sym (alike_true xs ys e))) (λ e. alike_from xs ys (sym (alike_true ys xs e)))

pub same_tree_true : (t u : Tree) → same_tree t u ≡ true → t ≡ u
unfolding same_tree
same_tree_true [] [] h = refl
same_tree_true [] (g ∷ gs) h = absurd (false≢true h)
same_tree_true (f ∷ fs) [] h = absurd (false≢true h)
same_tree_true (f ∷ fs) (g ∷ gs) h =
    let e : ((same f.path g.path && same f.bytes g.bytes) ≡ true) × (same_tree fs gs ≡ true) = and_parts _ (same_tree fs gs) h in
    let d : (same f.path g.path ≡ true) × (same f.bytes g.bytes ≡ true) = and_parts (same f.path g.path) (same f.bytes g.bytes) e.0 in
    λ i. record { path = same_true f.path g.path d.0 i; bytes = same_true f.bytes g.bytes d.1 i } ∷ same_tree_true fs gs e.1 i

pub same_tree_refl : (t : Tree) → same_tree t t ≡ true
unfolding same_tree
same_tree_refl [] = refl
same_tree_refl (f ∷ fs) = and_from _ (same_tree fs fs) (and_from _ _ (same_refl f.path) (same_refl f.bytes)) (same_tree_refl fs)

pub same_tree_tells : (t u : Tree) → Decides (same_tree t u) (t ≡ u)
same_tree_tells t u = (same_tree_true t u, λ e. subst (λ z. same_tree t z ≡ true) e (same_tree_refl t))

-- WHAT IS FOUND

-- by the same path, or not
pub found_here : (f : File) (fs : Tree) (p : List ℕ) → f.path ≡ p → found (f ∷ fs) p ≡ f.bytes ∷ []
unfolding found
found_here f fs p e = pick_true (same f.path p) _ _ (same_from f.path p e)

pub found_further : (f : File) (fs : Tree) (p : List ℕ) → (f.path ≡ p → ⊥) → found (f ∷ fs) p ≡ found fs p
unfolding found
found_further f fs p n = pick_false (same f.path p) _ _ (same_not f.path p n)

-- none, or one
pub found_one : (t : Tree) (p : List ℕ) → (found t p ≡ []) ⊎ ((b : List ℕ) × (found t p ≡ b ∷ []))
unfolding found
found_one [] p = inl refl
found_one (f ∷ fs) p =
    pick_both (λ x. (x ≡ []) ⊎ ((b : List ℕ) × (x ≡ b ∷ []))) (same f.path p) (f.bytes ∷ []) (found fs p) (λ _. inr (f.bytes, refl)) (λ _. found_one fs p)

pub found_in : (t : Tree) (p : List ℕ) (b : List ℕ) (bs : List (List ℕ)) → found t p ≡ b ∷ bs → In p (paths t)
unfolding found
found_in [] p b bs h = absurd (true≢false (ap none_of h))
found_in (f ∷ fs) p b bs h =
    pick_both (λ x. x ≡ b ∷ bs → In p (paths (f ∷ fs))) (same f.path p) (f.bytes ∷ []) (found fs p) (λ e _. inl (same_true f.path p e)) (λ _ k. inr (found_in fs p b bs k)) h

pub found_out : (t : Tree) (p : List ℕ) → (In p (paths t) → ⊥) → found t p ≡ []
unfolding found
found_out [] p n = refl
found_out (f ∷ fs) p n = found_further f fs p (λ e. n (inl e)) ∙ found_out fs p (λ i. n (inr i))

pub in_found : (t : Tree) (p : List ℕ) → In p (paths t) → found t p ≡ [] → ⊥
unfolding found
in_found [] p i h = i
in_found (f ∷ fs) p i h =
    pick_both (λ x. x ≡ [] → ⊥) (same f.path p) (f.bytes ∷ []) (found fs p) (λ _ k. false≢true (ap none_of k))
    (λ n k. ⊎_elim (λ e. same_false f.path p n e) (λ j. in_found fs p j k) i) h

-- PUT

pub found_put_same : (p b : List ℕ) (t : Tree) → found (put p b t) p ≡ b ∷ []
unfolding put found
found_put_same p b [] = pick_true (same p p) _ _ (same_refl p)
found_put_same p b (f ∷ fs) =
    pick_both (λ u. found u p ≡ b ∷ []) (same p f.path) _ _ (λ _. found_here (record { path = p; bytes = b }) fs p refl)
    (λ n. pick_both (λ u. found u p ≡ b ∷ []) (earlier p f.path) _ _ (λ _. found_here (record { path = p; bytes = b }) (f ∷ fs) p refl)
    (λ _. found_further f (put p b fs) p (λ e. same_false p f.path n (sym e)) ∙ found_put_same p b fs))

pub found_behind : (f : File) (t u : Tree) (q : List ℕ) → found t q ≡ found u q → found (f ∷ t) q ≡ found (f ∷ u) q
unfolding found
found_behind f t u q e = ap (λ x. pick (same f.path q) (f.bytes ∷ []) x) e

pub found_put_other : (p b : List ℕ) (t : Tree) (q : List ℕ) → (p ≡ q → ⊥) → found (put p b t) q ≡ found t q
unfolding put
found_put_other p b [] q n = found_further (record { path = p; bytes = b }) [] q n
found_put_other p b (f ∷ fs) q n =
    pick_both (λ u. found u q ≡ found (f ∷ fs) q) (same p f.path) _ _
    (λ e. found_further (record { path = p; bytes = b }) fs q n ∙ sym (found_further f fs q (λ k. n (same_true p f.path e ∙ k))))
    (λ _. pick_both (λ u. found u q ≡ found (f ∷ fs) q) (earlier p f.path) _ _ (λ _. found_further (record { path = p; bytes = b }) (f ∷ fs) q n)
    (λ _. found_behind f (put p b fs) fs q (found_put_other p b fs q n)))

-- WITHOUT

pub found_without_other : (p : List ℕ) (t : Tree) (q : List ℕ) → (p ≡ q → ⊥) → found (without p t) q ≡ found t q
unfolding without
found_without_other p [] q n = refl
found_without_other p (f ∷ fs) q n =
    pick_both (λ u. found u q ≡ found (f ∷ fs) q) (same p f.path) _ _
    (λ e. sym (found_further f fs q (λ k. n (same_true p f.path e ∙ k))))
    (λ _. found_behind f (without p fs) fs q (found_without_other p fs q n))

-- RISING PATHS

pub rising_first : (f : File) (fs : Tree) → rising_paths (f ∷ fs) ≡ true → (p : List ℕ) → In p (paths fs) → earlier f.path p ≡ true
unfolding rising_paths
rising_first f fs h p i =
    let r : (g : File) × In g fs × (g.path ≡ p) = each_in (λ g. g.path) fs p i in
    subst (λ q. earlier f.path q ≡ true) r.2 (every_in (λ g. earlier f.path g.path) fs (and_parts _ (rising_paths fs) h).0 r.0 r.1)

pub rising_rest : (f : File) (fs : Tree) → rising_paths (f ∷ fs) ≡ true → rising_paths fs ≡ true
unfolding rising_paths
rising_rest f fs h = (and_parts _ (rising_paths fs) h).1

pub rising_from : (f : File) (fs : Tree) → ((p : List ℕ) → In p (paths fs) → earlier f.path p ≡ true) → rising_paths fs ≡ true → rising_paths (f ∷ fs) ≡ true
unfolding rising_paths
rising_from f fs h k =
    and_from _ (rising_paths fs) (every_from (λ g. earlier f.path g.path) fs (λ g i. h g.path (in_each (λ g. g.path) fs g i))) k

pub once_paths : (t : Tree) → rising_paths t ≡ true → Once (paths t)
once_paths [] h = tt
once_paths (f ∷ fs) h = (λ i. earlier_not_same f.path f.path (rising_first f fs h f.path i) refl, once_paths fs (rising_rest f fs h))

pub found_without_same : (p : List ℕ) (t : Tree) → rising_paths t ≡ true → found (without p t) p ≡ []
unfolding without
found_without_same p [] h = found_out [] p (λ i. i)
found_without_same p (f ∷ fs) h =
    pick_both (λ u. found u p ≡ []) (same p f.path) _ _
    (λ e. found_out fs p (λ i. (once_paths (f ∷ fs) h).0 (subst (λ q. In q (paths fs)) (same_true p f.path e) i)))
    (λ n. found_further f (without p fs) p (λ e. same_false p f.path n (sym e)) ∙ found_without_same p fs (rising_rest f fs h))

pub paths_put : (p b : List ℕ) (t : Tree) (q : List ℕ) → In q (paths (put p b t)) → (q ≡ p) ⊎ In q (paths t)
unfolding put
paths_put p b [] q i = ⊎_elim (λ e. inl (sym e)) (λ k. absurd k) i
paths_put p b (f ∷ fs) q i =
    pick_both (λ u. In q (paths u) → (q ≡ p) ⊎ In q (paths (f ∷ fs))) (same p f.path) _ _
    (λ _. elim [ inl e ↦ inl (sym e) | inr k ↦ inr (inr k) ])
    (λ _. pick_both (λ u. In q (paths u) → (q ≡ p) ⊎ In q (paths (f ∷ fs))) (earlier p f.path) _ _
    (λ _. elim [ inl e ↦ inl (sym e) | inr k ↦ inr k ])
    (λ _. elim [ inl e ↦ inr (inl e) | inr k ↦ ⊎_elim (λ e. inl e) (λ l. inr (inr l)) (paths_put p b fs q k) ])) i

pub put_rising : (p b : List ℕ) (t : Tree) → rising_paths t ≡ true → rising_paths (put p b t) ≡ true
unfolding put
put_rising p b [] h = rising_from (record { path = p; bytes = b }) [] (λ q i. absurd i) h
put_rising p b (f ∷ fs) h =
    pick_both (λ u. rising_paths u ≡ true) (same p f.path) _ _
    (λ e. rising_from (record { path = p; bytes = b }) fs
    (λ q i. subst (λ x. earlier x q ≡ true) (sym (same_true p f.path e)) (rising_first f fs h q i)) (rising_rest f fs h))
    (λ n. pick_both (λ u. rising_paths u ≡ true) (earlier p f.path) _ _
    (λ e. rising_from (record { path = p; bytes = b }) (f ∷ fs)
    (λ q. elim [ inl c ↦ subst (λ x. earlier p x ≡ true) c e | inr k ↦ earlier_trans p f.path q e (rising_first f fs h q k) ]) h)
    (λ k. rising_from f (put p b fs)
    (λ q i. ⊎_elim (λ e. subst (λ x. earlier f.path x ≡ true) (sym e) (earlier_else p f.path n k)) (λ l. rising_first f fs h q l) (paths_put p b fs q i))
    (put_rising p b fs (rising_rest f fs h))))

pub paths_without : (p : List ℕ) (t : Tree) (q : List ℕ) → In q (paths (without p t)) → In q (paths t)
unfolding without
paths_without p [] q i = i
paths_without p (f ∷ fs) q i =
    pick_both (λ u. In q (paths u) → In q (paths (f ∷ fs))) (same p f.path) _ _ (λ _ k. inr k) (λ _. elim [ inl e ↦ inl e | inr k ↦ inr (paths_without p fs q k) ]) i

pub without_rising : (p : List ℕ) (t : Tree) → rising_paths t ≡ true → rising_paths (without p t) ≡ true
unfolding without
without_rising p [] h = h
without_rising p (f ∷ fs) h =
    pick_both (λ u. rising_paths u ≡ true) (same p f.path) _ _ (λ _. rising_rest f fs h)
    (λ _. rising_from f (without p fs) (λ q i. rising_first f fs h q (paths_without p fs q i)) (without_rising p fs (rising_rest f fs h)))

-- SET

pub found_set_same : (p : List ℕ) (bs : List (List ℕ)) (t : Tree) → rising_paths t ≡ true → length bs ≤ 1 → found (set p bs t) p ≡ bs
unfolding set
found_set_same p [] t h l = found_without_same p t h
found_set_same p (b ∷ []) t h l = found_put_same p b t
found_set_same p (b ∷ c ∷ bs) t h l = absurd (omega arith)

pub found_set_other : (p : List ℕ) (bs : List (List ℕ)) (t : Tree) (q : List ℕ) → (p ≡ q → ⊥) → found (set p bs t) q ≡ found t q
unfolding set
found_set_other p [] t q n = found_without_other p t q n
found_set_other p (b ∷ bs) t q n = found_put_other p b t q n

pub set_rising : (p : List ℕ) (bs : List (List ℕ)) (t : Tree) → rising_paths t ≡ true → rising_paths (set p bs t) ≡ true
unfolding set
set_rising p [] t h = without_rising p t h
set_rising p (b ∷ bs) t h = put_rising p b t h

-- LENGTHS

pub length_put_new : (p b : List ℕ) (t : Tree) → found t p ≡ [] → length (put p b t) ≡ suc (length t)
unfolding put
length_put_new p b [] h = refl
length_put_new p b (f ∷ fs) h =
    let away : f.path ≡ p → ⊥ = λ e. in_found (f ∷ fs) p (inl e) h in
    pick_both (λ (u : Tree). length u ≡ suc (suc (length fs))) (same p f.path) _ _ (λ e. absurd (away (sym (same_true p f.path e))))
    (λ _. pick_both (λ (u : Tree). length u ≡ suc (suc (length fs))) (earlier p f.path) _ _ (λ _. refl)
    (λ _. ap suc (length_put_new p b fs (sym (found_further f fs p away) ∙ h))))

pub length_put_again : (p b : List ℕ) (t : Tree) → rising_paths t ≡ true → In p (paths t) → length (put p b t) ≡ length t
unfolding put
length_put_again p b [] h i = absurd i
length_put_again p b (f ∷ fs) h i =
    pick_both (λ (u : Tree). length u ≡ suc (length fs)) (same p f.path) _ _ (λ _. refl)
    (λ n. let behind : In p (paths fs) = ⊎_elim (λ e. absurd (same_false p f.path n (sym e))) (λ k. k) i in
    pick_both (λ (u : Tree). length u ≡ suc (length fs)) (earlier p f.path) _ _
    (λ e. absurd (true≢false (sym e ∙ earlier_one_way f.path p (rising_first f fs h p behind))))
    (λ _. ap suc (length_put_again p b fs (rising_rest f fs h) behind)))

pub length_without : (p : List ℕ) (t : Tree) → length (without p t) ≤ length t
unfolding without
length_without p [] = omega arith
length_without p (f ∷ fs) =
    let h : length (without p fs) ≤ length fs = length_without p fs in
    pick_both (λ (u : Tree). length u ≤ suc (length fs)) (same p f.path) _ _ (λ _. omega arith) (λ _. omega arith)

pub length_without_there : (p : List ℕ) (t : Tree) → In p (paths t) → suc (length (without p t)) ≡ length t
unfolding without
length_without_there p [] i = absurd i
length_without_there p (f ∷ fs) i =
    pick_both (λ (u : Tree). suc (length u) ≡ suc (length fs)) (same p f.path) _ _ (λ _. refl)
    (λ n. ap suc (length_without_there p fs (⊎_elim (λ e. absurd (same_false p f.path n (sym e))) (λ k. k) i)))

-- a tree whose paths are all in another has no more files
pub length_within : (t u : Tree) → rising_paths t ≡ true → rising_paths u ≡ true → ((p : List ℕ) → In p (paths t) → In p (paths u)) → length t ≤ length u
length_within t u h k f =
    let l : length (paths t) ≤ length (paths u) = once_length same same_tells (paths t) (paths u) (once_paths t h) (once_paths u k) f in
    let a : length (paths t) ≡ length t = length_each (λ f. f.path) t in
    let b : length (paths u) ≡ length u = length_each (λ f. f.path) u in
    omega arith

-- ALL PATHS OF TWO

pub in_put_other : (p b : List ℕ) (t : Tree) (q : List ℕ) → In q (paths t) → In q (paths (put p b t))
unfolding put
in_put_other p b [] q i = absurd i
in_put_other p b (f ∷ fs) q i =
    pick_both (λ u. In q (paths u)) (same p f.path) _ _
    (λ e. ⊎_elim (λ c. inl (same_true p f.path e ∙ c)) (λ k. inr k) i)
    (λ _. pick_both (λ u. In q (paths u)) (earlier p f.path) _ _ (λ _. inr i) (λ _. ⊎_elim (λ c. inl c) (λ k. inr (in_put_other p b fs q k)) i))

pub in_put_same : (p b : List ℕ) (t : Tree) → In p (paths (put p b t))
in_put_same p b t = found_in (put p b t) p b [] (found_put_same p b t)

pub in_both_left : (u t : Tree) (p : List ℕ) → In p (paths t) → In p (paths (both t u))
unfolding both
in_both_left [] t p i = i
in_both_left (f ∷ fs) t p i = in_both_left fs (put f.path f.bytes t) p (in_put_other f.path f.bytes t p i)

pub in_both_right : (u t : Tree) (p : List ℕ) → In p (paths u) → In p (paths (both t u))
unfolding both
in_both_right [] t p i = absurd i
in_both_right (f ∷ fs) t p (inl e) =
    in_both_left fs (put f.path f.bytes t) p (subst (λ q. In q (paths (put f.path f.bytes t))) e (in_put_same f.path f.bytes t))
in_both_right (f ∷ fs) t p (inr i) = in_both_right fs (put f.path f.bytes t) p i

pub both_in : (u t : Tree) (p : List ℕ) → In p (paths (both t u)) → In p (paths t) ⊎ In p (paths u)
unfolding both
both_in [] t p i = inl i
both_in (f ∷ fs) t p i =
    ⊎_elim (λ k. ⊎_elim (λ e. inr (inl (sym e))) (λ l. inl l) (paths_put f.path f.bytes t p k)) (λ k. inr (inr k)) (both_in fs (put f.path f.bytes t) p i)

pub both_rising : (u t : Tree) → rising_paths t ≡ true → rising_paths (both t u) ≡ true
unfolding both
both_rising [] t h = h
both_rising (f ∷ fs) t h = both_rising fs (put f.path f.bytes t) (put_rising f.path f.bytes t h)

pub paths_alike : (t u : Tree) → ((p : List ℕ) → found t p ≡ found u p) → (p : List ℕ) → In p (paths t) → In p (paths u)
paths_alike t u e p i = ⊎_elim (λ n. absurd (in_found t p i (e p ∙ n))) (λ r. found_in u p r.0 [] r.1) (found_one u p)

-- two trees that have the same at every path are one
pub rising_alike : (t u : Tree) → rising_paths t ≡ true → rising_paths u ≡ true → ((p : List ℕ) → found t p ≡ found u p) → t ≡ u
rising_alike [] [] h k e = refl
rising_alike [] (g ∷ gs) h k e = absurd (paths_alike (g ∷ gs) [] (λ p. sym (e p)) g.path (inl refl))
rising_alike (g ∷ gs) [] h k e = absurd (paths_alike (g ∷ gs) [] e g.path (inl refl))
rising_alike (f ∷ fs) (g ∷ gs) h k e =
    let first : f.path ≡ g.path = one_first (paths_alike (f ∷ fs) (g ∷ gs) e f.path (inl refl)) (paths_alike (g ∷ gs) (f ∷ fs) (λ p. sym (e p)) g.path (inl refl)) in
    let held : f.bytes ∷ [] ≡ g.bytes ∷ [] = sym (found_here f fs g.path first) ∙ (e g.path ∙ found_here g gs g.path refl) in
    let bytes_are : f.bytes ≡ g.bytes = cc in
    let rest : fs ≡ gs = rising_alike fs gs (rising_rest f fs h) (rising_rest g gs k) (λ p. behind p first (same g.path p) refl) in
    λ i. record { path = first i; bytes = bytes_are i } ∷ rest i
  where
    one_first : In f.path (paths (g ∷ gs)) → In g.path (paths (f ∷ fs)) → f.path ≡ g.path
    one_first (inl c) i = sym c
    one_first (inr c) (inl i) = i
    one_first (inr c) (inr i) =
        absurd (true≢false (sym (rising_first f fs h g.path i) ∙ earlier_one_way g.path f.path (rising_first g gs k f.path c)))

    behind : (p : List ℕ) → f.path ≡ g.path → (b : Bool) → same g.path p ≡ b → found fs p ≡ found gs p
    behind p first true s =
        let at : g.path ≡ p = same_true g.path p s in
        found_out fs p (λ i. (once_paths (f ∷ fs) h).0 (subst (λ q. In q (paths fs)) (sym (first ∙ at)) i))
        ∙ sym (found_out gs p (λ i. (once_paths (g ∷ gs) k).0 (subst (λ q. In q (paths gs)) (sym at) i)))
    behind p first false s =
        let off : g.path ≡ p → ⊥ = same_false g.path p s in
        sym (found_further f fs p (λ c. off (sym first ∙ c))) ∙ (e p ∙ found_further g gs p off)

-- WHAT HOLDS OF EVERY FILE

pub put_every : (q : File → Bool) (p b : List ℕ) (t : Tree) → q (record { path = p; bytes = b }) ≡ true → every q t ≡ true → every q (put p b t) ≡ true
unfolding put
put_every q p b [] h k = and_from _ _ h k
put_every q p b (f ∷ fs) h k =
    let a : (q f ≡ true) × (every q fs ≡ true) = and_parts (q f) (every q fs) k in
    pick_both (λ u. every q u ≡ true) (same p f.path) _ _ (λ _. and_from _ _ h a.1)
    (λ _. pick_both (λ u. every q u ≡ true) (earlier p f.path) _ _ (λ _. and_from _ _ h k) (λ _. and_from _ _ a.0 (put_every q p b fs h a.1)))

pub without_every : (q : File → Bool) (p : List ℕ) (t : Tree) → every q t ≡ true → every q (without p t) ≡ true
unfolding without
without_every q p [] k = k
without_every q p (f ∷ fs) k =
    let a : (q f ≡ true) × (every q fs ≡ true) = and_parts (q f) (every q fs) k in
    pick_both (λ u. every q u ≡ true) (same p f.path) _ _ (λ _. a.1) (λ _. and_from _ _ a.0 (without_every q p fs a.1))

pub set_every : (q : File → Bool) (p : List ℕ) (bs : List (List ℕ)) (t : Tree) → every (λ b. q (record { path = p; bytes = b })) bs ≡ true → every q t ≡ true →
    every q (set p bs t) ≡ true
unfolding set
set_every q p [] t h k = without_every q p t k
set_every q p (b ∷ bs) t h k = put_every q p b t (and_parts _ _ h).0 k

pub found_every : (q : File → Bool) (t : Tree) (p : List ℕ) → every q t ≡ true → every (λ b. q (record { path = p; bytes = b })) (found t p) ≡ true
unfolding found
found_every q [] p k = refl
found_every q (f ∷ fs) p k =
    let a : (q f ≡ true) × (every q fs ≡ true) = and_parts (q f) (every q fs) k in
    pick_both (λ v. every (λ b. q (record { path = p; bytes = b })) v ≡ true) (same f.path p) _ _
    (λ e. and_from _ _ (subst (λ r. q (record { path = r; bytes = f.bytes }) ≡ true) (same_true f.path p e) a.0) refl) (λ _. found_every q fs p a.1)

pub length_put : (p b : List ℕ) (t : Tree) → length (put p b t) ≤ suc (length t)
unfolding put
length_put p b [] = omega arith
length_put p b (f ∷ fs) =
    let h : length (put p b fs) ≤ suc (length fs) = length_put p b fs in
    pick_both (λ (u : Tree). length u ≤ suc (suc (length fs))) (same p f.path) _ _ (λ _. omega arith)
    (λ _. pick_both (λ (u : Tree). length u ≤ suc (suc (length fs))) (earlier p f.path) _ _ (λ _. omega arith) (λ _. omega arith))

pub length_both : (u t : Tree) → length (both t u) ≤ length t + length u
unfolding both
length_both [] t = omega arith
length_both (f ∷ fs) t =
    let h : length (both (put f.path f.bytes t) fs) ≤ length (put f.path f.bytes t) + length fs = length_both fs (put f.path f.bytes t) in
    let k : length (put f.path f.bytes t) ≤ suc (length t) = length_put f.path f.bytes t in
    omega arith
