-- The marks of two trees, found by going through both side by side.
use Rattle.std.proofs.Common.{◌≡◌, ℕ, zero, suc, ◌+◌, ◌≤◌, Bool, true, false, ◌&&◌, List, [], ◌∷◌, ◌++◌, length, sym, refl, ap, ◌∙◌, subst, ap₂, inl, inr, ⊎_elim, arith}
use Rattle.pages.specs.Lists.{pick, flat, same, earlier, none_of}
use Rattle.pages.proofs.ListLaws.{In, pick_true, pick_false, flat_alike, same_true, same_not, same_from, earlier_trans, earlier_not_same, earlier_one_way, earlier_else}
use Rattle.trees.specs.Tree.{File, Tree, found, alike, put, both, paths, mark, rising_paths}
use Rattle.trees.proofs.TreeLaws.{found_here, found_further, found_out, rising_first, rising_rest, both_in}

-- the marks of two trees side by side
unfoldable pub merged : ℕ → Tree → Tree → List (List ℕ)
merged zero t u = []
merged (suc n) [] [] = []
merged (suc n) [] (g ∷ gs) = (1 ∷ g.path) ∷ merged n [] gs
merged (suc n) (f ∷ fs) [] = (3 ∷ f.path) ∷ merged n fs []
merged (suc n) (f ∷ fs) (g ∷ gs) =
    pick (same f.path g.path) (pick (same f.bytes g.bytes) (merged n fs gs) ((2 ∷ g.path) ∷ merged n fs gs))
    (pick (earlier f.path g.path) ((3 ∷ f.path) ∷ merged n fs (g ∷ gs)) ((1 ∷ g.path) ∷ merged n (f ∷ fs) gs))

abbrev Later : List ℕ → Tree → Type 0
Later p t = (q : List ℕ) → In q (paths t) → earlier p q ≡ true

-- a file before all others stays first
both_front : (h : File) (u t : Tree) → Later h.path u → both (h ∷ t) u ≡ h ∷ both t u
unfolding both put
both_front h [] t l = refl
both_front h (k ∷ ks) t l =
    let e : earlier h.path k.path ≡ true = l k.path (inl refl) in
    let n : same k.path h.path ≡ false = same_not k.path h.path (λ q. earlier_not_same h.path k.path e (sym q)) in
    ap (λ u. both u ks) (pick_false (same k.path h.path) _ _ n ∙ pick_false (earlier k.path h.path) _ _ (earlier_one_way h.path k.path e))
    ∙ both_front h ks (put k.path k.bytes t) (λ q i. l q (inr i))

-- the mark by what is found
abbrev mark_of : List (List ℕ) → List (List ℕ) → List ℕ → List (List ℕ)
mark_of a b p = pick (alike a b) [] ((pick (none_of a) 1 (pick (none_of b) 3 2) ∷ p) ∷ [])

mark_is : (t u : Tree) (p : List ℕ) (a b : List (List ℕ)) → found t p ≡ a → found u p ≡ b → mark t u p ≡ mark_of a b p
unfolding mark
mark_is t u p a b e f = ap₂ (λ x y. mark_of x y p) e f

none_before : (t : Tree) (p : List ℕ) → Later p t → found t p ≡ []
none_before t p l = found_out t p (λ i. earlier_not_same p p (l p i) refl)

-- behind the first path it makes no difference
behind : (f : File) (t : Tree) (p q : List ℕ) → f.path ≡ p → earlier p q ≡ true → found (f ∷ t) q ≡ found t q
behind f t p q e h = found_further f t q (λ c. earlier_not_same p q h (sym e ∙ c))

marks_behind : (t u t' u' : Tree) (p : List ℕ) → Later p t' → Later p u' →
    ((q : List ℕ) → earlier p q ≡ true → found t q ≡ found t' q) → ((q : List ℕ) → earlier p q ≡ true → found u q ≡ found u' q) →
    flat (mark t u) (paths (both t' u')) ≡ flat (mark t' u') (paths (both t' u'))
marks_behind t u t' u' p l m e f =
    flat_alike (mark t u) (mark t' u') (paths (both t' u'))
    (λ q i. let h : earlier p q ≡ true = ⊎_elim (λ k. l q k) (λ k. m q k) (both_in u' t' q i) in
    mark_is t u q (found t' q) (found u' q) (e q h) (f q h) ∙ sym (mark_is t' u' q (found t' q) (found u' q) refl refl))

later_rest : (f : File) (fs : Tree) → rising_paths (f ∷ fs) ≡ true → Later f.path fs
later_rest f fs h q i = rising_first f fs h q i

later_all : (p : List ℕ) (f : File) (fs : Tree) → earlier p f.path ≡ true → rising_paths (f ∷ fs) ≡ true → Later p (f ∷ fs)
later_all p f fs e h q (inl c) = subst (λ x. earlier p x ≡ true) c e
later_all p f fs e h q (inr i) = earlier_trans p f.path q e (rising_first f fs h q i)

pub marks_merged : (n : ℕ) (t u : Tree) → rising_paths t ≡ true → rising_paths u ≡ true → length t + length u ≤ n → merged n t u ≡ flat (mark t u) (paths (both t u))
unfolding merged both put alike
marks_merged zero [] [] r s l = refl
marks_merged zero (f ∷ fs) u r s l = absurd (omega arith)
marks_merged zero [] (g ∷ gs) r s l = absurd (omega arith)
marks_merged (suc n) [] [] r s l = refl
marks_merged (suc n) [] (g ∷ gs) r s l =
    let p = g.path in
    let first : mark [] (g ∷ gs) p ≡ (1 ∷ p) ∷ [] = (mark_is [] (g ∷ gs) p [] (g.bytes ∷ []) (found_out [] p (λ i. i)) (found_here g gs p refl)) in
    let all : both (put p g.bytes []) gs ≡ g ∷ both [] gs = (both_front g gs [] (later_rest g gs s)) in
    ap (λ u. (1 ∷ p) ∷ u) (marks_merged n [] gs r (rising_rest g gs s) (omega arith))
    ∙ ap (λ u. (1 ∷ p) ∷ u) (sym (marks_behind [] (g ∷ gs) [] gs p (λ q i. absurd i) (later_rest g gs s) (λ q h. refl) (λ q h. behind g gs p q refl h)))
    ∙ ap (λ u. u ++ flat (mark [] (g ∷ gs)) (paths (both [] gs))) (sym first) ∙ ap (λ u. flat (mark [] (g ∷ gs)) (paths u)) (sym all)
marks_merged (suc n) (f ∷ fs) [] r s l =
    let p = f.path in
    let first : mark (f ∷ fs) [] p ≡ (3 ∷ p) ∷ [] = (mark_is (f ∷ fs) [] p (f.bytes ∷ []) [] (found_here f fs p refl) (found_out [] p (λ i. i))) in
    ap (λ u. (3 ∷ p) ∷ u) (marks_merged n fs [] (rising_rest f fs r) s (omega arith))
    ∙ ap (λ u. (3 ∷ p) ∷ u) (sym (marks_behind (f ∷ fs) [] fs [] p (later_rest f fs r) (λ q i. absurd i) (λ q h. behind f fs p q refl h) (λ q h. refl)))
    ∙ ap (λ u. u ++ flat (mark (f ∷ fs) []) (paths fs)) (sym first)
marks_merged (suc n) (f ∷ fs) (g ∷ gs) r s l =
    go (same f.path g.path) (earlier f.path g.path) refl refl
    (marks_merged n fs gs (rising_rest f fs r) (rising_rest g gs s) (omega arith))
    (marks_merged n fs (g ∷ gs) (rising_rest f fs r) s (omega arith))
    (marks_merged n (f ∷ fs) gs r (rising_rest g gs s) (omega arith))
  where
    bytes_mark : (b : Bool) (p : List ℕ) (ms : List (List ℕ)) → pick b ms ((2 ∷ p) ∷ ms) ≡ pick (b && true) [] ((2 ∷ p) ∷ []) ++ ms
    bytes_mark true p ms = refl
    bytes_mark false p ms = refl

    go : (x y : Bool) → same f.path g.path ≡ x → earlier f.path g.path ≡ y →
        merged n fs gs ≡ flat (mark fs gs) (paths (both fs gs)) → merged n fs (g ∷ gs) ≡ flat (mark fs (g ∷ gs)) (paths (both fs (g ∷ gs))) →
        merged n (f ∷ fs) gs ≡ flat (mark (f ∷ fs) gs) (paths (both (f ∷ fs) gs)) →
        pick x (pick (same f.bytes g.bytes) (merged n fs gs) ((2 ∷ g.path) ∷ merged n fs gs))
        (pick y ((3 ∷ f.path) ∷ merged n fs (g ∷ gs)) ((1 ∷ g.path) ∷ merged n (f ∷ fs) gs))
        ≡ flat (mark (f ∷ fs) (g ∷ gs)) (paths (both (put g.path g.bytes (f ∷ fs)) gs))
    go true y hx hy i1 i2 i3 =
        let p = g.path in
        let e : f.path ≡ p = same_true f.path p hx in
        let lf : Later p fs = λ q i. subst (λ z. earlier z q ≡ true) e (rising_first f fs r q i) in
        let first : mark (f ∷ fs) (g ∷ gs) p ≡ pick (same f.bytes g.bytes && true) [] ((2 ∷ p) ∷ []) =
        (mark_is (f ∷ fs) (g ∷ gs) p (f.bytes ∷ []) (g.bytes ∷ []) (found_here f fs p e) (found_here g gs p refl)) in
        let all : both (put p g.bytes (f ∷ fs)) gs ≡ g ∷ both fs gs =
        (ap (λ u. both u gs) (pick_true (same p f.path) _ _ (same_from p f.path (sym e))) ∙ both_front g gs fs (later_rest g gs s)) in
        ap (λ u. pick (same f.bytes g.bytes) u ((2 ∷ p) ∷ u))
        (i1 ∙ sym (marks_behind (f ∷ fs) (g ∷ gs) fs gs p lf (later_rest g gs s) (λ q h. behind f fs p q e h) (λ q h. behind g gs p q refl h)))
        ∙ bytes_mark (same f.bytes g.bytes) p (flat (mark (f ∷ fs) (g ∷ gs)) (paths (both fs gs)))
        ∙ ap (λ u. u ++ flat (mark (f ∷ fs) (g ∷ gs)) (paths (both fs gs))) (sym first) ∙ ap (λ u. flat (mark (f ∷ fs) (g ∷ gs)) (paths u)) (sym all)
    go false true hx hy i1 i2 i3 =
        let p = f.path in
        let lu : Later p (g ∷ gs) = later_all p g gs hy s in
        let first : mark (f ∷ fs) (g ∷ gs) p ≡ (3 ∷ p) ∷ [] =
        (mark_is (f ∷ fs) (g ∷ gs) p (f.bytes ∷ []) [] (found_here f fs p refl) (none_before (g ∷ gs) p lu)) in
        let all : both (put g.path g.bytes (f ∷ fs)) gs ≡ f ∷ both fs (g ∷ gs) = both_front f (g ∷ gs) fs lu in
        ap (λ u. (3 ∷ p) ∷ u) (i2 ∙ sym (marks_behind (f ∷ fs) (g ∷ gs) fs (g ∷ gs) p (later_rest f fs r) lu (λ q h. behind f fs p q refl h) (λ q h. refl)))
        ∙ ap (λ u. u ++ flat (mark (f ∷ fs) (g ∷ gs)) (paths (both fs (g ∷ gs)))) (sym first) ∙ ap (λ u. flat (mark (f ∷ fs) (g ∷ gs)) (paths u)) (sym all)
    go false false hx hy i1 i2 i3 =
        let p = g.path in
        let lt : Later p (f ∷ fs) = later_all p f fs (earlier_else f.path p hx hy) r in
        let first : mark (f ∷ fs) (g ∷ gs) p ≡ (1 ∷ p) ∷ [] =
        (mark_is (f ∷ fs) (g ∷ gs) p [] (g.bytes ∷ []) (none_before (f ∷ fs) p lt) (found_here g gs p refl)) in
        let d : same p f.path ≡ false = same_not p f.path (λ c. earlier_not_same p f.path (lt f.path (inl refl)) c) in
        let all : both (put p g.bytes (f ∷ fs)) gs ≡ g ∷ both (f ∷ fs) gs =
        (ap (λ u. both u gs) (pick_false (same p f.path) _ _ d ∙ pick_true (earlier p f.path) _ _ (lt f.path (inl refl))) ∙ both_front g gs (f ∷ fs) (later_rest g gs s)) in
        ap (λ u. (1 ∷ p) ∷ u) (i3 ∙ sym (marks_behind (f ∷ fs) (g ∷ gs) (f ∷ fs) gs p lt (later_rest g gs s) (λ q h. refl) (λ q h. behind g gs p q refl h)))
        ∙ ap (λ u. u ++ flat (mark (f ∷ fs) (g ∷ gs)) (paths (both (f ∷ fs) gs))) (sym first) ∙ ap (λ u. flat (mark (f ∷ fs) (g ∷ gs)) (paths u)) (sym all)
