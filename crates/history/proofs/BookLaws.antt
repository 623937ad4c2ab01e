-- Laws of the book: what stands at a number, where a commit is placed, that ids tell commits apart.
use Rattle.std.proofs.Common.{◌≡◌, ℕ, zero, suc, ◌+◌, ◌<◌, ◌≤◌, true, not, ◌&&◌, eqb, ltb, [], ◌∷◌, ◌++◌, length, Decides, sym, refl, ap, ◌∙◌, subst, inl, inr, ⊎_elim, append-nil, arith, length-append}
use Rattle.std.proofs.lemmas.Bool.{true≢false, and_parts, and_from, not-true, eqb-true, eq-eqb, ltb-true, ltb-false, cases_lt}
use Rattle.pages.specs.Lists.{or, every, same}
use Rattle.pages.proofs.ListLaws.{pick_both, or_cases, In, in_left, in_right, in_append, every_in, Once, once_end, same_true, same_refl}
use Rattle.trees.specs.Tree.{same_tree}
use Rattle.trees.proofs.TreeLaws.{same_tree_true, same_tree_refl}
use Rattle.history.specs.Book.{Commit, Book, nth, no_commit, id, up_to, clear, same_commit, place, noted}
use Rattle.history.specs.Laws.{Grown, IdsTell}

-- WHAT STANDS AT A NUMBER

pub nth_front : (b more : Book) (k : ℕ) → k < length b → nth (b ++ more) k ≡ nth b k
unfolding nth
nth_front [] more k l = absurd (omega arith)
nth_front (c ∷ b) more zero l = refl
nth_front (c ∷ b) more (suc k) l = nth_front b more k (omega arith)

pub nth_beyond : (b : Book) (k : ℕ) → length b ≤ k → nth b k ≡ no_commit
unfolding nth
nth_beyond [] k l = refl
nth_beyond (c ∷ b) zero l = absurd (omega arith)
nth_beyond (c ∷ b) (suc k) l = nth_beyond b k (omega arith)

pub nth_end : (b : Book) (c : Commit) → nth (b ++ (c ∷ [])) (length b) ≡ c
unfolding nth
nth_end [] c = refl
nth_end (d ∷ b) c = nth_end b c

pub nth_in : (b : Book) (k : ℕ) → k < length b → In (nth b k) b
unfolding nth
nth_in [] k l = absurd (omega arith)
nth_in (c ∷ b) zero l = inl refl
nth_in (c ∷ b) (suc k) l = inr (nth_in b k (omega arith))

pub length_more : (b : Book) (c : Commit) → length (b ++ (c ∷ [])) ≡ suc (length b)
length_more b c = let e : length (b ++ (c ∷ [])) ≡ length b + 1 = length-append b (c ∷ []) in omega arith

-- PARENTS

pub parent_lower : (b : Book) (k j : ℕ) → Grown b → In j (nth b k).parents → j < k
unfolding Grown
parent_lower b k j g i = ltb-true j k (every_in (λ h. ltb h k) (nth b k).parents (g k) j i)

pub parent_within : (b : Book) (k j : ℕ) → In j (nth b k).parents → k < length b
parent_within b k j i = ⊎_elim (λ l. l) (λ l. absurd (subst (λ (c : Commit). In j c.parents) (nth_beyond b k l) i)) (cases_lt k (length b))

-- NUMBERS UP TO ONE

pub in_up_to : (n k : ℕ) → k < n → In k (up_to n)
unfolding up_to
in_up_to zero k l = absurd (omega arith)
in_up_to (suc n) k l =
    ⊎_elim (λ h. in_left k (up_to n) (n ∷ []) (in_up_to n k h)) (λ h. in_right k (up_to n) (n ∷ []) (inl (omega arith))) (cases_lt k n)

pub up_to_in : (n k : ℕ) → In k (up_to n) → k < n
unfolding up_to
up_to_in zero k i = absurd i
up_to_in (suc n) k i =
    ⊎_elim (λ h. let l : k < n = up_to_in n k h in omega arith) (elim [ inl e ↦ let f : n ≡ k = e in omega arith | inr h ↦ absurd h ]) (in_append k (up_to n) (n ∷ []) i)

pub once_up_to : (n : ℕ) → Once (up_to n)
unfolding up_to
once_up_to zero = tt
once_up_to (suc n) = once_end (up_to n) n (once_up_to n) (λ i. let l : n < n = up_to_in n n i in omega arith)

pub length_up_to : (n : ℕ) → length (up_to n) ≡ n
unfolding up_to
length_up_to zero = refl
length_up_to (suc n) =
    let e : length (up_to n ++ (n ∷ [])) ≡ length (up_to n) + 1 = length-append (up_to n) (n ∷ []) in
    let h : length (up_to n) ≡ n = length_up_to n in
    omega arith

-- IDS

pub ids_tell : IdsTell
unfolding IdsTell clear
ids_tell sum b j k h lj lk s =
    let all : every (λ i. every (λ m. or (eqb i m) (not (same (id sum b i) (id sum b m)))) (up_to (length b))) (up_to (length b)) ≡ true = (and_parts _ _ h).0 in
    let row : every (λ m. or (eqb j m) (not (same (id sum b j) (id sum b m)))) (up_to (length b)) ≡ true =
    every_in (λ i. every (λ m. or (eqb i m) (not (same (id sum b i) (id sum b m)))) (up_to (length b))) (up_to (length b)) all j (in_up_to (length b) j lj) in
    let cell : or (eqb j k) (not (same (id sum b j) (id sum b k))) ≡ true =
    every_in (λ m. or (eqb j m) (not (same (id sum b j) (id sum b m)))) (up_to (length b)) row k (in_up_to (length b) k lk) in
    ⊎_elim (λ e. eqb-true j k e) (λ n. absurd (true≢false (sym s ∙ not-true (same (id sum b j) (id sum b k)) n))) (or_cases (eqb j k) _ cell)

-- THE SAME COMMIT, AND ITS PLACE

pub same_commit_true : (c d : Commit) → same_commit c d ≡ true → c ≡ d
unfolding same_commit
same_commit_true c d h =
    let a : ((same c.parents d.parents && same_tree c.tree d.tree) ≡ true) × ((eqb c.stamp d.stamp && same c.words d.words) ≡ true) = and_parts _ _ h in
    let l : (same c.parents d.parents ≡ true) × (same_tree c.tree d.tree ≡ true) = and_parts _ _ a.0 in
    let r : (eqb c.stamp d.stamp ≡ true) × (same c.words d.words ≡ true) = and_parts _ _ a.1 in
    λ i. record { parents = same_true _ _ l.0 i; tree = same_tree_true _ _ l.1 i; stamp = eqb-true _ _ r.0 i; words = same_true _ _ r.1 i }

pub same_commit_refl : (c : Commit) → same_commit c c ≡ true
unfolding same_commit
same_commit_refl c =
    and_from _ _ (and_from _ _ (same_refl c.parents) (same_tree_refl c.tree)) (and_from _ _ (eq-eqb c.stamp c.stamp refl) (same_refl c.words))

pub same_commit_tells : (c d : Commit) → Decides (same_commit c d) (c ≡ d)
same_commit_tells c d = (same_commit_true c d, λ e. subst (λ z. same_commit c z ≡ true) e (same_commit_refl c))

pub place_within : (c : Commit) (b : Book) → place c b ≤ length b
unfolding place
place_within c [] = omega arith
place_within c (d ∷ b) =
    let h : place c b ≤ length b = place_within c b in
    pick_both (λ (n : ℕ). n ≤ suc (length b)) (same_commit c d) 0 (suc (place c b)) (λ _. omega arith) (λ _. omega arith)

pub nth_place : (c : Commit) (b : Book) → place c b < length b → nth b (place c b) ≡ c
unfolding place nth
nth_place c [] l = absurd (omega arith)
nth_place c (d ∷ b) l =
    pick_both (λ (n : ℕ). n < suc (length b) → nth (d ∷ b) n ≡ c) (same_commit c d) 0 (suc (place c b)) (λ e _. sym (same_commit_true c d e)) (λ _ m. nth_place c b (omega arith)) l

pub place_new : (c : Commit) (b : Book) → length b ≤ place c b → In c b → ⊥
unfolding place
place_new c [] l i = i
place_new c (d ∷ b) l i =
    pick_both (λ (n : ℕ). suc (length b) ≤ n → ⊥) (same_commit c d) 0 (suc (place c b)) (λ _ m. omega arith)
    (λ n m. ⊎_elim (λ e. true≢false (sym ((same_commit_tells c d).1 (sym e)) ∙ n)) (λ k. place_new c b (omega arith) k) i) l

-- noting a commit: it is there already, or comes at the end
pub noted_either : (P : Book → Type 0) (c : Commit) (b : Book) → (place c b < length b → P b) → (place c b ≡ length b → P (b ++ (c ∷ []))) → P (noted c b)
noted_either P c b f g =
    pick_both P (ltb (place c b) (length b)) b (b ++ (c ∷ [])) (λ e. f (ltb-true _ _ e))
    (λ e. g (let l : length b ≤ place c b = ltb-false _ _ e in let m : place c b ≤ length b = place_within c b in omega arith))

pub noted_more : (c : Commit) (b : Book) → (more : Book) × (noted c b ≡ b ++ more)
noted_more c b = noted_either (λ z. (more : Book) × (z ≡ b ++ more)) c b (λ _. ([], sym (append-nil b))) (λ _. (c ∷ [], refl))

pub nth_noted : (c : Commit) (b : Book) → nth (noted c b) (place c b) ≡ c
nth_noted c b = noted_either (λ z. nth z (place c b) ≡ c) c b (λ l. nth_place c b l) (λ e. ap (λ k. nth (b ++ (c ∷ [])) k) e ∙ nth_end b c)

pub place_noted : (c : Commit) (b : Book) → place c b < length (noted c b)
place_noted c b =
    noted_either (λ z. place c b < length z) c b (λ l. l) (λ e. let m : length (b ++ (c ∷ [])) ≡ suc (length b) = length_more b c in omega arith)
