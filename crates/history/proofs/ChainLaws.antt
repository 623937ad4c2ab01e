-- The log of a book in which no commit has more than one parent is the chain from commit to parent. Assumes nothing.
use Rattle.std.proofs.Common.{◌≡◌, ℕ, zero, suc, ◌<◌, ◌≤◌, Bool, true, false, not, eqb, ◌⊎◌, List, [], ◌∷◌, length, sym, refl, ap, ◌∙◌, subst, inl, inr, arith}
use Rattle.std.proofs.lemmas.Bool.{not-true, not_from_false, eqb-true, eqb-false, ne_eqb, true≢false}
use Rattle.pages.specs.Lists.{those}
use Rattle.pages.proofs.ListLaws.{In, Once, once_those, those_in, in_those, false_unless}
use Rattle.history.specs.Book.{Book, Sum, nth, back, under, soonest, next_of, free, in_order}
use Rattle.history.specs.Laws.{Grown}
use Rattle.history.specs.Chain.{Single, chain_from, ChainLog}
use Rattle.history.proofs.BackLaws.{Comes, comes_self, comes_parent, comes_lower, back_in, in_back, once_back, once_only, comes_under, under_both}
use Rattle.history.proofs.BookLaws.{parent_lower}
use Rattle.history.proofs.LogLaws.{free_in, in_free, in_order_none, in_order_one}

-- some numbers are all that a commit comes from, each once
record From (b : Book) (k : ℕ) (ks : List ℕ) : Type 0 where
  once : Once ks
  all : (j : ℕ) → Comes b k j → In j ks
  only : (j : ℕ) → In j ks → Comes b k j

-- what comes from a commit is it, or comes from its one parent
comes_cases : (b : Book) (k j : ℕ) → Comes b k j → (k ≡ j) ⊎ ((i : ℕ) × In i (nth b k).parents × Comes b i j)
comes_cases b k j (zero, e) = inl e
comes_cases b k j (suc n, (i, h, s)) = inr (i, h, (n, s))

module _ (sum : Sum) (b : Book) (g : Grown b) (single : Single b) where
  -- only the commit itself is free among them
  one_free : (k : ℕ) (ks : List ℕ) → From b k ks → free b ks ≡ k ∷ []
  one_free k ks f =
      once_only (free b ks) k (once_those _ ks f.once)
      (in_free b ks k (f.all k (comes_self b k)) (λ x i n. false_unless (under b k x) (λ u. n (under_both b x k g (comes_under b x k g (f.only x i)) u))))
      (λ x i. go x (eqb k x) refl (free_in b ks x i))
    where
      go : (x : ℕ) (z : Bool) → eqb k x ≡ z → In x ks × ((y : ℕ) → In y ks → (y ≡ x → ⊥) → under b x y ≡ false) → x ≡ k
      go x true z fr = sym (eqb-true k x z)
      go x false z fr = absurd (true≢false (sym (comes_under b x k g (f.only x fr.0)) ∙ fr.1 k (f.all k (comes_self b k)) (eqb-false k x z)))

  -- what is left without it: nothing, or all that its parent comes from
  left : (k p : ℕ) (ks : List ℕ) → From b k ks → (nth b k).parents ≡ p ∷ [] → From b p (those (λ j. not (eqb k j)) ks)
  left k p ks f e =
      record {
        once = once_those (λ j. not (eqb k j)) ks f.once;
        all = λ j c. in_those (λ j. not (eqb k j)) ks j (f.all j (comes_parent b k p j (subst (In p) (sym e) (inl refl)) c)) (not_from_false (eqb k j) (ne_eqb k j (λ z. lower j c z)));
        only = λ j i. let m = those_in (λ j. not (eqb k j)) ks j i in go j (comes_cases b k j (f.only j m.0)) (eqb-false k j (not-true (eqb k j) m.1));
      }
    where
      lower : (j : ℕ) → Comes b p j → k ≡ j → ⊥
      lower j c z = let l : j ≤ p = comes_lower b p j g c in let m : p < k = parent_lower b k p g (subst (In p) (sym e) (inl refl)) in absurd (omega (arith, z))

      go : (j : ℕ) → (k ≡ j) ⊎ ((i : ℕ) × In i (nth b k).parents × Comes b i j) → (k ≡ j → ⊥) → Comes b p j
      go j (inl z) n = absurd (n z)
      go j (inr (i, h, c)) n = subst (λ x. Comes b x j) (only_parent i (subst (In i) e h)) c
        where
          only_parent : (i : ℕ) → In i (p ∷ []) → i ≡ p
          only_parent i (inl z) = sym z
          only_parent i (inr z) = absurd z

  none_left : (k : ℕ) (ks : List ℕ) → From b k ks → (nth b k).parents ≡ [] → those (λ j. not (eqb k j)) ks ≡ []
  none_left k ks f e = empty (those (λ j. not (eqb k j)) ks) (λ j i. let m = those_in (λ j. not (eqb k j)) ks j i in go j (comes_cases b k j (f.only j m.0)) (eqb-false k j (not-true (eqb k j) m.1)))
    where
      empty : (xs : List ℕ) → ((x : ℕ) → In x xs → ⊥) → xs ≡ []
      empty [] h = refl
      empty (x ∷ xs) h = absurd (h x (inl refl))

      go : (j : ℕ) → (k ≡ j) ⊎ ((i : ℕ) × In i (nth b k).parents × Comes b i j) → (k ≡ j → ⊥) → ⊥
      go j (inl z) n = n z
      go j (inr (i, h, c)) n = absurd (subst (In i) e h)

  chained : (n k : ℕ) (ks : List ℕ) → From b k ks → in_order n sum b ks ≡ chain_from n b (k ∷ [])
  unfolding in_order next_of soonest chain_from
  chained zero k ks f = refl
  chained (suc n) k ks f =
      in_order_one n sum b ks k (ap (next_of sum b) (one_free k ks f)) ∙ ap (λ x. k ∷ x) (go (nth b k).parents refl (single k) (λ p. chained n p))
    where
      go : (ps : List ℕ) → (nth b k).parents ≡ ps → length ps ≤ 1 → ((p : ℕ) (js : List ℕ) → From b p js → in_order n sum b js ≡ chain_from n b (p ∷ [])) →
          in_order n sum b (those (λ j. not (eqb k j)) ks) ≡ chain_from n b (nth b k).parents
      go [] e few more = ap (in_order n sum b) (none_left k ks f e) ∙ in_order_none n sum b ∙ sym (no_more n) ∙ ap (chain_from n b) (sym e)
        where
          no_more : (n : ℕ) → chain_from n b [] ≡ []
          no_more zero = refl
          no_more (suc n) = refl
      go (p ∷ []) e few more = more p (those (λ j. not (eqb k j)) ks) (left k p ks f e) ∙ ap (chain_from n b) (sym e)
      go (p ∷ q ∷ ps) e few more = absurd (omega arith)

pub chain_log : ChainLog
unfolding ChainLog
chain_log sum b k g single within =
    chained sum b g single (length b) k (back b (k ∷ []))
    (record {
      once = once_back b (k ∷ []) (λ i. i, tt);
      all = λ j c. in_back b (k ∷ []) k j g (inl refl) c;
      only = λ j i. let r = back_in b (k ∷ []) j i in subst (λ x. Comes b x j) (same r.0 r.1) r.2;
    })
  where
    same : (i : ℕ) → In i (k ∷ []) → i ≡ k
    same i (inl e) = sym e
    same i (inr e) = absurd e
