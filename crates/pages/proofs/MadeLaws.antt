-- Arrays that are made by a function of the index, and words that are.
use Rattle.std.proofs.Common.{◌≡◌, ℕ, zero, suc, ◌+◌, ◌*◌, ◌<◌, List, ◌∷◌, get_or, map, take, drop, sym, refl, ap, ◌∙◌, subst, arith}
use Rattle.std.specs.Array.{IsFromFnResult, IsFromFnResultFrom}
use Rattle.std.specs.Fn.{Called}
use Rattle.std.specs.List.{range_with_len}
use Rattle.std.proofs.lemmas.List.{drop-drop}
use Rattle.std.proofs.lemmas.List.FromFn.{fill_by_all}
use denote.Param.Members.{Mut}
use Rattle.pages.specs.Bytes.{from_bytes}
use Rattle.pages.specs.Words.{words}

-- a closure that stays as it is and answers by a function of the index makes the list of that function
module _ {F : Type 0} (g : Mut F (ℕ × Unit {0}) ℕ) (v : ℕ → ℕ) (f : F) (each : (i y : ℕ) (q : F) → Called g f (i, tt) y q → (y ≡ v i) × (q ≡ f)) where
  from_each : (ys : List ℕ) (i n k : ℕ) → IsFromFnResultFrom g f ys i n → k < n → get_or ys (i + k) 0 ≡ v (i + k)
  from_each ys i zero k h l = absurd (omega arith)
  from_each ys i (suc n) zero (q, y, at, call, rest) l =
      let e : i + 0 ≡ i = omega arith in ap (λ j. get_or ys j 0) e ∙ at.1 0 ∙ (each i y q call).0 ∙ ap v (sym e)
  from_each ys i (suc n) (suc k) (q, y, at, call, rest) l =
      let e : i + 1 + k ≡ i + suc k = omega arith in
      ap (λ j. get_or ys j 0) (sym e)
      ∙ from_each ys (i + 1) n k (subst (λ p. IsFromFnResultFrom g p ys (i + 1) n) (each i y q call).1 rest) (omega arith) ∙ ap v e

  pub from_fn_by : (ys : List ℕ) (n : ℕ) → IsFromFnResult g f ys n → ys ≡ map v (range_with_len 0 n)
  from_fn_by ys n r = fill_by_all v ys n 0 r.long (λ k l. let e : 0 + k ≡ k = omega arith in subst (λ j. get_or ys j 0 ≡ v j) e (from_each ys 0 n k r.each l))

words_by_index : (n a : ℕ) (bs : List ℕ) → words n (drop (8 * a) bs) ≡ map (λ i. from_bytes 0 (take 8 (drop (8 * i) bs))) (range_with_len a n)
unfolding words
words_by_index zero a bs = refl
words_by_index (suc n) a bs =
    let e : 8 + 8 * a ≡ 8 * (a + 1) = omega arith in
    ap (λ ws. from_bytes 0 (take 8 (drop (8 * a) bs)) ∷ ws) (ap (words n) (drop-drop 8 (8 * a) bs ∙ ap (λ k. drop k bs) (omega arith)) ∙ words_by_index n (a + 1) bs)

-- the words of a row, each by its index
pub words_each : (n : ℕ) (bs : List ℕ) → map (λ i. from_bytes 0 (take 8 (drop (8 * i) bs))) (range_with_len 0 n) ≡ words n bs
words_each n bs = sym (words_by_index n 0 bs)
