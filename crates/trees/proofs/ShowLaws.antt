-- The path of a key as bytes, and where it is shown.
use Rattle.std.proofs.Common.{◌≡◌, ℕ, ◌+◌, ◌*◌, ◌<◌, ◌≤◌, min, List, [], ◌∷◌, ◌++◌, length, get_or, take, drop, sym, refl, ap, ◌∙◌, ap₂, arith, length-drop}
use Rattle.std.proofs.Math.ListN.{set}
use borrow.Rule.Slice.PartMut.{put_mid}
use Rattle.std.proofs.lemmas.List.{take_all, take_at, take_min, length-take-le, drop-drop, get_or_past, get_or-take, get_or-drop, append-nil}
use Rattle.pages.specs.Words.{bytes_of}
use Rattle.pages.proofs.WordLaws.{length_bytes_of}
use Rattle.trees.specs.Row.{path_of}
use Rattle.trees.specs.Differ.{path_in}

-- a path is no longer than the bytes of eight words
pub path_cut : (k : List ℕ) (many : ℕ) → length k ≡ 9 → many ≡ min (get_or k 8 0) 64 → take many (bytes_of (take 8 k)) ≡ path_of k
unfolding path_of
path_cut k many l e =
    let b : length (bytes_of (take 8 k)) ≡ 64 = length_bytes_of (take 8 k) ∙ ap (λ n. 8 * n) (length-take-le 8 k (omega arith)) in
    ap (λ n. take n (bytes_of (take 8 k))) (e ∙ ap (min (get_or k 8 0)) (sym b)) ∙ take_min (get_or k 8 0) (bytes_of (take 8 k))

pub path_length : (k : List ℕ) (many : ℕ) → length k ≡ 9 → many ≡ min (get_or k 8 0) 64 → many ≡ length (path_of k)
path_length k many l e =
    let b : length (bytes_of (take 8 k)) ≡ 64 = length_bytes_of (take 8 k) ∙ ap (λ n. 8 * n) (length-take-le 8 k (omega arith)) in
    let m : many ≤ 64 = omega arith in
    sym (length-take-le many (bytes_of (take 8 k)) (omega arith)) ∙ ap length (path_cut k many l e)

-- a path behind the first byte of a row
pub path_put : (k out new : List ℕ) (many : ℕ) → length k ≡ 9 → length out ≡ 65 → many ≡ min (get_or k 8 0) 64 →
    new ≡ take many (bytes_of (take 8 k)) ++ drop many (take 64 (drop 1 out)) →
    put_mid 1 64 out new ≡ take 1 out ++ (path_of k ++ drop (1 + length (path_of k)) out)
path_put k out new many l o e en =
    let p = path_of k in
    let rest : take 64 (drop 1 out) ≡ drop 1 out = take_all 64 (drop 1 out) (omega (arith, length-drop 1 out)) in
    let is : new ≡ p ++ drop (1 + length p) out =
    en ∙ ap₂ (λ x y. x ++ y) (path_cut k many l e) (ap₂ drop (path_length k many l e) rest ∙ drop-drop (length p) 1 out) in
    let m : many ≤ 64 = omega arith in
    let none : drop 64 (drop 1 out) ≡ [] = drop-drop 64 1 out ∙ none_left (drop 65 out) (omega (arith, length-drop 65 out)) in
    ap (λ z. take 1 out ++ z) (ap₂ (λ x y. x ++ y) is none ∙ append-nil (p ++ drop (1 + length p) out))
  where
    none_left : (xs : List ℕ) → length xs ≡ 0 → xs ≡ []
    none_left [] h = refl
    none_left (x ∷ xs) h = absurd (omega arith)

-- where the words of a key are cut off, there is no path
pub path_none : (ws : List ℕ) (i : ℕ) → length ws < 10 * i + 11 → path_in ws i ≡ []
unfolding path_of
path_none ws i h =
    ap (λ n. take n (bytes_of (take 8 (take 9 (drop (10 * i + 2) ws)))))
    (get_or-take 9 (drop (10 * i + 2) ws) 8 0 (omega arith) ∙ get_or-drop (10 * i + 2) ws 8 0 ∙ get_or_past ws (10 * i + 2 + 8) 0 (omega arith))

-- a mark and the path behind it
pub shown_front : (mark n : ℕ) (p out new : List ℕ) → length out ≡ 65 → n ≡ length p → new ≡ take 1 (set out 0 mark) ++ (p ++ drop (1 + length p) (set out 0 mark)) →
    take (1 + n) new ≡ mark ∷ p
shown_front mark n p [] new l e is = absurd (omega arith)
shown_front mark n p (x ∷ xs) new l e is =
    let long : length (mark ∷ p) ≡ 1 + n = omega arith in
    ap (take (1 + n)) is ∙ take_at (mark ∷ p) (drop (1 + length p) (mark ∷ xs)) (1 + n) long
