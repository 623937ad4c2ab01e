-- What a row holds when an entry is put between others, in place of one, or taken out.
use Rattle.std.proofs.Common.{◌≡◌, ℕ, ◌+◌, ◌-◌, ◌*◌, ◌<◌, ◌≤◌, List, [], ◌∷◌, ◌++◌, length, take, drop, sym, ap, ◌∙◌, ap₂, append_assoc, append-nil, arith, length-append, length-drop, length-take}
use borrow.Rule.Slice.PartMut.{put_mid}
use Rattle.std.proofs.lemmas.List.{drop-drop, take-take, drop_at, take-append-drop, take-append-le, length-take-le}
use Rattle.std.specs.List.{copy_within}
use Rattle.pages.specs.Lists.{flat}
use Rattle.trees.specs.Tree.{Tree}
use Rattle.trees.specs.Row.{entry, cut, in_words, laid}
use Rattle.trees.proofs.RowLaws.{length_cut, take_cut, drop_cut, flat_append, flat_cut}

-- entries before a place, some others, and the entries from a place on, as words
pub laid_parts : (n a b : ℕ) (ms : Tree) (xs : List ℕ) → a ≤ n → b ≤ n → 10 * n ≤ length xs →
    laid (take a (cut n xs) ++ (ms ++ drop b (cut n xs))) xs
    ≡ take (10 * a) xs ++ (flat in_words ms ++ (take (10 * (n - b)) (drop (10 * b) xs) ++ drop (10 * (a + (length ms + (n - b)))) xs))
laid_parts n a b ms xs p q l =
    let es : Tree = cut n xs in
    let tail : List ℕ = take (10 * (n - b)) (drop (10 * b) xs) in
    let first : flat in_words (take a es) ≡ take (10 * a) xs = ap (flat in_words) (take_cut a n xs p) ∙ flat_cut a xs (omega arith) in
    let last : flat in_words (drop b es) ≡ tail =
    ap (flat in_words) (drop_cut b n xs) ∙ flat_cut (n - b) (drop (10 * b) xs) (omega (arith, length-drop (10 * b) xs)) in
    let all : flat in_words (take a es ++ (ms ++ drop b es)) ≡ take (10 * a) xs ++ (flat in_words ms ++ tail) =
    flat_append in_words (take a es) (ms ++ drop b es) ∙ ap₂ (λ u v. u ++ v) first (flat_append in_words ms (drop b es) ∙ ap (λ v. flat in_words ms ++ v) last) in
    let many : length (take a es ++ (ms ++ drop b es)) ≡ a + (length ms + (n - b)) =
    omega (arith, length-append (take a es) (ms ++ drop b es), length-append ms (drop b es), length-take a es, length-drop b es, length_cut n xs) in
    let left : List ℕ = drop (10 * (a + (length ms + (n - b)))) xs in
    ap₂ (λ u m. u ++ drop (10 * m) xs) all many ∙ append_assoc (take (10 * a) xs) (flat in_words ms ++ tail) left
    ∙ ap (λ u. take (10 * a) xs ++ u) (append_assoc (flat in_words ms) tail left)

pub insert_laid : (n a g k r : ℕ) (xs new b key : List ℕ) → a ≤ n → 10 * n + 10 ≤ length xs → g ≡ 10 * a → k ≡ 10 → new ≡ key ++ r ∷ [] →
    b ≡ copy_within xs (10 * a) (10 * n) (10 * a + 10) →
    put_mid g k b new ≡ laid (take a (cut n xs) ++ entry key r ∷ drop a (cut n xs)) xs
insert_laid n a g k r xs new b key p l eg ek en eb =
    let rest : List ℕ = take (10 * n - 10 * a) (drop (10 * a) xs) ++ drop (10 * a + 10 + (10 * n - 10 * a)) xs in
    let is : b ≡ take (10 * a + 10) xs ++ rest = eb ∙ append_assoc (take (10 * a + 10) xs) (take (10 * n - 10 * a) (drop (10 * a) xs)) (drop (10 * a + 10 + (10 * n - 10 * a)) xs) in
    let front : take (10 * a) b ≡ take (10 * a) xs =
    ap (take (10 * a)) is ∙ take-append-le (10 * a) (take (10 * a + 10) xs) rest (omega (arith, length-take (10 * a + 10) xs)) ∙ take-take (10 * a) (10 * a + 10) xs (omega arith) in
    let back : drop 10 (drop (10 * a) b) ≡ rest =
    drop-drop 10 (10 * a) b ∙ ap (drop (10 * a + 10)) is ∙ drop_at (take (10 * a + 10) xs) rest (10 * a + 10) (length-take-le (10 * a + 10) xs (omega arith)) in
    let i : 10 * n - 10 * a ≡ 10 * (n - a) = omega arith in
    let j : 10 * a + 10 + (10 * n - 10 * a) ≡ 10 * (a + (1 + (n - a))) = omega arith in
    ap₂ (λ u v. put_mid u v b new) eg ek ∙ ap₂ (λ u v. u ++ (new ++ v)) front back
    ∙ ap₂ (λ u v. take (10 * a) xs ++ (u ++ (take v (drop (10 * a) xs) ++ drop (10 * a + 10 + (10 * n - 10 * a)) xs))) (en ∙ sym (append-nil (key ++ r ∷ []))) i
    ∙ ap (λ m. take (10 * a) xs ++ (((key ++ r ∷ []) ++ []) ++ (take (10 * (n - a)) (drop (10 * a) xs) ++ drop m xs))) j
    ∙ sym (laid_parts n a a (entry key r ∷ []) xs p p (omega arith))

pub replace_laid : (n a g k r : ℕ) (xs new key : List ℕ) → a < n → 10 * n ≤ length xs → g ≡ 10 * a → k ≡ 10 → new ≡ key ++ r ∷ [] →
    put_mid g k xs new ≡ laid (take a (cut n xs) ++ entry key r ∷ drop (a + 1) (cut n xs)) xs
replace_laid n a g k r xs new key p l eg ek en =
    let i : 10 * a + 10 ≡ 10 * (a + 1) = omega arith in
    let j : 10 * (a + 1) + 10 * (n - (a + 1)) ≡ 10 * (a + (1 + (n - (a + 1)))) = omega arith in
    let rest : List ℕ = drop (10 * (a + 1)) xs in
    let back : drop 10 (drop (10 * a) xs) ≡ take (10 * (n - (a + 1))) rest ++ drop (10 * (a + (1 + (n - (a + 1))))) xs =
    drop-drop 10 (10 * a) xs ∙ ap (λ m. drop m xs) i ∙ sym (take-append-drop (10 * (n - (a + 1))) rest)
    ∙ ap (λ u. take (10 * (n - (a + 1))) rest ++ u) (drop-drop (10 * (n - (a + 1))) (10 * (a + 1)) xs ∙ ap (λ m. drop m xs) j) in
    ap₂ (λ u v. put_mid u v xs new) eg ek ∙ ap₂ (λ u v. take (10 * a) xs ++ (u ++ v)) (en ∙ sym (append-nil (key ++ r ∷ []))) back
    ∙ sym (laid_parts n a (a + 1) (entry key r ∷ []) xs (omega arith) (omega arith) l)

pub remove_laid : (n a : ℕ) (xs b : List ℕ) → a < n → 10 * n ≤ length xs →
    b ≡ copy_within xs (10 * a + 10) (10 * n) (10 * a) →
    b ≡ laid (take a (cut n xs) ++ drop (a + 1) (cut n xs)) xs
remove_laid n a xs b p l e =
    let i : 10 * n - (10 * a + 10) ≡ 10 * (n - (a + 1)) = omega arith in
    let j : 10 * a + 10 ≡ 10 * (a + 1) = omega arith in
    let k : 10 * a + (10 * n - (10 * a + 10)) ≡ 10 * (a + (0 + (n - (a + 1)))) = omega arith in
    e ∙ append_assoc (take (10 * a) xs) (take (10 * n - (10 * a + 10)) (drop (10 * a + 10) xs)) (drop (10 * a + (10 * n - (10 * a + 10))) xs)
    ∙ ap₂ (λ u v. take (10 * a) xs ++ (take u (drop v xs) ++ drop (10 * a + (10 * n - (10 * a + 10))) xs)) i j
    ∙ ap (λ m. take (10 * a) xs ++ (take (10 * (n - (a + 1))) (drop (10 * (a + 1)) xs) ++ drop m xs)) k
    ∙ sym (laid_parts n a (a + 1) [] xs (omega arith) (omega arith) l)
