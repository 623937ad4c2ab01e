-- Laws of keys: the order of two rows of numbers, word by word, is that of `same` and `earlier`.
use Rattle.std.proofs.Common.{◌≡◌, ℕ, ◌<◌, true, false, List, [], ◌∷◌, length, take, refl, arith}
use Rattle.std.proofs.lemmas.Bool.Decides.{nat_tests}
use Rattle.std.specs.declared.cmp.Ordering.TheVariants.{Less, Equal, Greater}
use Rattle.std.specs.Ordering.{nat_cmp}
use Rattle.std.specs.Cmp.Lexicographic.{slice_cmp}
use Rattle.pages.specs.Lists.{pick, same, earlier}
use Rattle.trees.specs.Order.{halts}

pub compared : (xs ys : List ℕ) → slice_cmp nat_cmp xs ys ≡ pick (same xs ys) Equal (pick (earlier xs ys) Less Greater)
unfolding same earlier
compared [] [] = refl
compared [] (y ∷ ys) = refl
compared (x ∷ xs) [] = refl
compared (x ∷ xs) (y ∷ ys) = let e = compared xs ys in grind (arith, nat_tests)

-- a search for a place, word by word: on where two words are the same, at an end where they differ or none is left
pub halts_on : (x y : ℕ) (xs ys : List ℕ) → x ≡ y → halts false (x ∷ xs) (take (length (x ∷ xs)) (y ∷ ys)) ≡ halts false xs (take (length xs) ys)
unfolding same earlier
halts_on x y xs ys e = grind (arith, nat_tests)

pub halts_before : (x y : ℕ) (xs ys : List ℕ) → x < y → true ≡ halts false (x ∷ xs) (take (length (x ∷ xs)) (y ∷ ys))
unfolding same earlier
halts_before x y xs ys h = grind (arith, nat_tests)

pub halts_behind : (x y : ℕ) (xs ys : List ℕ) → y < x → false ≡ halts false (x ∷ xs) (take (length (x ∷ xs)) (y ∷ ys))
unfolding same earlier
halts_behind x y xs ys h = grind (arith, nat_tests)

pub halts_last : (xs ys : List ℕ) → length xs ≡ 0 → true ≡ halts false xs (take (length xs) ys)
unfolding same
halts_last [] ys h = refl
halts_last (x ∷ xs) ys h = absurd (omega arith)
