-- Two sides at a path: alike or not, and what joining leaves of them.
use Rattle.std.proofs.Common.{◌≡◌, refl, ℕ, ◌==◌, Bool, true, false, List, [], ◌∷◌, Option, Some, None, Bor, Decides, arith, rules}
use Rattle.std.proofs.lemmas.Bool.Decides.{Decides-eqb}
use Rattle.std.proofs.lemmas.Slice.Eq.{compares_Decides, slice_eq-Decides}
use Rattle.std.specs.Option.{option_eq}
use lib.Pointwise.{pointwise}
use Rattle.pages.specs.Lists.{same}
use Rattle.trees.specs.Tree.{alike, clash, joined_at}
use Rattle.plain.specs.Sides.{Meets, rows}

same_decides : (xs ys : List ℕ) → Decides (same xs ys) (xs ≡ ys)
unfolding same
same_decides xs ys = compares_Decides same (search rules) xs ys

pub alike_decides : (r : Bool) (xs ys : List ℕ) → Decides r (xs ≡ ys) → r ≡ alike (xs ∷ []) (ys ∷ [])
unfolding alike
alike_decides r xs ys d = let e : Decides (same xs ys) (xs ≡ ys) = same_decides xs ys in grind (arith, d, e)

-- what `==` says of two rows that may be missing
pub alike_options : (a b : Option (Bor (List ℕ))) → option_eq (λ x y. pointwise (λ m n. m == n) x.now y.now) a b ≡ alike (rows a) (rows b)
unfolding alike
alike_options None None = refl
alike_options None (Some y) = refl
alike_options (Some x) None = refl
alike_options (Some x) (Some y) = alike_decides _ _ _ (slice_eq-Decides Decides-eqb x.now y.now _ refl)

-- where they are alike; where ours changed; and where it did not
pub meets_alike : (O T : List (List ℕ)) (a b : Bool) → alike O T ≡ true → Meets O T a b false O
unfolding clash joined_at
meets_alike O T a b q bases o t p e f g h = (grind (arith, q, e, f, g, h), grind (arith, q, e, f, g, h))

pub meets_ours : (O T : List (List ℕ)) (a b : Bool) → alike O T ≡ false → a ≡ true → Meets O T a b b O
unfolding clash joined_at
meets_ours O T a b q y bases o t p e f g h = (grind (arith, q, y, e, f, g, h), grind (arith, q, y, e, f, g, h))

pub meets_theirs : (O T : List (List ℕ)) (a b : Bool) → alike O T ≡ false → a ≡ false → Meets O T a b false T
unfolding clash joined_at
meets_theirs O T a b q y bases o t p e f g h = (grind (arith, q, y, e, f, g, h), grind (arith, q, y, e, f, g, h))
