-- What has grown and grows on has grown.
use Rattle.std.proofs.Common.{◌≡◌, refl, List, [], ◌∷◌, length, take, drop, get_or, ap, ◌∙◌}
use Rattle.plain.specs.Grown.{Grown}

pub grown_on : {A : Type 0} (xs ys zs : List A) → Grown xs ys → Grown ys zs → Grown xs zs
grown_on [] ys zs g h = refl
grown_on (x ∷ xs) [] zs g h = cc
grown_on (x ∷ xs) (y ∷ ys) [] g h = cc
grown_on (x ∷ xs) (y ∷ ys) (z ∷ zs) g h =
    let first : z ≡ x = ap (λ l. get_or l 0 z) h ∙ ap (λ l. get_or l 0 z) g in
    let rest : take (length xs) zs ≡ xs = grown_on xs ys zs (ap (λ l. drop 1 l) g) (ap (λ l. drop 1 l) h) in
    ap (λ w. w ∷ take (length xs) zs) first ∙ ap (λ l. x ∷ l) rest
