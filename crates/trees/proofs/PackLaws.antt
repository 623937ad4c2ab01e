-- Packed paths: their keys are ordered as they are, and a key gives its path back.
use Rattle.std.proofs.Common.{◌≡◌, ℕ, zero, suc, ◌+◌, ◌-◌, ◌*◌, ◌<◌, ◌≤◌, Bool, true, false, ◌&&◌, eqb, ltb, leb, ◌⊎◌, List, [], ◌∷◌, ◌++◌, length, take, drop, sym, refl, ap, ◌∙◌, ap₂, inl, inr, ⊎_elim, append_assoc, zero-add, arith, length-append, length-drop, take-append-drop}
use Rattle.std.proofs.lemmas.Bool.{and_parts, and_from, ltb-true, lt-ltb, le-ltb, eq-eqb, ne_eqb, leb-true, cases_order}
use Rattle.std.proofs.lemmas.List.{take_at, length-take-le, get_or_at}
use Rattle.std.proofs.lemmas.Bool.Decides.{nat_tests}
use Rattle.pages.specs.Lists.{pick, same, earlier, zeros}
use Rattle.pages.specs.Bytes.{from_bytes, all_bytes}
use Rattle.pages.specs.Words.{words, bytes_of}
use Rattle.pages.proofs.ListLaws.{same_test, same_from, same_true, earlier_refl, earlier_total, earlier_not_same, earlier_one_way, earlier_first, earlier_next}
use Rattle.pages.proofs.BytesLaws.{all_bytes_append, all_bytes_take, all_bytes_drop}
use Rattle.pages.proofs.WordLaws.{length_zeros, length_words, bytes_of_words}
use Rattle.trees.specs.Row.{good_path, key_of, path_of}
use Rattle.trees.specs.RowOf.{proper}

-- the first that differs decides, and then the rest
abbrev sooner : ℕ → ℕ → Bool → Bool
sooner x y r = pick (ltb x y) true (eqb x y && r)

-- two digits compare as their number does
sooner_digits : (m n x y : ℕ) (r : Bool) → x < 256 → y < 256 → sooner (256 * m + x) (256 * n + y) r ≡ sooner m n (sooner x y r)
sooner_digits m n x y r h k = go (cases_order m n)
  where
    go : (m ≡ n) ⊎ ((m < n) ⊎ (n < m)) → sooner (256 * m + x) (256 * n + y) r ≡ sooner m n (sooner x y r)
    go (inl e) =
        let a : eqb m n ≡ true = eq-eqb m n e in
        let b : ltb m n ≡ false = le-ltb m n (omega arith) in
        rw (a, b) (grind (arith, nat_tests))
    go (inr (inl e)) =
        let a : ltb (256 * m + x) (256 * n + y) ≡ true = lt-ltb _ _ (omega arith) in
        rw (a, lt-ltb m n e)
    go (inr (inr e)) =
        let a : ltb (256 * m + x) (256 * n + y) ≡ false = le-ltb _ _ (omega arith) in
        let b : eqb (256 * m + x) (256 * n + y) ≡ false = ne_eqb _ _ (λ q. omega arith) in
        let c : ltb m n ≡ false = le-ltb m n (omega arith) in
        let d : eqb m n ≡ false = ne_eqb m n (λ q. omega arith) in
        rw (a, b, c, d)

-- a number of bytes compares as its bytes do
earlier_bytes : (a b : List ℕ) (m n : ℕ) (us vs : List ℕ) → length a ≡ length b → all_bytes a ≡ true → all_bytes b ≡ true →
    earlier (from_bytes m a ∷ us) (from_bytes n b ∷ vs) ≡ sooner m n (earlier (a ++ us) (b ++ vs))
unfolding earlier from_bytes all_bytes
earlier_bytes [] [] m n us vs l h k = refl
earlier_bytes [] (y ∷ b) m n us vs l h k = absurd (omega arith)
earlier_bytes (x ∷ a) [] m n us vs l h k = absurd (omega arith)
earlier_bytes (x ∷ a) (y ∷ b) m n us vs l h k =
    let p = and_parts (ltb x 256) (all_bytes a) h in let q = and_parts (ltb y 256) (all_bytes b) k in
    earlier_bytes a b (256 * m + x) (256 * n + y) us vs (omega arith) p.1 q.1
    ∙ sooner_digits m n x y (earlier (a ++ us) (b ++ vs)) (ltb-true x 256 p.0) (ltb-true y 256 q.0)

-- one and the same length in front
front : (p q xs ys zs ws : List ℕ) → length p ≡ length q → earlier xs ys ≡ earlier zs ws → earlier (p ++ xs) (q ++ ys) ≡ earlier (p ++ zs) (q ++ ws)
unfolding earlier
front [] [] xs ys zs ws l e = e
front [] (y ∷ q) xs ys zs ws l e = absurd (omega arith)
front (x ∷ p) [] xs ys zs ws l e = absurd (omega arith)
front (x ∷ p) (y ∷ q) xs ys zs ws l e = ap (λ r. sooner x y r) (front p q xs ys zs ws (omega arith) e)

-- and words as all their bytes
earlier_words : (n : ℕ) (a b us vs : List ℕ) → length a ≡ 8 * n → length b ≡ 8 * n → all_bytes a ≡ true → all_bytes b ≡ true →
    earlier (words n a ++ us) (words n b ++ vs) ≡ earlier (a ++ us) (b ++ vs)
unfolding words
earlier_words zero [] [] us vs l m h k = refl
earlier_words zero [] (y ∷ b) us vs l m h k = absurd (omega arith)
earlier_words zero (x ∷ a) b us vs l m h k = absurd (omega arith)
earlier_words (suc n) a b us vs l m h k =
    let a8 = take 8 a in let b8 = take 8 b in let a' = drop 8 a in let b' = drop 8 b in
    let first = earlier_bytes a8 b8 0 0 (words n a' ++ us) (words n b' ++ vs) (length-take-le 8 a (omega arith) ∙ sym (length-take-le 8 b (omega arith))) (all_bytes_take 8 a h) (all_bytes_take 8 b k) in
    let rest : earlier (words n a' ++ us) (words n b' ++ vs) ≡ earlier (a' ++ us) (b' ++ vs) =
    earlier_words n a' b' us vs (omega (arith, length-drop 8 a)) (omega (arith, length-drop 8 b)) (all_bytes_drop 8 a h) (all_bytes_drop 8 b k) in
    first ∙ front a8 b8 (words n a' ++ us) (words n b' ++ vs) (a' ++ us) (b' ++ vs) (length-take-le 8 a (omega arith) ∙ sym (length-take-le 8 b (omega arith))) rest
    ∙ ap₂ (λ x y. earlier x y) (sym (append_assoc a8 a' us) ∙ ap (λ x. x ++ us) (take-append-drop 8 a)) (sym (append_assoc b8 b' vs) ∙ ap (λ x. x ++ vs) (take-append-drop 8 b))

-- a row with zeros behind it, of a given length
abbrev pad : ℕ → List ℕ → List ℕ
pad zero p = []
pad (suc n) [] = 0 ∷ pad n []
pad (suc n) (x ∷ p) = x ∷ pad n p

pad_is : (n : ℕ) (p : List ℕ) → length p ≤ n → pad n p ≡ p ++ zeros (n - length p)
unfolding zeros
pad_is zero [] l = refl
pad_is zero (x ∷ p) l = absurd (omega arith)
pad_is (suc n) [] l = let e : suc n - 0 ≡ suc (n - 0) = omega arith in ap (λ xs. 0 ∷ xs) (pad_is n [] (omega arith)) ∙ ap zeros (sym e)
pad_is (suc n) (x ∷ p) l =
    let e : suc n - suc (length p) ≡ n - length p = omega arith in ap (λ xs. x ∷ xs) (pad_is n p (omega arith)) ∙ ap (λ m. x ∷ (p ++ zeros m)) (sym e)

-- zeros and a smaller length come first
zeros_first : (n : ℕ) (q : List ℕ) (a b : ℕ) → length q ≤ n → a < b → earlier (pad n [] ++ a ∷ []) (pad n q ++ b ∷ []) ≡ true
unfolding earlier
zeros_first zero [] a b l h = rw (lt-ltb a b h)
zeros_first zero (y ∷ q) a b l h = absurd (omega arith)
zeros_first (suc n) [] a b l h = zeros_first n [] a b (omega arith) h
zeros_first (suc n) (y ∷ q) a b l h =
    let r : earlier (pad n [] ++ a ∷ []) (pad n q ++ b ∷ []) ≡ true = zeros_first n q a b (omega arith) h in
    go (cases_order 0 y) r
  where
    go : {t : Bool} → (0 ≡ y) ⊎ ((0 < y) ⊎ (y < 0)) → t ≡ true → sooner 0 y t ≡ true
    go (inl e) r = earlier_next 0 y _ e r
    go (inr (inl e)) r = earlier_first 0 y _ e
    go (inr (inr e)) r = absurd (omega arith)

-- with its length behind, a padded path compares as the path does
earlier_padded : (n c : ℕ) (p q : List ℕ) → length p ≤ n → length q ≤ n →
    earlier (pad n p ++ (c + length p) ∷ []) (pad n q ++ (c + length q) ∷ []) ≡ earlier p q
unfolding earlier
earlier_padded n c [] [] l m = earlier_refl (pad n [] ++ (c + 0) ∷ [])
earlier_padded n c [] (y ∷ q) l m = zeros_first n (y ∷ q) (c + 0) (c + suc (length q)) m (omega arith)
earlier_padded n c (x ∷ p) [] l m = earlier_one_way (pad n [] ++ (c + 0) ∷ []) (pad n (x ∷ p) ++ (c + suc (length p)) ∷ []) (zeros_first n (x ∷ p) (c + 0) (c + suc (length p)) l (omega arith))
earlier_padded zero c (x ∷ p) (y ∷ q) l m = absurd (omega arith)
earlier_padded (suc n) c (x ∷ p) (y ∷ q) l m =
    let a : c + suc (length p) ≡ suc c + length p = omega arith in
    let b : c + suc (length q) ≡ suc c + length q = omega arith in
    ap₂ (λ i j. sooner x y (earlier (pad n p ++ i ∷ []) (pad n q ++ j ∷ []))) a b ∙ ap (λ r. sooner x y r) (earlier_padded n (suc c) p q (omega arith) (omega arith))

abbrev padded : List ℕ → List ℕ
padded p = p ++ zeros (64 - length p)

length_pad : (p : List ℕ) → length p ≤ 64 → length (padded p) ≡ 64
length_pad p h = omega (arith, length-append p (zeros (64 - length p)), length_zeros (64 - length p))

pub bytes_zeros : (n : ℕ) → all_bytes (zeros n) ≡ true
unfolding all_bytes zeros
bytes_zeros zero = refl
bytes_zeros (suc n) = bytes_zeros n

bytes_pad : (p : List ℕ) → all_bytes p ≡ true → all_bytes (padded p) ≡ true
bytes_pad p h = all_bytes_append p (zeros (64 - length p)) ∙ and_from (all_bytes p) (all_bytes (zeros (64 - length p))) h (bytes_zeros (64 - length p))

pub proper_parts : (p : List ℕ) → proper p ≡ true → (length p ≤ 64) × (all_bytes p ≡ true)
proper_parts p h =
    let a = and_parts (good_path p) (all_bytes p) h in
    (leb-true (length p) 64 (and_parts (leb 1 (length p)) (leb (length p) 64) a.0).1, a.1)

pub key_earlier : (p q : List ℕ) → proper p ≡ true → proper q ≡ true → earlier (key_of p) (key_of q) ≡ earlier p q
unfolding key_of
key_earlier p q h k =
    let a = proper_parts p h in let b = proper_parts q k in
    earlier_words 8 (padded p) (padded q) (length p ∷ []) (length q ∷ []) (length_pad p a.0) (length_pad q b.0) (bytes_pad p a.1) (bytes_pad q b.1)
    ∙ ap₂ (λ x y. earlier (x ++ length p ∷ []) (y ++ length q ∷ [])) (sym (pad_is 64 p a.0)) (sym (pad_is 64 q b.0))
    ∙ ap₂ (λ i j. earlier (pad 64 p ++ i ∷ []) (pad 64 q ++ j ∷ [])) (sym (zero-add (length p))) (sym (zero-add (length q))) ∙ earlier_padded 64 0 p q a.0 b.0

-- neither is earlier exactly if they are the same
same_by_earlier : (a b c d : List ℕ) → earlier a b ≡ earlier c d → earlier b a ≡ earlier d c → same a b ≡ same c d
same_by_earlier a b c d e f =
    same_test (same a b) (same c d) (λ h. one a b c d e f (same_true a b h)) (λ h. one c d a b (sym e) (sym f) (same_true c d h))
  where
    one : (a b c d : List ℕ) → earlier a b ≡ earlier c d → earlier b a ≡ earlier d c → a ≡ b → same c d ≡ true
    one a b c d e f h =
        let not_left : earlier c d ≡ true → ⊥ = λ t. earlier_not_same a b (e ∙ t) h in
        let not_right : earlier d c ≡ true → ⊥ = λ t. earlier_not_same b a (f ∙ t) (sym h) in
        ⊎_elim (λ q. same_from c d q) (λ r. absurd (⊎_elim not_left not_right r)) (earlier_total c d)

pub key_same : (p q : List ℕ) → proper p ≡ true → proper q ≡ true → same (key_of p) (key_of q) ≡ same p q
key_same p q h k = same_by_earlier (key_of p) (key_of q) p q (key_earlier p q h k) (key_earlier q p k h)

pub length_key : (p : List ℕ) → length (key_of p) ≡ 9
unfolding key_of
length_key p = omega (arith, length-append (words 8 (padded p)) (length p ∷ []), length_words 8 (padded p))

-- a key gives its path back
pub path_back : (p : List ℕ) → proper p ≡ true → path_of (key_of p) ≡ p
unfolding key_of path_of
path_back p h =
    let a = proper_parts p h in
    let ws = words 8 (padded p) in
    let l : length ws ≡ 8 = length_words 8 (padded p) in
    ap₂ (λ n xs. take n (bytes_of xs)) (get_or_at ws (length p) [] 0 8 l) (take_at ws (length p ∷ []) 8 l)
    ∙ ap (take (length p)) (bytes_of_words 8 (padded p) (length_pad p a.0) (bytes_pad p a.1))
    ∙ take_at p (zeros (64 - length p)) (length p) refl
