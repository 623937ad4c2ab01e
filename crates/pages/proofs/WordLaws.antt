-- Words out of bytes and back; bounds that stay when rows are cut and put together. Assumes nothing.
use Rattle.std.proofs.Common.{replicate, ◌≡◌, ℕ, zero, suc, ◌+◌, ◌-◌, ◌*◌, ◌^◌, ◌<◌, ◌≤◌, true, eqb, ltb, List, [], ◌∷◌, ◌++◌, length, get_or, take, drop, sym, refl, ap, ◌∙◌, ap₂, append_assoc, suc-add, zero-add, add-one, arith, length-append, length-drop, take-append-drop, length-take}
use native.Mathlib.Nat.{pow-le-pow_right}
use borrow.Rule.Slice.PartMut.{put_mid}
use lib.Seq.{take-append-add}
use Rattle.std.proofs.lemmas.Bool.{ltb-true, lt-ltb, eq-eqb, eqb-true, and_parts, and_from}
use Rattle.std.proofs.lemmas.List.{take_at, drop_at, drop-drop, take-take, take_all, drop_more, take-append-le, length-take-le}
use Rattle.pages.specs.Lists.{every, zeros}
use Rattle.pages.specs.Bytes.{eight, in_bytes, from_bytes, all_bytes}
use Rattle.pages.specs.Device.{Page, a_page}
use Rattle.pages.specs.Words.{words, bytes_of, page_words, small, over}
use Rattle.pages.specs.Machine.{head_page}
use Rattle.pages.proofs.ListLaws.{every_append, pick_both, pick_true}
use Rattle.pages.proofs.BytesLaws.{length_eight, all_bytes_in_bytes, all_bytes_append, all_bytes_take, all_bytes_drop, from_eight, eight_from, from_bytes_below}

-- bounds
pub small_append : (xs ys : List ℕ) → small xs ≡ true → small ys ≡ true → small (xs ++ ys) ≡ true
unfolding small
small_append xs ys h k = every_append (λ w. ltb w 18446744073709551616) xs ys h k

pub small_parts : (xs ys : List ℕ) → small (xs ++ ys) ≡ true → (small xs ≡ true) × (small ys ≡ true)
unfolding small
small_parts [] ys h = (refl, h)
small_parts (x ∷ xs) ys h =
    let p = and_parts (ltb x 18446744073709551616) (small (xs ++ ys)) h in
    let q = small_parts xs ys p.1 in
    (and_from (ltb x 18446744073709551616) (small xs) p.0 q.0, q.1)

pub small_take : (n : ℕ) (xs : List ℕ) → small xs ≡ true → small (take n xs) ≡ true
small_take n xs h = (small_parts (take n xs) (drop n xs) (ap small (take-append-drop n xs) ∙ h)).0

pub small_drop : (n : ℕ) (xs : List ℕ) → small xs ≡ true → small (drop n xs) ≡ true
small_drop n xs h = (small_parts (take n xs) (drop n xs) (ap small (take-append-drop n xs) ∙ h)).1

pub small_zeros : (n : ℕ) → small (zeros n) ≡ true
unfolding small zeros
small_zeros zero = refl
small_zeros (suc n) = small_zeros n

pub small_over : (g : ℕ) (new old : List ℕ) → small new ≡ true → small old ≡ true → small (over g new old) ≡ true
small_over g new old h k = small_append (take g old) (new ++ drop (g + length new) old) (small_take g old k) (small_append new (drop (g + length new) old) h (small_drop (g + length new) old k))

pub small_first : (x : ℕ) (xs : List ℕ) → small (x ∷ xs) ≡ true → (x < 2 ^ 64) × (small xs ≡ true)
unfolding small
small_first x xs h = let p = and_parts (ltb x 18446744073709551616) (small xs) h in (ltb-true x 18446744073709551616 p.0, p.1)

pub small_from : (x : ℕ) (xs : List ℕ) → x < 2 ^ 64 → small xs ≡ true → small (x ∷ xs) ≡ true
unfolding small
small_from x xs h k = and_from (ltb x 18446744073709551616) (small xs) (lt-ltb x 18446744073709551616 h) k

pub small_get_or : (xs : List ℕ) (i : ℕ) → small xs ≡ true → get_or xs i 0 < 2 ^ 64
small_get_or [] i h = omega arith
small_get_or (x ∷ xs) zero h = (small_first x xs h).0
small_get_or (x ∷ xs) (suc i) h = small_get_or xs i (small_first x xs h).1

pub length_over : (g : ℕ) (new old : List ℕ) → g + length new ≤ length old → length (over g new old) ≡ length old
length_over g new old h =
    omega (
      arith,
      length-append (take g old) (new ++ drop (g + length new) old),
      length-append new (drop (g + length new) old),
      length-take g old,
      length-drop (g + length new) old,
    )

pub length_zeros : (n : ℕ) → length (zeros n) ≡ n
unfolding zeros
length_zeros zero = refl
length_zeros (suc n) = ap suc (length_zeros n)

pub replicate_zeros : (n : ℕ) → replicate n 0 ≡ zeros n
unfolding zeros
replicate_zeros zero = refl
replicate_zeros (suc n) = ap (λ xs. 0 ∷ xs) (replicate_zeros n)

pub zeros_append : (m n : ℕ) → zeros m ++ zeros n ≡ zeros (m + n)
unfolding zeros
zeros_append zero n = ap zeros (sym (zero-add n))
zeros_append (suc m) n = ap (λ xs. 0 ∷ xs) (zeros_append m n) ∙ ap zeros (sym (suc-add m n))

-- words out of bytes
pub length_words : (n : ℕ) (bs : List ℕ) → length (words n bs) ≡ n
unfolding words
length_words zero bs = refl
length_words (suc n) bs = ap suc (length_words n (drop 8 bs))

pub length_bytes_of : (ws : List ℕ) → length (bytes_of ws) ≡ 8 * length ws
unfolding bytes_of
length_bytes_of [] = refl
length_bytes_of (w ∷ ws) = omega (arith, length-append (eight w) (bytes_of ws), length_eight w, length_bytes_of ws)

pub bytes_of_append : (xs ys : List ℕ) → bytes_of (xs ++ ys) ≡ bytes_of xs ++ bytes_of ys
unfolding bytes_of
bytes_of_append [] ys = refl
bytes_of_append (x ∷ xs) ys = ap (λ bs. eight x ++ bs) (bytes_of_append xs ys) ∙ sym (append_assoc (eight x) (bytes_of xs) (bytes_of ys))

pub all_bytes_of : (ws : List ℕ) → all_bytes (bytes_of ws) ≡ true
unfolding bytes_of all_bytes
all_bytes_of [] = refl
all_bytes_of (w ∷ ws) =
    all_bytes_append (eight w) (bytes_of ws) ∙ and_from (all_bytes (eight w)) (all_bytes (bytes_of ws)) (all_bytes_in_bytes 8 w []) (all_bytes_of ws)

pub words_of_bytes : (ws : List ℕ) → small ws ≡ true → words (length ws) (bytes_of ws) ≡ ws
unfolding bytes_of words
words_of_bytes [] h = refl
words_of_bytes (w ∷ ws) h =
    let p = small_first w ws h in
    ap₂ (λ x xs. x ∷ xs) (ap (from_bytes 0) (take_at (eight w) (bytes_of ws) 8 (length_eight w)) ∙ from_eight w p.0)
    (ap (words (length ws)) (drop_at (eight w) (bytes_of ws) 8 (length_eight w)) ∙ words_of_bytes ws p.1)

pub bytes_of_words : (n : ℕ) (bs : List ℕ) → length bs ≡ 8 * n → all_bytes bs ≡ true → bytes_of (words n bs) ≡ bs
unfolding bytes_of words
bytes_of_words zero [] e h = refl
bytes_of_words zero (b ∷ bs) e h = absurd (omega arith)
bytes_of_words (suc n) bs e h =
    ap₂ (λ x y. x ++ y) (eight_from (take 8 bs) (length-take-le 8 bs (omega arith)) (all_bytes_take 8 bs h))
    (bytes_of_words n (drop 8 bs) (omega (arith, length-drop 8 bs)) (all_bytes_drop 8 bs h)) ∙ take-append-drop 8 bs

pub eight_below : (bs : List ℕ) → all_bytes bs ≡ true → from_bytes 0 (take 8 bs) < 2 ^ 64
eight_below bs h =
    let l : length (take 8 bs) ≤ 8 = omega (arith, length-take 8 bs) in
    let b : from_bytes 0 (take 8 bs) < 256 ^ (0 + length (take 8 bs)) = from_bytes_below (take 8 bs) 0 0 (all_bytes_take 8 bs h) (omega arith) in
    let p : 0 + length (take 8 bs) ≤ 8 = omega arith in
    let z : 0 < 256 = omega arith in
    let m : 256 ^ (0 + length (take 8 bs)) ≤ 256 ^ 8 = pow-le-pow_right z p in
    omega arith

pub words_small : (n : ℕ) (bs : List ℕ) → all_bytes bs ≡ true → small (words n bs) ≡ true
unfolding words small
words_small zero bs h = refl
words_small (suc n) bs h =
    small_from (from_bytes 0 (take 8 bs)) (words n (drop 8 bs)) (eight_below bs h) (words_small n (drop 8 bs) (all_bytes_drop 8 bs h))

-- pages
a_page_parts : (p : Page) → a_page p ≡ true → (length p ≡ 512) × (all_bytes p ≡ true)
unfolding all_bytes
a_page_parts p h = let q = and_parts (eqb (length p) 512) (every (λ b. ltb b 256) p) h in (eqb-true (length p) 512 q.0, q.1)

pub a_page_from : (p : Page) → length p ≡ 512 → all_bytes p ≡ true → a_page p ≡ true
unfolding all_bytes
a_page_from p l h = and_from (eqb (length p) 512) (every (λ b. ltb b 256) p) (eq-eqb (length p) 512 l) h

pub length_page_words : (p : Page) → length (page_words p) ≡ 64
unfolding page_words
length_page_words p = pick_both (λ ws. length ws ≡ 64) (a_page p) (words 64 p) (zeros 64) (λ _. length_words 64 p) (λ _. length_zeros 64)

pub page_words_small : (p : Page) → small (page_words p) ≡ true
unfolding page_words
page_words_small p =
    pick_both (λ ws. small ws ≡ true) (a_page p) (words 64 p) (zeros 64) (λ h. words_small 64 p (a_page_parts p h).1) (λ _. small_zeros 64)

pub page_of_words : (ws : List ℕ) → length ws ≡ 64 → a_page (bytes_of ws) ≡ true
page_of_words ws l = a_page_from (bytes_of ws) (length_bytes_of ws ∙ ap (λ n. 8 * n) l) (all_bytes_of ws)

pub words_of_page : (ws : List ℕ) → length ws ≡ 64 → small ws ≡ true → page_words (bytes_of ws) ≡ ws
unfolding page_words
words_of_page ws l h =
    pick_true (a_page (bytes_of ws)) (words 64 (bytes_of ws)) (zeros 64) (page_of_words ws l)
    ∙ ap (λ n. words n (bytes_of ws)) (sym l) ∙ words_of_bytes ws h

-- and back
pub page_of_page_words : (p : Page) → a_page p ≡ true → bytes_of (page_words p) ≡ p
unfolding page_words
page_of_page_words p h =
    let q = a_page_parts p h in ap bytes_of (pick_true (a_page p) (words 64 p) (zeros 64) h) ∙ bytes_of_words 64 p q.0 q.1

-- the head's page
bytes_of_zeros : (n : ℕ) → bytes_of (zeros n) ≡ zeros (8 * n)
unfolding bytes_of zeros in_bytes
bytes_of_zeros zero = refl
bytes_of_zeros (suc n) = ap (λ bs. eight 0 ++ bs) (bytes_of_zeros n) ∙ zeros_append 8 (8 * n) ∙ (let e : 8 + 8 * n ≡ 8 * suc n = omega arith in ap zeros e)

pub head_page_is : (h : List ℕ) → length h ≡ 32 → head_page h ≡ bytes_of (h ++ zeros 32)
unfolding head_page
head_page_is h l =
    ap₂ (λ xs ys. bytes_of xs ++ ys) (take_all 32 h (omega arith)) (sym (bytes_of_zeros 32)) ∙ sym (bytes_of_append h (zeros 32))

padded : (h : List ℕ) → length h ≡ 32 → length (h ++ zeros 32) ≡ 64
padded h l = omega (arith, length-append h (zeros 32), length_zeros 32)

pub head_is_page : (h : List ℕ) → length h ≡ 32 → a_page (head_page h) ≡ true
head_is_page h l = ap a_page (head_page_is h l) ∙ page_of_words (h ++ zeros 32) (padded h l)

pub head_words : (h : List ℕ) → length h ≡ 32 → small h ≡ true → take 32 (page_words (head_page h)) ≡ h
head_words h l s =
    ap (λ p. take 32 (page_words p)) (head_page_is h l)
    ∙ ap (take 32) (words_of_page (h ++ zeros 32) (padded h l) (small_append h (zeros 32) s (small_zeros 32))) ∙ take_at h (zeros 32) 32 l

-- one word more, out of a page and into a row
pub words_more : (i : ℕ) (bs : List ℕ) → words (i + 1) bs ≡ words i bs ++ from_bytes 0 (take 8 (drop (8 * i) bs)) ∷ []
unfolding words
words_more i bs = ap (λ n. words n bs) (add-one i) ∙ go i bs
  where
    go : (i : ℕ) (bs : List ℕ) → words (suc i) bs ≡ words i bs ++ from_bytes 0 (take 8 (drop (8 * i) bs)) ∷ []
    go zero bs = refl
    go (suc i) bs =
        let e : 8 + 8 * i ≡ 8 * suc i = omega arith in
        ap (λ xs. from_bytes 0 (take 8 bs) ∷ xs) (go i (drop 8 bs))
        ∙ ap (λ xs. from_bytes 0 (take 8 bs) ∷ (words i (drop 8 bs) ++ from_bytes 0 (take 8 xs) ∷ [])) (drop-drop (8 * i) 8 bs ∙ ap (λ n. drop n bs) e)

-- a part written right behind what was written before
pub put_behind : (a k : ℕ) (front was new : List ℕ) → length front ≡ a → put_mid a k (front ++ drop a was) new ≡ (front ++ new) ++ drop (a + k) was
put_behind a k front was new l =
    ap₂ (λ xs ys. xs ++ (new ++ drop k ys)) (take_at front (drop a was) a l) (drop_at front (drop a was) a l) ∙ ap (λ xs. front ++ (new ++ xs)) (drop-drop k a was)
    ∙ sym (append_assoc front new (drop (a + k) was))

length_front : (q : ℕ) (ws : List ℕ) → q ≤ length ws → length (bytes_of (take q ws)) ≡ 8 * q
length_front q ws h = length_bytes_of (take q ws) ∙ ap (λ k. 8 * k) (length-take-le q ws h)

-- the first bytes of words: whole words, and a part of the next
pub bytes_front : (ws : List ℕ) (q r : ℕ) → q < length ws → r ≤ 8 → take (8 * q + r) (bytes_of ws) ≡ bytes_of (take q ws) ++ take r (eight (get_or ws q 0))
unfolding bytes_of
bytes_front ws q r h b =
    let front : List ℕ = bytes_of (take q ws) in
    let x : ℕ = get_or ws q 0 in
    let rest : List ℕ = bytes_of (drop (q + 1) ws) in
    ap₂ (λ n xs. take (n + r) xs) (sym (length_front q ws (omega arith)))
    (ap bytes_of (sym (take-append-drop q ws)) ∙ bytes_of_append (take q ws) (drop q ws) ∙ ap (λ xs. front ++ bytes_of xs) (drop_more ws q 0 h))
    ∙ take-append-add front (eight x ++ rest) r ∙ ap (λ xs. front ++ xs) (take-append-le r (eight x) rest (omega (arith, length_eight x)))

pub bytes_whole : (ws : List ℕ) (q : ℕ) → q ≤ length ws → take (8 * q) (bytes_of ws) ≡ bytes_of (take q ws)
bytes_whole ws q h =
    ap (take (8 * q)) (ap bytes_of (sym (take-append-drop q ws)) ∙ bytes_of_append (take q ws) (drop q ws))
    ∙ take_at (bytes_of (take q ws)) (bytes_of (drop q ws)) (8 * q) (length_front q ws h)

pub put_more : (ws out was new : List ℕ) (i : ℕ) → i < length ws → out ≡ bytes_of (take i ws) ++ drop (8 * i) was → new ≡ eight (get_or ws i 0) →
    put_mid (8 * i) (8 * i + 8 - 8 * i) out new ≡ bytes_of (take (i + 1) ws) ++ drop (8 * (i + 1)) was
put_more ws out was new i h e n =
    let front : List ℕ = bytes_of (take i ws) in
    let k : 8 * i + 8 - 8 * i ≡ 8 = omega arith in
    let s : 8 * i + 8 ≡ 8 * (i + 1) = omega arith in
    ap₂ (λ xs j. put_mid (8 * i) j xs new) e k ∙ put_behind (8 * i) 8 front was new (length_front i ws (omega arith))
    ∙ ap₂ (λ xs j. (front ++ xs) ++ drop j was) (n ∙ sym (take_all 8 (eight (get_or ws i 0)) (omega (arith, length_eight (get_or ws i 0))))) s
    ∙ ap (λ xs. xs ++ drop (8 * (i + 1)) was) (sym (bytes_front ws i 8 h (omega arith)) ∙ ap (λ j. take j (bytes_of ws)) s ∙ bytes_whole ws (i + 1) (omega arith))

-- a head's page has only the front of memory
pub head_of_front : (m : List ℕ) → head_page m ≡ head_page (take 32 m)
unfolding head_page
head_of_front m = ap (λ (x : List ℕ). bytes_of x ++ zeros 256) (sym (take-take 32 32 m (omega arith)))

pub length_head_page : (m : List ℕ) → 32 ≤ length m → length (head_page m) ≡ 512
unfolding head_page
length_head_page m h =
    omega (arith, length-append (bytes_of (take 32 m)) (zeros 256), length_bytes_of (take 32 m), length-take-le 32 m h, length_zeros 256)
