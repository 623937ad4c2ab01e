-- Stored entries spread into a row.
use Rattle.std.proofs.Common.{◌≡◌, ℕ, zero, suc, ◌+◌, ◌-◌, ◌*◌, ◌<◌, ◌≤◌, true, false, leb, List, [], ◌∷◌, ◌++◌, length, get_or, take, drop, set, sym, refl, ap, ◌∙◌, ap₂, append_assoc, append-nil, add-zero, arith, length-append, length-take}
use borrow.Rule.Slice.PartMut.{put_mid}
use Rattle.std.proofs.lemmas.Bool.{le-leb, and_from}
use Rattle.std.proofs.lemmas.List.{drop-drop, get_or-drop, get_or-take, get_or_past, get_or_at, get_or_append_left, take_at, drop_at, length-take-le, take-append-drop}
use Rattle.pages.specs.Lists.{flat, zeros}
use Rattle.pages.proofs.ListLaws.{pick_true, pick_false}
use Rattle.pages.proofs.WordLaws.{length_zeros}
use Rattle.trees.specs.Tree.{Tree}
use Rattle.trees.specs.Row.{entry, cut, in_words, laid, room, rewritten}
use Rattle.pages.specs.Object.{references_of, data_of}
use Rattle.trees.specs.Packed.{needed, stride, unpacked, unpacked_all, files_in, entries_in, weight_in, spread_fits, spread_into}
use Rattle.trees.proofs.RowLaws.{cut_take, flat_cut, rewritten_is}
use Rattle.trees.proofs.StoredLaws.{cut_push}

-- zeros behind are as nothing
get_or_zeros : (n i : ℕ) → get_or (zeros n) i 0 ≡ 0
unfolding zeros
get_or_zeros zero i = refl
get_or_zeros (suc n) zero = refl
get_or_zeros (suc n) (suc i) = get_or_zeros n i

get_or_zeros_behind : (xs : List ℕ) (n i : ℕ) → get_or (xs ++ zeros n) i 0 ≡ get_or xs i 0
get_or_zeros_behind [] n i = get_or_zeros n i
get_or_zeros_behind (x ∷ xs) n zero = refl
get_or_zeros_behind (x ∷ xs) n (suc i) = get_or_zeros_behind xs n i

pub path_word_in : (xs : List ℕ) (at k i : ℕ) → i < k → get_or xs (at + i) 0 ≡ get_or (take k (drop at xs) ++ zeros 8) i 0
path_word_in xs at k i h = sym (get_or_zeros_behind (take k (drop at xs)) 8 i ∙ get_or-take k (drop at xs) i 0 h ∙ get_or-drop at xs i 0)

pub path_word_past : (xs : List ℕ) (at k i : ℕ) → k ≤ i → 0 ≡ get_or (take k (drop at xs) ++ zeros 8) i 0
path_word_past xs at k i h = sym (get_or_zeros_behind (take k (drop at xs)) 8 i ∙ get_or_past (take k (drop at xs)) i 0 (omega (arith, length-take k (drop at xs))))

pub unpacked_words : (xs : List ℕ) (at size k r : ℕ) → size ≡ get_or xs at 0 → k ≡ needed size →
    (take 8 (take k (drop (at + 1) xs) ++ zeros 8) ++ size ∷ []) ++ r ∷ [] ≡ in_words (unpacked r (drop at xs))
unfolding unpacked
unpacked_words xs at size k r es ek =
    let s : size ≡ get_or (drop at xs) 0 0 = es ∙ sym (get_or-drop at xs 0 0 ∙ ap (λ n. get_or xs n 0) (add-zero at)) in
    ap₂ (λ n ys. (take 8 (take n ys ++ zeros 8) ++ size ∷ []) ++ r ∷ []) (ek ∙ ap needed s) (sym (drop-drop 1 at xs))
    ∙ ap (λ x. (take 8 (take (needed (get_or (drop at xs) 0 0)) (drop 1 (drop at xs)) ++ zeros 8) ++ x ∷ []) ++ r ∷ []) s

-- a word of them: of the path, its length, and the reference
module _ (front : List ℕ) (s r : ℕ) (e : length front ≡ 8) where
  pub word_path : (i : ℕ) → i < 8 → get_or ((front ++ s ∷ []) ++ r ∷ []) i 0 ≡ get_or front i 0
  word_path i h =
      get_or_append_left (front ++ s ∷ []) (r ∷ []) 0 i (omega (arith, length-append front (s ∷ []))) ∙ get_or_append_left front (s ∷ []) 0 i (omega arith)

  pub word_size : get_or ((front ++ s ∷ []) ++ r ∷ []) 8 0 ≡ s
  word_size = get_or_append_left (front ++ s ∷ []) (r ∷ []) 0 8 (omega (arith, length-append front (s ∷ []))) ∙ get_or_at front s [] 0 8 e

  pub word_reference : get_or ((front ++ s ∷ []) ++ r ∷ []) 9 0 ≡ r
  word_reference = get_or_at (front ++ s ∷ []) r [] 0 9 (omega (arith, length-append front (s ∷ [])))

pub length_front : (p : List ℕ) → length (take 8 (p ++ zeros 8)) ≡ 8
length_front p = omega (arith, length-take 8 (p ++ zeros 8), length-append p (zeros 8), length_zeros 8)

-- an entry that was stored has nine words for its key
pub length_unpacked : (r : ℕ) (xs : List ℕ) → length (unpacked r xs).path ≡ 9
unfolding unpacked
length_unpacked r xs =
    let p = take (needed (get_or xs 0 0)) (drop 1 xs) in
    omega (arith, length-append (take 8 (p ++ zeros 8)) (get_or xs 0 0 ∷ []), length-take 8 (p ++ zeros 8), length-append p (zeros 8), length_zeros 8)

pub length_words : (r : ℕ) (xs : List ℕ) → length (in_words (unpacked r xs)) ≡ 10
unfolding unpacked
length_words r xs = omega (arith, length_unpacked r xs, length-append (unpacked r xs).path (r ∷ []))

-- one entry more is spread
pub spread_more : (i n at at' k r : ℕ) (rs xs body was new : List ℕ) (all : Tree) → i < n → 10 * n ≤ length body → k ≡ 10 → r ≡ get_or rs i 0 →
    new ≡ in_words (unpacked r (drop at xs)) → at' ≡ at + stride (drop at xs) →
    cut i body ++ unpacked_all (n - i) (drop i rs) (drop at xs) ≡ all → drop (10 * i) body ≡ drop (10 * i) was →
    (cut (i + 1) (put_mid (10 * i) k body new) ++ unpacked_all (n - (i + 1)) (drop (i + 1) rs) (drop at' xs) ≡ all)
    × (drop (10 * (i + 1)) (put_mid (10 * i) k body new) ≡ drop (10 * (i + 1)) was)
unfolding unpacked_all unpacked
spread_more i n at at' k r rs xs body was new all h l ek er en ea inv same =
    let x : List ℕ = drop at xs in
    let key : List ℕ = (unpacked r x).path in
    let b : List ℕ = put_mid (10 * i) 10 body new in
    let rest : List ℕ = drop 10 (drop (10 * i) body) in
    let lf : length (take (10 * i) body) ≡ 10 * i = length-take-le (10 * i) body (omega arith) in
    let front : take (10 * i) b ≡ take (10 * i) body = take_at (take (10 * i) body) (new ++ rest) (10 * i) lf in
    let back : drop (10 * i) b ≡ key ++ (r ∷ rest) = drop_at (take (10 * i) body) (new ++ rest) (10 * i) lf ∙ ap (λ u. u ++ rest) en ∙ append_assoc key (r ∷ []) rest in
    let e : cut i b ≡ cut i body = sym (cut_take i b) ∙ ap (cut i) front ∙ cut_take i body in
    let ref : get_or b (10 * i + 9) 0 ≡ r = sym (get_or-drop (10 * i) b 9 0) ∙ ap (λ u. get_or u 9 0) back ∙ get_or_at key r rest 0 9 (length_unpacked r x) in
    let kw : take 9 (drop (10 * i) b) ≡ key = ap (take 9) back ∙ take_at key (r ∷ rest) 9 (length_unpacked r x) in
    let first : r ≡ get_or (drop i rs) 0 0 = er ∙ sym (get_or-drop i rs 0 0 ∙ ap (λ j. get_or rs j 0) (add-zero i)) in
    let pushed : cut (i + 1) b ≡ cut i body ++ unpacked (get_or (drop i rs) 0 0) x ∷ [] = cut_push i b ∙ ap₂ (λ u v. u ++ v ∷ []) e (ap₂ (λ u v. entry u v) kw (ref ∙ first)) in
    let m : n - i ≡ suc (n - (i + 1)) = omega arith in
    let d : drop at' xs ≡ drop (stride x) x = ap (λ j. drop j xs) ea ∙ sym (drop-drop (stride x) at xs) in
    let ten : length (key ++ r ∷ []) ≡ 10 = omega (arith, length-append key (r ∷ []), length_unpacked r x) in
    let j : 10 * i + 10 ≡ 10 * (i + 1) = omega arith in
    let left : Tree = unpacked_all (n - (i + 1)) (drop 1 (drop i rs)) (drop (stride x) x) in
    let is : cut (i + 1) b ++ unpacked_all (n - (i + 1)) (drop (i + 1) rs) (drop at' xs) ≡ all =
    ap₂ (λ u v. u ++ unpacked_all (n - (i + 1)) (drop (i + 1) rs) v) pushed d
    ∙ ap (λ v. (cut i body ++ unpacked (get_or (drop i rs) 0 0) x ∷ []) ++ unpacked_all (n - (i + 1)) v (drop (stride x) x)) (sym (drop-drop 1 i rs))
    ∙ append_assoc (cut i body) (unpacked (get_or (drop i rs) 0 0) x ∷ []) left
    ∙ ap (λ q. cut i body ++ unpacked_all q (drop i rs) x) (sym m) ∙ inv in
    let kept : drop (10 * (i + 1)) b ≡ drop (10 * (i + 1)) was =
    ap (λ q. drop q b) (sym j) ∙ sym (drop-drop 10 (10 * i) b) ∙ ap (drop 10) (back ∙ sym (append_assoc key (r ∷ []) rest)) ∙ drop_at (key ++ r ∷ []) rest 10 ten
    ∙ ap (drop 10) same ∙ drop-drop 10 (10 * i) was ∙ ap (λ q. drop q was) j in (
      ap (λ q. cut (i + 1) (put_mid (10 * i) q body new) ++ unpacked_all (n - (i + 1)) (drop (i + 1) rs) (drop at' xs)) ek ∙ is,
      ap (λ q. drop (10 * (i + 1)) (put_mid (10 * i) q body new)) ek ∙ kept,
    )

pub length_unpacked_all : (n : ℕ) (rs xs : List ℕ) → length (unpacked_all n rs xs) ≡ n
unfolding unpacked_all
length_unpacked_all zero rs xs = refl
length_unpacked_all (suc n) rs xs = ap suc (length_unpacked_all n (drop 1 rs) (drop (stride xs) xs))

-- and all are
pub spread_all : (i n at : ℕ) (rs xs body was : List ℕ) (all : Tree) → i ≡ n → 10 * n ≤ length body → length all ≡ n →
    cut i body ++ unpacked_all (n - i) (drop i rs) (drop at xs) ≡ all → drop (10 * i) body ≡ drop (10 * i) was → body ≡ laid all was
unfolding unpacked_all
spread_all i n at rs xs body was all e l la inv same =
    let z : n - i ≡ 0 = omega arith in
    let u : cut n body ≡ all = ap (λ j. cut j body) (sym e) ∙ sym (append-nil (cut i body)) ∙ ap (λ j. cut i body ++ unpacked_all j (drop i rs) (drop at xs)) (sym z) ∙ inv in
    sym (take-append-drop (10 * n) body) ∙ ap₂ (λ a b. a ++ b) (sym (flat_cut n body l)) (ap (λ j. drop (10 * j) body) (sym e) ∙ same ∙ ap (λ j. drop (10 * j) was) e)
    ∙ ap₂ (λ es j. flat in_words es ++ drop (10 * j) was) u (sym la)

-- references behind those that are read do not matter
unpacked_take : (n : ℕ) (rs xs : List ℕ) → unpacked_all n (take n rs) xs ≡ unpacked_all n rs xs
unfolding unpacked_all
unpacked_take zero rs xs = refl
unpacked_take (suc n) [] xs = refl
unpacked_take (suc n) (r ∷ rs) xs = ap (λ u. unpacked r xs ∷ u) (unpacked_take n rs (drop (stride xs) xs))

-- the entries, as code reads them that lends all words
pub entries_read : (xs : List ℕ) (n : ℕ) → n ≡ files_in xs → unpacked_all n (drop 2 xs) (drop (3 + n) xs) ≡ entries_in xs
entries_read xs n e =
    let k = files_in xs in
    let m : 3 + n ≡ 2 + k + 1 = omega arith in
    ap₂ (λ i j. unpacked_all i (drop 2 xs) (drop j xs)) e m ∙ ap (unpacked_all k (drop 2 xs)) (sym (drop-drop 1 (2 + k) xs)) ∙ sym (unpacked_take k (drop 2 xs) (drop 1 (data_of xs)))

pub spread_done : (xs ws b : List ℕ) (c w n : ℕ) → 2 ≤ length ws → n ≡ files_in xs → n ≤ room ws → c ≡ n → w ≡ get_or xs (2 + n) 0 →
    b ≡ laid (unpacked_all n (drop 2 xs) (drop (3 + n) xs)) (drop 2 ws) → (true ≡ spread_fits xs ws) × (set (set (put_mid 2 (length ws - 2) ws b) 0 c) 1 w ≡ spread_into xs ws)
unfolding spread_into
spread_done xs ws b c w n l en h ec ew e =
    let k = files_in xs in
    let t : spread_fits xs ws ≡ true = and_from (leb 2 (length ws)) (leb k (room ws)) (le-leb 2 (length ws) l) (le-leb k (room ws) (omega arith)) in
    let es = entries_in xs in
    let is : b ≡ laid es (drop 2 ws) = e ∙ ap (λ u. laid u (drop 2 ws)) (entries_read xs n en) in
    let weight : w ≡ weight_in xs = ew ∙ ap (λ i. get_or xs (2 + i) 0) en ∙ sym (get_or-drop (2 + k) xs 0 0 ∙ ap (λ i. get_or xs i 0) (add-zero (2 + k))) in (
      sym t,
      rewritten_is ws b es c w l is (ec ∙ en ∙ sym (length_unpacked_all k (references_of xs) (drop 1 (data_of xs)))) ∙ ap (λ v. rewritten v es ws) weight
          ∙ sym (pick_true (spread_fits xs ws) (rewritten (weight_in xs) es ws) ws t),
    )

pub spread_not : (xs ws : List ℕ) → spread_fits xs ws ≡ false → (false ≡ spread_fits xs ws) × (ws ≡ spread_into xs ws)
unfolding spread_into
spread_not xs ws f = (sym f, sym (pick_false (spread_fits xs ws) (rewritten (weight_in xs) (entries_in xs) ws) ws f))
