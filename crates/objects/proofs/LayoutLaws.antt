-- Files, commits and names as they are put together and read; bytes in words and back. Assumes nothing.
use Rattle.std.proofs.Common.{◌≡◌, ℕ, zero, suc, ◌+◌, ◌-◌, ◌*◌, ◌/◌, ◌%◌, ◌<◌, ◌≤◌, min, Bool, true, ◌&&◌, eqb, leb, List, [], ◌∷◌, ◌++◌, length, get_or, take, drop, set, Some, None, sym, refl, ap, ◌∙◌, ap₂, ⊎_elim, arith, length-append, length-drop}
use lib.Seq.{take-append-add}
use Rattle.std.specs.Simd.{first_chunks}
use Rattle.std.proofs.lemmas.List.{append-nil, drop-append-le, drop_all, drop_at, drop-drop, drop-take, length-take, length-take-le, take_all, take_min, nil_from_length, take-append-le, take_at, take-take}
use Rattle.std.proofs.lemmas.Bool.{and_from, and_parts, cases_lt, eq-eqb, le-leb, leb-true}
use Rattle.pages.specs.Bytes.{all_bytes, from_bytes}
use Rattle.pages.specs.Lists.{pick, zeros}
use Rattle.pages.specs.Object.{heading, kind_in, kind_of}
use Rattle.pages.specs.Words.{bytes_of, over, words}
use Rattle.pages.proofs.BytesLaws.{all_bytes_append, all_bytes_take}
use Rattle.pages.proofs.ListLaws.{pick_true}
use Rattle.pages.proofs.WordLaws.{bytes_of_words, length_words, length_zeros, words_more, zeros_append}
use Rattle.objects.specs.Layouts.{answered, bytes_put, bytes_stand, commit_in, commit_of, eight_of, file_object, file_bytes, in_front, name_in, name_of, of_kind, packed_bytes, words_at, words_for, BytesBack, ReadBack}
use Rattle.objects.specs.Marking.{key_words}
use Rattle.objects.specs.Plan.{plan_end, rest_at}
use Rattle.objects.specs.declared.layouts.Commit.{Commit}
use Rattle.objects.specs.declared.layouts.Name.{Name}
use Rattle.objects.specs.declared.mark.Key.{Key}
use Rattle.objects.proofs.OverLaws.{over_nothing, over_push}

-- COMPOSING: words that stand behind the buffer are as many as they should be
pub as_many : (most bytes from : ℕ) (m : List ℕ) → bytes_stand most bytes from m ≡ true → words_for bytes ≡ length (words_at bytes from m)
as_many most bytes from m h =
    let p = and_parts (leb plan_end (length m)) (leb bytes most && (leb rest_at from && leb (from + words_for bytes) (length m))) h in
    let q = and_parts (leb bytes most) (leb rest_at from && leb (from + words_for bytes) (length m)) p.1 in
    let r = and_parts (leb rest_at from) (leb (from + words_for bytes) (length m)) q.1 in
    let l : from + words_for bytes ≤ length m = leb-true (from + words_for bytes) (length m) r.1 in
    sym (length-take-le (words_for bytes) (drop from m) (omega (arith, length-drop from m)))

pub at_most : (most bytes from : ℕ) (m : List ℕ) → bytes_stand most bytes from m ≡ true → bytes ≤ most
at_most most bytes from m h =
    let p = and_parts (leb plan_end (length m)) (leb bytes most && (leb rest_at from && leb (from + words_for bytes) (length m))) h in
    leb-true bytes most (and_parts (leb bytes most) (leb rest_at from && leb (from + words_for bytes) (length m)) p.1).0

pub answers : (fits : Bool) (o : List ℕ) (n : ℕ) → fits ≡ true → n ≡ length o → Some n ≡ answered fits o
answers fits o n t e = ap Some e ∙ sym (pick_true fits (Some (length o)) None t)

pub lays : (fits : Bool) (o m x y : List ℕ) → fits ≡ true → x ≡ over 0 y m → y ≡ o → x ≡ in_front fits o m
lays fits o m x y t e f = e ∙ ap (λ z. over 0 z m) f ∙ sym (pick_true fits (over 0 o m) m t)

-- READING BACK
there : (kind : ℕ) (m : List ℕ) → plan_end ≤ length m → kind_of m ≡ kind → of_kind kind m ≡ true
there kind m h e = and_from (leb plan_end (length m)) (eqb (kind_of m) kind) (le-leb plan_end (length m) h) (eq-eqb (kind_of m) kind e)

pub reads_back : ReadBack
reads_back =
    record {
      file = file;
      file_words = λ sum bytes ws rest. take_at ws rest (length ws) refl;
      file_sum = λ sum bytes ws rest. refl;
      commit = commit;
      commit_words = λ c ws rest. take_at ws rest (length ws) refl;
      name = name;
      name_words = λ n ws rest. take_at ws rest (length ws) refl;
    }
  where
    file : (sum : Key) (bytes : ℕ) (ws rest : List ℕ) → length ws ≤ 8192 → plan_end ≤ length (file_object (key_words sum) bytes ws ++ rest) →
        pick (of_kind 1 (file_object (key_words sum) bytes ws ++ rest)) (Some (file_bytes (file_object (key_words sum) bytes ws ++ rest))) None ≡ Some bytes
    file sum bytes ws rest l h =
        let o : List ℕ = file_object (key_words sum) bytes ws ++ rest in
        let k : kind_in (heading 1 0 (6 + length ws)) ≡ 1 = omega arith in
        let e : 64 + bytes - 64 ≡ bytes = omega arith in
        pick_true (of_kind 1 o) (Some (file_bytes o)) None (there 1 o h k) ∙ ap Some e

    commit : (c : Commit) (ws rest : List ℕ) → length ws ≤ 8192 → plan_end ≤ length (commit_of c ws ++ rest) →
        pick (of_kind 3 (commit_of c ws ++ rest)) (Some (commit_in (commit_of c ws ++ rest))) None ≡ Some c
    commit c ws rest l h =
        let o : List ℕ = commit_of c ws ++ rest in
        let k : kind_in (heading 3 3 (11 + length ws)) ≡ 3 = omega arith in
        let e : 256 + c.bytes + c.tree_weight - 256 - c.tree_weight ≡ c.bytes = omega arith in
        pick_true (of_kind 3 o) (Some (commit_in o)) None (there 3 o h k)
        ∙ ap (λ b. Some (record { tree = c.tree; one = c.one; two = c.two; id = c.id; stamp = c.stamp; tree_weight = c.tree_weight; bytes = b })) e

    name : (n : Name) (ws rest : List ℕ) → length ws ≤ 8192 → plan_end ≤ length (name_of n ws ++ rest) →
        pick (of_kind 4 (name_of n ws ++ rest)) (Some (name_in (name_of n ws ++ rest))) None ≡ Some n
    name n ws rest l h =
        let o : List ℕ = name_of n ws ++ rest in
        let k : kind_in (heading 4 2 (6 + length ws)) ≡ 4 = omega arith in
        pick_true (of_kind 4 o) (Some (name_in o)) None (there 4 o h k)

-- BYTES IN WORDS: zeros behind the last
front_zeros : (n k : ℕ) → n ≤ k → take n (zeros k) ≡ zeros n
front_zeros n k h =
    let e : n + (k - n) ≡ k = omega arith in
    ap (take n) (sym (zeros_append n (k - n) ∙ ap zeros e)) ∙ take_at (zeros n) (zeros (k - n)) n (length_zeros n)

behind_zeros : (n k : ℕ) → n ≤ k → drop n (zeros k) ≡ zeros (k - n)
behind_zeros n k h =
    let e : n + (k - n) ≡ k = omega arith in
    ap (drop n) (sym (zeros_append n (k - n) ∙ ap zeros e)) ∙ drop_at (zeros n) (zeros (k - n)) n (length_zeros n)

no_zeros : (xs : List ℕ) → xs ++ zeros 0 ≡ xs
unfolding zeros
no_zeros xs = append-nil xs

eight_padded : (d : List ℕ) → 0 < length d → take 8 (d ++ zeros 7) ≡ take (min (length d) 8) d ++ zeros (8 - min (length d) 8)
eight_padded d h =
    ⊎_elim
    (λ (lo : length d < 8).
    let k : min (length d) 8 ≡ length d = omega arith in
    let e : length d + (8 - length d) ≡ 8 = omega arith in
    ap (λ n. take n (d ++ zeros 7)) (sym e) ∙ take-append-add d (zeros 7) (8 - length d) ∙ ap (λ z. d ++ z) (front_zeros (8 - length d) 7 (omega arith))
    ∙ sym (ap (λ n. take n d ++ zeros (8 - n)) k ∙ ap (λ z. z ++ zeros (8 - length d)) (take_all (length d) d (omega arith))))
    (λ (hi : 8 ≤ length d).
    let k : min (length d) 8 ≡ 8 = omega arith in
    take-append-le 8 d (zeros 7) hi ∙ sym (ap (λ n. take n d ++ zeros (8 - n)) k ∙ no_zeros (take 8 d)))
    (cases_lt (length d) 8)

pub padded_made : (bs ys zs : List ℕ) → length bs ≤ 8 → ys ≡ bs → zs ≡ zeros 8 → ys ++ drop (length bs) zs ≡ bs ++ zeros (8 - length bs)
padded_made bs ys zs h e f = ap₂ (λ a b. a ++ b) e (ap (drop (length bs)) f ∙ behind_zeros (length bs) 8 h)

-- the i-th eight bytes with zeros behind them
eight_is : (bs : List ℕ) (i : ℕ) → 8 * i < length bs → take 8 (drop (8 * i) bs) ++ zeros (8 - length (take 8 (drop (8 * i) bs))) ≡ eight_of i bs
eight_is bs i h =
    ap₂ (λ a n. a ++ zeros (8 - n)) (sym (take_min 8 d) ∙ ap (λ n. take n d) least) (length-take 8 d ∙ least) ∙ sym (eight_padded d (omega (arith, length-drop (8 * i) bs)))
    ∙ ap (take 8) (sym (drop-append-le (8 * i) bs (zeros 7) (omega arith)))
  where
    d : List ℕ
    d = drop (8 * i) bs

    least : min 8 (length (drop (8 * i) bs)) ≡ min (length (drop (8 * i) bs)) 8
    least = omega arith

-- a chunk of eight bytes, or of the last ones
pub chunk_is : (bs xs x rest : List ℕ) (i : ℕ) → xs ≡ drop (8 * i) bs → xs ≡ x ++ rest → length x ≡ min 8 (length xs) → 0 < length xs →
    (8 * i < length bs) × (rest ≡ drop (8 * (i + 1)) bs) × (x ≡ take 8 (drop (8 * i) bs))
chunk_is bs xs x rest i e f l h = (omega (arith, length-drop (8 * i) bs, ap length e), behind, front)
  where
    front : x ≡ take 8 (drop (8 * i) bs)
    front = sym (take_at x rest (min 8 (length xs)) l) ∙ ap (take (min 8 (length xs))) (sym f) ∙ take_min 8 xs ∙ ap (take 8) e

    on : drop 8 xs ≡ drop (8 * (i + 1)) bs
    on = let k : 8 * i + 8 ≡ 8 * (i + 1) = omega arith in ap (drop 8) e ∙ drop-drop 8 (8 * i) bs ∙ ap (λ n. drop n bs) k

    all : length xs ≡ length x + length rest
    all = ap length f ∙ length-append x rest

    behind : rest ≡ drop (8 * (i + 1)) bs
    behind =
        ⊎_elim
        (λ (lo : length xs < 8). nil_from_length rest (omega (arith, all, l)) ∙ sym (drop_all 8 xs (omega arith)) ∙ on)
        (λ (hi : 8 ≤ length xs). sym (drop_at x rest 8 (omega (arith, l))) ∙ ap (drop 8) (sym f) ∙ on) (cases_lt (length xs) 8)

-- word by word
pub put_none : (bs m : List ℕ) (at : ℕ) → at ≤ length m → m ≡ over at (words 0 (bs ++ zeros 7)) m
unfolding words
put_none bs m at h = sym (over_nothing at m h)

pub put_more : (bs m x w : List ℕ) (at i : ℕ) → 8 * i < length bs → at + i < length m → x ≡ over at (words i (bs ++ zeros 7)) m →
    w ≡ take 8 (drop (8 * i) bs) ++ zeros (8 - length (take 8 (drop (8 * i) bs))) →
    set x (at + i) (from_bytes 0 (take 8 w)) ≡ over at (words (i + 1) (bs ++ zeros 7)) m
put_more bs m x w at i l h e f =
    ap (λ z. set x (at + i) (from_bytes 0 (take 8 z))) (f ∙ eight_is bs i l)
    ∙ ap (λ z. set x (at + i) (from_bytes 0 z)) (take-take 8 8 (drop (8 * i) (bs ++ zeros 7)) (omega arith))
    ∙ ap₂ (λ y k. set y k (from_bytes 0 (eight_of i bs))) e place
    ∙ over_push at (words i (bs ++ zeros 7)) m (from_bytes 0 (eight_of i bs)) (omega (arith, length_words i (bs ++ zeros 7)))
    ∙ ap (λ z. over at z m) (sym (words_more i (bs ++ zeros 7)))
  where
    place : at + i ≡ at + length (words i (bs ++ zeros 7))
    place = omega (arith, length_words i (bs ++ zeros 7))

-- the i-th of the whole eights, as it stands and with no zeros behind it
eights_at : (k i : ℕ) (bs : List ℕ) → i < k → get_or (first_chunks 8 k bs) i [] ≡ take 8 (drop (8 * i) bs)
eights_at zero i bs h = absurd (omega arith)
eights_at (suc k) zero bs h = refl
eights_at (suc k) (suc i) bs h =
    let e : 8 + 8 * i ≡ 8 * suc i = omega arith in
    eights_at k i (drop 8 bs) (omega arith) ∙ ap (take 8) (drop-drop (8 * i) 8 bs ∙ ap (λ n. drop n bs) e)

pub whole_eight : (bs : List ℕ) (es : List (List ℕ)) (i : ℕ) → es ≡ first_chunks 8 (length bs / 8) bs → length es ≡ length bs / 8 → i < length es →
    get_or es i [] ≡ take 8 (drop (8 * i) bs) ++ zeros (8 - length (take 8 (drop (8 * i) bs)))
whole_eight bs es i e l h =
    ap (λ xs. get_or xs i []) e ∙ eights_at (length bs / 8) i bs (omega (arith, l))
    ∙ sym (ap (λ n. take 8 (drop (8 * i) bs) ++ zeros n) none ∙ no_zeros (take 8 (drop (8 * i) bs)))
  where
    none : 8 - length (take 8 (drop (8 * i) bs)) ≡ 0
    none = omega (arith, length-take 8 (drop (8 * i) bs), length-drop (8 * i) bs, l)

-- what is left behind them, with zeros behind it
pub last_eight : (bs rest w : List ℕ) (i : ℕ) → rest ≡ drop (length bs / 8 * 8) bs → length rest ≡ length bs % 8 → i ≡ length bs / 8 →
    w ≡ rest ++ zeros (8 - length rest) → w ≡ take 8 (drop (8 * i) bs) ++ zeros (8 - length (take 8 (drop (8 * i) bs)))
last_eight bs rest w i e l j f = f ∙ ap (λ z. z ++ zeros (8 - length z)) (sym (take_all 8 rest (omega (arith, l))) ∙ ap (take 8) (e ∙ ap (λ n. drop n bs) place))
  where
    place : length bs / 8 * 8 ≡ 8 * i
    place = omega (arith, j)

pub put_all : (bs m : List ℕ) (at : ℕ) → at + words_for (length bs) ≤ length m → over at (packed_bytes bs) m ≡ bytes_put at bs m
put_all bs m at h = sym (pick_true (leb (at + words_for (length bs)) (length m)) (over at (packed_bytes bs) m) m (le-leb (at + words_for (length bs)) (length m) h))

-- and out of words
words_front : (n : ℕ) (bs : List ℕ) → words n (take (8 * n) bs) ≡ words n bs
unfolding words
words_front zero bs = refl
words_front (suc n) bs =
    let e : 8 * suc n ≡ 8 + 8 * n = omega arith in
    ap₂ (λ w ws. w ∷ ws) (ap (from_bytes 0) (take-take 8 (8 * suc n) bs (omega arith)))
    (ap (λ k. words n (drop 8 (take k bs))) e ∙ ap (words n) (drop-take 8 (8 * n) bs) ∙ words_front n (drop 8 bs))

seven_zeros : all_bytes (zeros 7) ≡ true
unfolding all_bytes zeros
seven_zeros = refl

pub bytes_back : BytesBack
bytes_back bs h =
    ap (λ ws. take (length bs) (bytes_of ws)) (sym (words_front n (bs ++ zeros 7)))
    ∙ ap (take (length bs))
    (bytes_of_words n (take (8 * n) (bs ++ zeros 7)) (length-take-le (8 * n) (bs ++ zeros 7) (omega (arith, length-append bs (zeros 7), length_zeros 7)))
    (all_bytes_take (8 * n) (bs ++ zeros 7) (all_bytes_append bs (zeros 7) ∙ and_from (all_bytes bs) (all_bytes (zeros 7)) h seven_zeros)))
    ∙ take-take (length bs) (8 * n) (bs ++ zeros 7) (omega arith) ∙ take_at bs (zeros 7) (length bs) refl
  where
    n : ℕ
    n = words_for (length bs)
