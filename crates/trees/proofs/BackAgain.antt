-- What was stored is spread again as it was.
use Rattle.std.proofs.Common.{◌≡◌, ℕ, zero, suc, ◌+◌, ◌-◌, ◌*◌, ◌≤◌, true, eqb, leb, List, [], ◌∷◌, ◌++◌, length, get_or, take, drop, sym, refl, ap, ◌∙◌, subst, ap₂, append_assoc, arith}
use lib.Seq.{take-append-add}
use Rattle.std.proofs.lemmas.Bool.{and_parts, and_from, le-leb, eqb-true}
use Rattle.std.proofs.lemmas.List.{drop-drop, get_or_append_left, get_or_at, take_at, drop_at, take-append-le, take-append-drop, length-take-le}
use Rattle.pages.specs.Lists.{every, each, first_or, zeros}
use Rattle.pages.specs.Object.{references_of, data_of}
use Rattle.pages.specs.Bytes.{from_bytes}
use Rattle.pages.specs.Words.{words}
use Rattle.pages.proofs.ListLaws.{pick_true}
use Rattle.pages.proofs.WordLaws.{length_zeros, length_words, zeros_append}
use Rattle.pages.proofs.ObjectLaws.{heading_parts}
use Rattle.trees.specs.Tree.{File, Tree}
use Rattle.trees.specs.Row.{entry, key_of, path_of, cut, in_words, held, room, entries_of, reference_of, references, rewritten}
use Rattle.trees.specs.RowOf.{good_key, RowOf}
use Rattle.trees.specs.RowPromises.{StoredRight}
use Rattle.trees.specs.Packed.{needed, packed, packed_all, squeezed, stride, unpacked, unpacked_all, files_in, entries_in, weight_in, spread_fits, spread_into}
use Rattle.trees.proofs.RowLaws.{length_cut, flat_cut}
use Rattle.trees.proofs.StoredLaws.{length_references, packed_bound}
use Rattle.trees.proofs.PackLaws.{proper_parts}
use Rattle.trees.proofs.RowOfLaws.{whole, only_one, good_parts, row_length, row_whole, row_rewritten}

-- ZEROS

drop_zeros : (n m : ℕ) → drop n (zeros (n + m)) ≡ zeros m
drop_zeros n m = ap (drop n) (sym (zeros_append n m)) ∙ drop_at (zeros n) (zeros m) n (length_zeros n)

take_zeros : (n m : ℕ) → take n (zeros (n + m)) ≡ zeros n
take_zeros n m = ap (take n) (sym (zeros_append n m)) ∙ take_at (zeros n) (zeros m) n (length_zeros n)

from_zeros : (n : ℕ) → from_bytes 0 (zeros n) ≡ 0
unfolding from_bytes zeros
from_zeros zero = refl
from_zeros (suc n) = from_zeros n

words_zeros : (m : ℕ) → words m (zeros (8 * m)) ≡ zeros m
unfolding words zeros
words_zeros zero = refl
words_zeros (suc m) =
    let e : 8 * suc m ≡ 8 + 8 * m = omega arith in
    ap (λ n. words (suc m) (zeros n)) e
    ∙ ap₂ (λ x xs. x ∷ xs) (ap (from_bytes 0) (take_zeros 8 (8 * m)) ∙ from_zeros 8) (ap (words m) (drop_zeros 8 (8 * m)) ∙ words_zeros m)

words_add : (k m : ℕ) (bs : List ℕ) → words (k + m) bs ≡ words k bs ++ words m (drop (8 * k) bs)
unfolding words
words_add zero m bs = let e : 0 + m ≡ m = omega arith in ap (λ n. words n bs) e
words_add (suc k) m bs =
    let e : suc k + m ≡ suc (k + m) = omega arith in
    let d : 8 + 8 * k ≡ 8 * suc k = omega arith in
    ap (λ n. words n bs) e ∙ ap (λ xs. from_bytes 0 (take 8 bs) ∷ xs) (words_add k m (drop 8 bs) ∙ ap (λ u. words k (drop 8 bs) ++ words m u) (drop-drop (8 * k) 8 bs ∙ ap (λ n. drop n bs) d))

-- the words that a path does not need are zeros
path_words : (p : List ℕ) (k : ℕ) → length p ≤ 64 → k ≡ needed (length p) →
    words 8 (p ++ zeros (64 - length p)) ≡ words k (p ++ zeros (64 - length p)) ++ zeros (8 - k)
path_words p k l e =
    let n = length p in
    let bs = p ++ zeros (64 - n) in
    let a : 8 ≡ k + (8 - k) = omega arith in
    let b : 8 * k ≡ n + (8 * k - n) = omega arith in
    let c : 64 - n ≡ (8 * k - n) + 8 * (8 - k) = omega arith in
    let d : drop (8 * k) bs ≡ zeros (8 * (8 - k)) =
    ap (λ i. drop i bs) b ∙ sym (drop-drop (8 * k - n) n bs) ∙ ap (drop (8 * k - n)) (drop_at p (zeros (64 - n)) n refl ∙ ap zeros c) ∙ drop_zeros (8 * k - n) (8 * (8 - k)) in
    ap (λ i. words i bs) a ∙ words_add k (8 - k) bs ∙ ap (λ u. words k bs ++ u) (ap (words (8 - k)) d ∙ words_zeros (8 - k))

-- so its first words, with zeros behind, are all of them
refilled : (p : List ℕ) (k : ℕ) → length p ≤ 64 → k ≡ needed (length p) →
    take 8 (take k (key_of p) ++ zeros 8) ++ length p ∷ [] ≡ key_of p
unfolding key_of
refilled p k l e =
    let bs = p ++ zeros (64 - length p) in
    let w = words k bs in
    let lw : length w ≡ k = length_words k bs in
    let is : words 8 bs ≡ w ++ zeros (8 - k) = path_words p k l e in
    let front : take k (words 8 bs ++ length p ∷ []) ≡ w =
    take-append-le k (words 8 bs) (length p ∷ []) (omega (arith, length_words 8 bs)) ∙ ap (take k) is ∙ take_at w (zeros (8 - k)) k lw in
    let n : 8 ≡ length w + (8 - k) = omega arith in
    let m : 8 ≡ (8 - k) + k = omega arith in
    ap (λ u. take 8 (u ++ zeros 8) ++ length p ∷ []) front ∙ ap (λ i. take i (w ++ zeros 8) ++ length p ∷ []) n
    ∙ ap (λ u. u ++ length p ∷ []) (take-append-add w (zeros 8) (8 - k) ∙ ap (λ u. w ++ u) (ap (λ i. take (8 - k) (zeros i)) m ∙ take_zeros (8 - k) k) ∙ sym is)

pub last_word : (p : List ℕ) → get_or (key_of p) 8 0 ≡ length p
unfolding key_of
last_word p = get_or_at (words 8 (p ++ zeros (64 - length p))) (length p) [] 0 8 (length_words 8 (p ++ zeros (64 - length p)))

first_get_or : (bs : List ℕ) → first_or 0 bs ≡ get_or bs 0 0
first_get_or [] = refl
first_get_or (b ∷ bs) = refl

-- one entry back
module _ (f : File) (z : List ℕ) (g : good_key f.path ≡ true) (w : whole f ≡ true) where
  nine : length f.path ≡ 9
  nine = eqb-true _ _ (and_parts (eqb (length f.path) 9) (eqb (length f.bytes) 1) w).0

  one : reference_of f ∷ [] ≡ f.bytes
  one = ap (λ r. r ∷ []) (first_get_or f.bytes) ∙ only_one f.bytes (eqb-true _ _ (and_parts (eqb (length f.path) 9) (eqb (length f.bytes) 1) w).1)

  pub packed_is : packed (in_words f) ≡ get_or f.path 8 0 ∷ take (needed (get_or f.path 8 0)) f.path
  unfolding packed
  packed_is =
      let s : get_or (f.path ++ f.bytes) 8 0 ≡ get_or f.path 8 0 = get_or_append_left f.path f.bytes 0 8 (omega (arith, nine)) in
      ap (λ y. y ∷ take (needed y) (f.path ++ f.bytes)) s
      ∙ ap (λ u. get_or f.path 8 0 ∷ u) (take-append-le (needed (get_or f.path 8 0)) f.path f.bytes (omega (arith, nine)))

  pub length_needed : length (take (needed (get_or f.path 8 0)) f.path) ≡ needed (get_or f.path 8 0)
  length_needed = length-take-le (needed (get_or f.path 8 0)) f.path (omega (arith, nine))

  stride_is : drop (stride (packed (in_words f) ++ z)) (packed (in_words f) ++ z) ≡ z
  stride_is =
      let t = take (needed (get_or f.path 8 0)) f.path in
      let m : 1 + needed (get_or f.path 8 0) ≡ suc (needed (get_or f.path 8 0)) = omega arith in
      ap (λ u. drop (stride (u ++ z)) (u ++ z)) packed_is ∙ ap (λ n. drop n (get_or f.path 8 0 ∷ (t ++ z))) m
      ∙ drop_at t z (needed (get_or f.path 8 0)) length_needed

  back : unpacked (reference_of f) (packed (in_words f) ++ z) ≡ f
  unfolding unpacked
  back =
      let n = needed (get_or f.path 8 0) in
      let k = good_parts f.path g in
      let p = path_of f.path in
      let s : get_or f.path 8 0 ≡ length p = ap (λ u. get_or u 8 0) k.1 ∙ last_word p in
      let key : take 8 (take n f.path ++ zeros 8) ++ get_or f.path 8 0 ∷ [] ≡ f.path =
      ap₂ (λ u v. take 8 (take n u ++ zeros 8) ++ v ∷ []) k.1 s ∙ refilled p n (proper_parts p k.0).0 (ap needed s) ∙ sym k.1 in
      ap (λ u. unpacked (reference_of f) (u ++ z)) packed_is
      ∙ ap (λ u. entry (take 8 (u ++ zeros 8) ++ get_or f.path 8 0 ∷ []) (reference_of f)) (take_at (take n f.path) z n length_needed)
      ∙ (λ i. record { path = key i; bytes = one i })

-- and all of them
pub all_back : (es : Tree) (z : List ℕ) → every (λ f. good_key f.path) es ≡ true → every whole es ≡ true →
    unpacked_all (length es) (each reference_of es) (packed_all es ++ z) ≡ es
unfolding unpacked_all
all_back [] z g w = refl
all_back (f ∷ fs) z g w =
    let a = and_parts (good_key f.path) (every (λ f. good_key f.path) fs) g in
    let b = and_parts (whole f) (every whole fs) w in
    let rest = packed_all fs ++ z in
    let rs = each reference_of fs in
    ap (λ u. unpacked (reference_of f) u ∷ unpacked_all (length fs) rs (drop (stride u) u)) (append_assoc (packed (in_words f)) (packed_all fs) z)
    ∙ ap₂ (λ u v. u ∷ unpacked_all (length fs) rs v) (back f rest a.0 b.0) (stride_is f rest a.0 b.0) ∙ ap (λ u. f ∷ u) (all_back fs z a.1 b.1)

-- a row is what it holds
rewritten_itself : (ws : List ℕ) → 2 ≤ length ws → get_or ws 0 0 ≡ held ws → rewritten (get_or ws 1 0) (entries_of ws) ws ≡ ws
unfolding rewritten
rewritten_itself [] l e = absurd (omega arith)
rewritten_itself (x ∷ []) l e = absurd (omega arith)
rewritten_itself (x ∷ y ∷ r) l e =
    let n = held (x ∷ y ∷ r) in
    let c : length (cut n r) ≡ n = length_cut n r in
    ap₂ (λ u v. u ∷ y ∷ (v ++ drop (10 * length (cut n r)) r)) (c ∙ sym e) (flat_cut n r (omega arith)) ∙ ap (λ m. x ∷ y ∷ (take (10 * n) r ++ drop (10 * m) r)) c
    ∙ ap (λ u. x ∷ y ∷ u) (take-append-drop (10 * n) r)

-- the parts of a stored row, with anything behind it
module _ (ws z : List ℕ) where
  pub files_back : files_in (squeezed ws ++ z) ≡ held ws
  unfolding squeezed
  files_back =
      (heading_parts 2 (held ws) (3 + held ws + length (packed_all (entries_of ws))) (omega arith) (omega (arith, packed_bound (entries_of ws), length_cut (held ws) (drop 2 ws)))).0

  pub references_back : references_of (squeezed ws ++ z) ≡ references ws
  unfolding squeezed
  references_back =
      let more = get_or ws 1 0 ∷ packed_all (entries_of ws) in
      ap (λ n. take n ((references ws ++ more) ++ z)) files_back ∙ ap (take (held ws)) (append_assoc (references ws) more z)
      ∙ take_at (references ws) (more ++ z) (held ws) (length_references (held ws) (drop 2 ws))

  pub data_back : data_of (squeezed ws ++ z) ≡ get_or ws 1 0 ∷ (packed_all (entries_of ws) ++ z)
  unfolding squeezed
  data_back =
      let more = get_or ws 1 0 ∷ packed_all (entries_of ws) in
      let m : 2 + held ws ≡ suc (suc (held ws)) = omega arith in
      ap (λ n. drop (2 + n) (squeezed ws ++ z)) files_back ∙ ap (λ n. drop n (squeezed ws ++ z)) m ∙ ap (drop (held ws)) (append_assoc (references ws) more z)
      ∙ drop_at (references ws) (more ++ z) (held ws) (length_references (held ws) (drop 2 ws))

pub stored_right : StoredRight
unfolding StoredRight spread_into
stored_right stands ws t z into row l m =
    let es = entries_of ws in
    let xs = squeezed ws ++ z in
    let n : files_in xs ≡ length es = files_back ws z ∙ sym (length_cut (held ws) (drop 2 ws)) in
    let had : length t ≡ held ws = row_length stands ws t row in
    let k : files_in xs ≡ held ws = files_back ws z in
    let f : spread_fits xs into ≡ true = and_from (leb 2 (length into)) _ (le-leb 2 (length into) l) (le-leb (files_in xs) (room into) (omega arith)) in
    let g : spread_fits xs ws ≡ true = and_from (leb 2 (length ws)) _ (le-leb 2 (length ws) row.long) (le-leb (files_in xs) (room ws) (omega arith)) in
    let is : entries_in xs ≡ es =
    ap₂ (λ i rs. unpacked_all i rs (drop 1 (data_of xs))) n (references_back ws z) ∙ ap (λ u. unpacked_all (length es) (references ws) (drop 1 u)) (data_back ws z)
    ∙ all_back es z row.keys (row_whole ws) in
    let weight : weight_in xs ≡ get_or ws 1 0 = ap (λ u. get_or u 0 0) (data_back ws z) in (
      f,
      subst (λ x. RowOf stands x t) (sym (pick_true (spread_fits xs into) _ into f ∙ ap₂ (λ w u. rewritten w u into) weight is))
          (row_rewritten stands into es t (get_or ws 1 0) l (omega arith) (row_whole ws) row.keys row.rising row.weighed row.is),
      pick_true (spread_fits xs ws) _ ws g ∙ ap₂ (λ w u. rewritten w u ws) weight is ∙ rewritten_itself ws row.long row.counted,
    )
