-- All differences of two rows, one answer after another, are the marks of their trees.
use Rattle.std.proofs.Common.{◌≡◌, ℕ, zero, suc, ◌+◌, ◌<◌, ◌≤◌, Bool, true, false, ◌&&◌, eqb, List, [], ◌∷◌, length, get_or, drop, Some, None, Option, sym, refl, ap, ◌∙◌, ap₂, inl, arith, length-drop}
use Rattle.std.proofs.lemmas.Bool.{and_parts, eqb-true}
use Rattle.std.proofs.lemmas.List.{drop-drop}
use Rattle.pages.specs.Lists.{pick, every, each, has, same, earlier, first_or}
use Rattle.pages.proofs.ListLaws.{same_test, same_true, same_from, or_right, in_has, length_each}
use Rattle.trees.specs.declared.differences.Cursor.{Cursor}
use Rattle.trees.specs.declared.differences.Place.{Place}
use Rattle.trees.specs.declared.differences.Place.TheVariants.{New, Changed, Gone}
use Rattle.trees.specs.declared.differences.Difference.{Difference}
use Rattle.trees.specs.Tree.{File, Tree}
use Rattle.trees.specs.Row.{key_of, path_of, held, entries_of}
use Rattle.trees.specs.RowOf.{proper, good_key, file_of}
use Rattle.trees.specs.RowPromises.{DiffersRight}
use Rattle.trees.specs.Differ.{differs, first_difference, difference_from, answers, path_in, shown}
use Rattle.trees.proofs.RowLaws.{length_cut}
use Rattle.trees.proofs.PackLaws.{key_same, key_earlier}
use Rattle.trees.proofs.RowOfLaws.{whole, only_one, good_parts, row_whole, row_rising}
use Rattle.trees.proofs.DifferLaws.{entry_at}
use Rattle.trees.proofs.MarkLaws.{merged, marks_merged}

abbrev cursor : ℕ → ℕ → Cursor
cursor i j = record { old = i; new = j }

-- the answers, by the first one
abbrev after : ℕ → List ℕ → List ℕ → Option Difference → List Place
after n xs ys o = elim o [ None ↦ [] | Some d ↦ d.place ∷ answers n xs ys d.next ]

answers_by : (n : ℕ) (xs ys : List ℕ) (c : Cursor) (o : Option Difference) → difference_from xs ys c ≡ o → answers (suc n) xs ys c ≡ after n xs ys o
unfolding answers
answers_by n xs ys c o e = ap (after n xs ys) e

-- what is known of two lists of entries
record Fine (stands : ℕ → List ℕ) (ts us : Tree) : Type 0 where
  goods : every (λ f. good_key f.path) ts ≡ true
  good_too : every (λ f. good_key f.path) us ≡ true
  wholes : every whole ts ≡ true
  whole_too : every whole us ≡ true
  apart : (i j : ℕ) → has (each (λ f. first_or 0 f.bytes) ts) i ≡ true → has (each (λ f. first_or 0 f.bytes) us) j ≡ true → stands i ≡ stands j → i ≡ j

fine_left : (stands : ℕ → List ℕ) (f : File) (ts us : Tree) → Fine stands (f ∷ ts) us → Fine stands ts us
fine_left stands f ts us x =
    record {
      goods = (and_parts (good_key f.path) _ x.goods).1;
      good_too = x.good_too;
      wholes = (and_parts (whole f) _ x.wholes).1;
      whole_too = x.whole_too;
      apart = λ i j p q. x.apart i j (or_right (eqb (first_or 0 f.bytes) i) _ p) q;
    }

fine_right : (stands : ℕ → List ℕ) (f : File) (ts us : Tree) → Fine stands ts (f ∷ us) → Fine stands ts us
fine_right stands f ts us x =
    record {
      goods = x.goods;
      good_too = (and_parts (good_key f.path) _ x.good_too).1;
      wholes = x.wholes;
      whole_too = (and_parts (whole f) _ x.whole_too).1;
      apart = λ i j p q. x.apart i j p (or_right (eqb (first_or 0 f.bytes) j) _ q);
    }

-- the tests on entries are those on files
module _ (stands : ℕ → List ℕ) (f k : File) (ts us : Tree) (x : Fine stands (f ∷ ts) (k ∷ us)) where
  left : (proper (path_of f.path) ≡ true) × (f.path ≡ key_of (path_of f.path))
  left = good_parts f.path (and_parts (good_key f.path) _ x.goods).0

  right : (proper (path_of k.path) ≡ true) × (k.path ≡ key_of (path_of k.path))
  right = good_parts k.path (and_parts (good_key k.path) _ x.good_too).0

  paths_same : same f.path k.path ≡ same (path_of f.path) (path_of k.path)
  paths_same = ap₂ (λ a b. same a b) left.1 right.1 ∙ key_same (path_of f.path) (path_of k.path) left.0 right.0

  paths_earlier : earlier f.path k.path ≡ earlier (path_of f.path) (path_of k.path)
  paths_earlier = ap₂ (λ a b. earlier a b) left.1 right.1 ∙ key_earlier (path_of f.path) (path_of k.path) left.0 right.0

  bytes_same : same f.bytes k.bytes ≡ same (stands (first_or 0 f.bytes)) (stands (first_or 0 k.bytes))
  bytes_same =
      same_test (same f.bytes k.bytes) (same (stands (first_or 0 f.bytes)) (stands (first_or 0 k.bytes)))
      (λ e. same_from _ _ (ap (λ b. stands (first_or 0 b)) (same_true f.bytes k.bytes e)))
      (λ e. same_from f.bytes k.bytes
      (sym (one f (and_parts (whole f) _ x.wholes).0)
      ∙ ap (λ n. n ∷ []) (x.apart _ _ (in_has (each (λ f. first_or 0 f.bytes) (f ∷ ts)) (first_or 0 f.bytes) (inl refl)) (in_has (each (λ f. first_or 0 f.bytes) (k ∷ us)) (first_or 0 k.bytes) (inl refl)) (same_true _ _ e))
      ∙ one k (and_parts (whole k) _ x.whole_too).0))
    where
      first_only : (bs : List ℕ) → get_or bs 0 0 ∷ [] ≡ bs → first_or 0 bs ∷ [] ≡ bs
      first_only [] e = e
      first_only (b ∷ bs) e = e

      one : (h : File) → whole h ≡ true → first_or 0 h.bytes ∷ [] ≡ h.bytes
      one h w = first_only h.bytes (only_one h.bytes (eqb-true _ _ (and_parts (eqb (length h.path) 9) (eqb (length h.bytes) 1) w).1))

-- the entry at a place
drop_next : (es : Tree) (i : ℕ) (f : File) (ts : Tree) → drop i es ≡ f ∷ ts → drop (i + 1) es ≡ ts
drop_next es i f ts e = sym (drop-drop 1 i es) ∙ ap (drop 1) e

abbrev first_path : Tree → List ℕ
first_path [] = []
first_path (f ∷ fs) = f.path

path_at : (ws : List ℕ) (i : ℕ) (f : File) (ts : Tree) → drop i (entries_of ws) ≡ f ∷ ts → path_in ws i ≡ path_of f.path
path_at ws i f ts e =
    let n : i < held ws = omega (arith, ap length e, length-drop i (entries_of ws), length_cut (held ws) (drop 2 ws)) in
    let d = entry_at ws i n in
    ap (λ h. path_of (first_path h)) (sym d ∙ e)

module _ (stands : ℕ → List ℕ) (xs ys : List ℕ) where
  answers_merged : (m n i j : ℕ) (ts us : Tree) → drop i (entries_of xs) ≡ ts → drop j (entries_of ys) ≡ us → Fine stands ts us → length ts + length us ≤ m → length ts + length us ≤ n →
      each (shown xs ys) (answers n xs ys (cursor i j)) ≡ merged m (each (file_of stands) ts) (each (file_of stands) us)
  unfolding answers merged difference_from first_difference
  answers_merged zero zero i j [] [] p q x a b = refl
  answers_merged (suc m) zero i j [] [] p q x a b = refl
  answers_merged zero (suc n) i j [] [] p q x a b =
      ap (each (shown xs ys)) (answers_by n xs ys (cursor i j) None (ap₂ (λ s t. first_difference s t i j) p q))
  answers_merged (suc m) (suc n) i j [] [] p q x a b =
      ap (each (shown xs ys)) (answers_by n xs ys (cursor i j) None (ap₂ (λ s t. first_difference s t i j) p q))
  answers_merged zero n i j (f ∷ ts) us p q x a b = absurd (omega arith)
  answers_merged zero n i j [] (k ∷ us) p q x a b = absurd (omega arith)
  answers_merged (suc m) zero i j (f ∷ ts) us p q x a b = absurd (omega arith)
  answers_merged (suc m) zero i j [] (k ∷ us) p q x a b = absurd (omega arith)
  answers_merged (suc m) (suc n) i j [] (k ∷ us) p q x a b =
      ap (each (shown xs ys)) (answers_by n xs ys (cursor i j) (differs (New j) i (j + 1)) (ap₂ (λ s t. first_difference s t i j) p q))
      ∙ ap₂ (λ u v. (1 ∷ u) ∷ v) (path_at ys j k us q) (answers_merged m n i (j + 1) [] us p (drop_next (entries_of ys) j k us q) (fine_right stands k [] us x) (omega arith) (omega arith))
  answers_merged (suc m) (suc n) i j (f ∷ ts) [] p q x a b =
      ap (each (shown xs ys)) (answers_by n xs ys (cursor i j) (differs (Gone i) (i + 1) j) (ap₂ (λ s t. first_difference s t i j) p q))
      ∙ ap₂ (λ u v. (3 ∷ u) ∷ v) (path_at xs i f ts p) (answers_merged m n (i + 1) j ts [] (drop_next (entries_of xs) i f ts p) q (fine_left stands f ts [] x) (omega arith) (omega arith))
  answers_merged (suc m) (suc n) i j (f ∷ ts) (k ∷ us) p q x a b =
      let p' = drop_next (entries_of xs) i f ts p in
      let q' = drop_next (entries_of ys) j k us q in
      let x' = fine_right stands k ts us (fine_left stands f ts (k ∷ us) x) in
      ap (each (shown xs ys)) (answers_by n xs ys (cursor i j) _ (ap₂ (λ s t. first_difference s t i j) p q))
      ∙ go (same f.path k.path) (same f.bytes k.bytes) (earlier f.path k.path) p' q'
      (answers_merged m (suc n) (i + 1) (j + 1) ts us p' q' x' (omega arith) (omega arith))
      (answers_merged m n (i + 1) (j + 1) ts us p' q' x' (omega arith) (omega arith))
      (answers_merged m n (i + 1) j ts (k ∷ us) p' q (fine_left stands f ts (k ∷ us) x) (omega arith) (omega arith))
      (answers_merged m n i (j + 1) (f ∷ ts) us p q' (fine_right stands k (f ∷ ts) us x) (omega arith) (omega arith))
      ∙ ap₂ (λ s e. tests s (same f.bytes k.bytes) e) (paths_same stands f k ts us x) (paths_earlier stands f k ts us x)
      ∙ ap (λ s. tests (same (path_of f.path) (path_of k.path)) s (earlier (path_of f.path) (path_of k.path))) (bytes_same stands f k ts us x)
    where
      tests : Bool → Bool → Bool → List (List ℕ)
      tests s b e =
          pick s
          (pick b (merged m (each (file_of stands) ts) (each (file_of stands) us)) ((2 ∷ path_of k.path) ∷ merged m (each (file_of stands) ts) (each (file_of stands) us)))
          (pick e ((3 ∷ path_of f.path) ∷ merged m (each (file_of stands) ts) (each (file_of stands) (k ∷ us))) ((1 ∷ path_of k.path) ∷ merged m (each (file_of stands) (f ∷ ts)) (each (file_of stands) us)))

      go : (s b e : Bool) → drop (i + 1) (entries_of xs) ≡ ts → drop (j + 1) (entries_of ys) ≡ us →
          each (shown xs ys) (answers (suc n) xs ys (cursor (i + 1) (j + 1))) ≡ merged m (each (file_of stands) ts) (each (file_of stands) us) →
          each (shown xs ys) (answers n xs ys (cursor (i + 1) (j + 1))) ≡ merged m (each (file_of stands) ts) (each (file_of stands) us) →
          each (shown xs ys) (answers n xs ys (cursor (i + 1) j)) ≡ merged m (each (file_of stands) ts) (each (file_of stands) (k ∷ us)) →
          each (shown xs ys) (answers n xs ys (cursor i (j + 1))) ≡ merged m (each (file_of stands) (f ∷ ts)) (each (file_of stands) us) →
          each (shown xs ys) (after n xs ys (pick (s && b) (first_difference ts us (i + 1) (j + 1)) (pick s (differs (Changed j) (i + 1) (j + 1)) (pick e (differs (Gone i) (i + 1) j) (differs (New j) i (j + 1))))))
          ≡ tests s b e
      go true true e p' q' i1 i2 i3 i4 =
          ap (each (shown xs ys)) (sym (answers_by n xs ys (cursor (i + 1) (j + 1)) (first_difference ts us (i + 1) (j + 1)) (ap₂ (λ s t. first_difference s t (i + 1) (j + 1)) p' q'))) ∙ i1
      go true false e p' q' i1 i2 i3 i4 = ap₂ (λ u v. (2 ∷ u) ∷ v) (path_at ys j k us q) i2
      go false b true p' q' i1 i2 i3 i4 = ap₂ (λ u v. (3 ∷ u) ∷ v) (path_at xs i f ts p) i3
      go false b false p' q' i1 i2 i3 i4 = ap₂ (λ u v. (1 ∷ u) ∷ v) (path_at ys j k us q) i4

pub differs_right : DiffersRight
unfolding DiffersRight
differs_right stands xs ys t u n r s a l =
    let es = entries_of xs in let fs = entries_of ys in
    let le : length es ≡ length t = sym (length_each (file_of stands) es) ∙ ap length r.is in
    let lf : length fs ≡ length u = sym (length_each (file_of stands) fs) ∙ ap length s.is in
    let fine : Fine stands es fs = record { goods = r.keys; good_too = s.keys; wholes = row_whole xs; whole_too = row_whole ys; apart = a } in
    answers_merged stands xs ys n n 0 0 es fs refl refl fine (omega arith) (omega arith) ∙ ap₂ (λ v w. merged n v w) r.is s.is
    ∙ marks_merged n t u (row_rising stands xs t r) (row_rising stands ys u s) l
