-- What a survey tells of a file that is to be written: whether it is live already, and how much is to be kept after it. Assumes nothing.
use Rattle.std.proofs.Common.{◌≡◌, ℕ, zero, suc, ◌+◌, ◌*◌, ◌≤◌, Bool, true, false, eqb, ◌⊎◌, List, [], ◌∷◌, ◌++◌, length, sym, refl, ap, ◌∙◌, subst, inl, inr, arith}
use Rattle.std.proofs.lemmas.Bool.{eqb-true, le-leb, ne_eqb, eqb-false, and_parts, false≢true}
use Rattle.pages.specs.Lists.{pick, each, has, same, earlier, zeros}
use Rattle.pages.specs.Bytes.{all_bytes}
use Rattle.pages.specs.Words.{words, bytes_of}
use Rattle.pages.specs.Object.{object_at}
use Rattle.pages.proofs.ListLaws.{In, has_in, in_has, in_append, in_right, each_in, in_each, pick_true, pick_false, pick_both, same_true, same_from}
use Rattle.pages.proofs.WordLaws.{bytes_of_words}
use Rattle.objects.specs.Heap.{Live, root, Lives, weights, has_key}
use Rattle.objects.specs.Marking.{key_words}
use Rattle.trees.specs.Tree.{Tree, put}
use Rattle.trees.specs.Row.{good_path, key_of, room, references, put_in, put_key}
use Rattle.trees.specs.RowOf.{proper, weight_of, RowOf}
use Rattle.trees.specs.RowPromises.{PutsRight}
use Rattle.trees.proofs.RowOfLaws.{puts_right}
use Rattle.trees.proofs.RowParts.{row_stands, row_files, put_references}
use Rattle.history.specs.Book.{Book, Sum, nth}
use Rattle.house.specs.Control.{sum_key}
use Rattle.history.specs.Laws.{Grown}
use Rattle.pages.specs.Object.{kind_of}
use Rattle.objects.specs.Sweeping.{roots_of}
use Rattle.commands.specs.Command.{a_text}
use Rattle.house.specs.House.{weight}
use Rattle.house.specs.Shelf.{bytes_at, FileAt, Stored, Shelf, keeping, work_root, tip_root, files_named}
use Rattle.house.proofs.ShelfLaws.{file_key, file_kind, as_file, numbered_is, numbered_in, numbered_few, Among, CommitThere, FileThere, commits_files, files_weight, commits_weight, stored_part, tip_live, file_live, work_file_at, tips_once, live_file_reached, live_weighs, live_weighs_more, keeping_weighs}
use Rattle.house.proofs.Sheets.{sum_words}

-- sums of 32 bytes are told apart by their words
pub sum_by_words : (sum : Sum) → ((bs : List ℕ) → (length (sum bs) ≡ 32) × (all_bytes (sum bs) ≡ true)) → (a b : List ℕ) → words 4 (sum a) ≡ words 4 (sum b) → sum a ≡ sum b
sum_by_words sum sums a b e =
    sym (bytes_of_words 4 (sum a) (sums a).0 (sums a).1) ∙ ap bytes_of e ∙ bytes_of_words 4 (sum b) (sums b).0 (sums b).1

-- A FILE PUT INTO A ROW, for whatever references stand
pub put_row : (stands : ℕ → List ℕ) (ws p b : List ℕ) (tree : Tree) (r : ℕ) → RowOf stands ws tree → proper p ≡ true → stands r ≡ b → length (put p b tree) ≤ room ws →
    RowOf stands (put_key (key_of p) (64 + length p) r ws) (put p b tree)
unfolding PutsRight put_in
put_row stands ws p b tree r row good e few =
    subst (RowOf stands (put_key (key_of p) (64 + length p) r ws)) (ap (λ x. put p x tree) e)
    (subst (λ x. RowOf stands x (put p (stands r) tree)) (pick_true (good_path p) (put_key (key_of p) (64 + length p) r ws) ws (and_parts (good_path p) (all_bytes p) good).0)
    ((puts_right stands ws tree p r row good).1 (le-leb (length (put p (stands r) tree)) (room ws) (subst (λ x. length (put p x tree) ≤ room ws) (sym e) few))))

-- what is put is among the files
has_put : (p b : List ℕ) (t : Tree) → In b (each (λ f. f.bytes) (put p b t))
unfolding put
has_put p b [] = inl refl
has_put p b (f ∷ fs) =
    pick_both (λ (x : Tree). In b (each (λ f. f.bytes) x)) (same p f.path) _ _ (λ y. inl refl)
    (λ n. pick_both (λ (x : Tree). In b (each (λ f. f.bytes) x)) (earlier p f.path) _ _ (λ y. inl refl) (λ m. inr (has_put p b fs)))

-- THE SURVEY for a file: it goes over the branch's commit and over the row in which the file has no reference yet
module _ (sum : Sum) (sums : (bs : List ℕ) → (length (sum bs) ≡ 32) × (all_bytes (sum bs) ≡ true)) (pages : ℕ) (b : Book) (number : ℕ → ℕ) (h t : List ℕ) (tree : Tree) (tips : List ℕ)
    (s : Shelf sum pages b number h t tree tips) (grown : Grown b) (texts : (k : ℕ) → a_text (nth b k).words ≡ true) (ws p bs : List ℕ) (row : RowOf (bytes_at t) ws tree)
    (names : references ws ≡ files_named t (work_root h)) (good : proper p ≡ true) (few : length (put p bs tree) ≤ room ws) (nine : length (key_of p) ≡ 9)
    (apart : (x y : List ℕ) → In x (commits_files b tips ++ each (λ f. f.bytes) (put p bs tree)) → In y (commits_files b tips ++ each (λ f. f.bytes) (put p bs tree)) → sum x ≡ sum y → x ≡ y) where
  -- the row, and what its references stand for
  abbrev pub unnamed : List ℕ
  unnamed = put_key (key_of p) (64 + length p) 0 ws

  abbrev pub stands : ℕ → List ℕ
  stands r = pick (eqb r 0) bs (bytes_at t r)

  abbrev pub after : Tree
  after = put p bs tree

  abbrev pub extra : List (List ℕ)
  extra = each (λ f. f.bytes) (put p bs tree)

  pub files : (r : ℕ) → has (references ws) r ≡ true → FileAt sum t r
  files r e = work_file_at sum pages b number h t tree tips s r (ap (λ rs. has rs r) (sym names) ∙ e)

  pub lives : (r : ℕ) → has (references ws) r ≡ true → Live t (roots_of h) r
  lives r e = file_live sum pages b number h t tree tips s r (ap (λ rs. has rs r) (sym names) ∙ e)

  stands_for : (r : ℕ) → 1 ≤ r → stands r ≡ bytes_at t r
  stands_for r one = pick_false (eqb r 0) bs (bytes_at t r) (ne_eqb r 0 (λ z. omega arith))

  pub unnamed_stands : RowOf stands unnamed (put p bs tree)
  unnamed_stands =
      put_row stands ws p bs tree 0
      (row_stands (bytes_at t) stands ws tree (λ r e. sym (stands_for r (files r e).one)) row) good refl few

  bytes_are : each stands (references unnamed) ≡ each (λ f. f.bytes) (put p bs tree)
  bytes_are = row_files stands unnamed (put p bs tree) unnamed_stands

  -- what the row names is 0, for the file itself, or was named before
  pub named_before : (r : ℕ) → 1 ≤ r → has (references unnamed) r ≡ true → has (references ws) r ≡ true
  named_before r one e = go (put_references (key_of p) ws (64 + length p) 0 r nine e)
    where
      go : (r ≡ 0) ⊎ (has (references ws) r ≡ true) → has (references ws) r ≡ true
      go (inl z) = absurd (omega arith)
      go (inr x) = x

  -- THE ROOTS: the branch's commit, and what the row names
  abbrev pub roots : List ℕ
  roots = (tip_root h ∷ zeros 6) ++ references unnamed

  in_zeros : (n r : ℕ) → In r (zeros n) → r ≡ 0
  unfolding zeros
  in_zeros zero r i = absurd i
  in_zeros (suc n) r (inl e) = sym e
  in_zeros (suc n) r (inr i) = in_zeros n r i

  root_cases : (r : ℕ) → 1 ≤ r → has roots r ≡ true → (r ≡ tip_root h) ⊎ (has (references ws) r ≡ true)
  root_cases r one e = go (in_append r (tip_root h ∷ zeros 6) (references unnamed) (has_in roots r e))
    where
      go : In r (tip_root h ∷ zeros 6) ⊎ In r (references unnamed) → (r ≡ tip_root h) ⊎ (has (references ws) r ≡ true)
      go (inl (inl q)) = inl (sym q)
      go (inl (inr i)) = absurd (omega (arith, in_zeros 6 r i))
      go (inr i) = inr (named_before r one (in_has (references unnamed) r i))

  -- all of them are live already
  pub roots_live : (r : ℕ) → 1 ≤ r → has roots r ≡ true → Live t (roots_of h) r
  roots_live r one e = go (root_cases r one e)
    where
      go : (r ≡ tip_root h) ⊎ (has (references ws) r ≡ true) → Live t (roots_of h) r
      go (inl q) = subst (Live t (roots_of h)) (sym q) (tip_live sum pages b number h t tree tips s (subst (λ i. 1 ≤ i) q one))
      go (inr i) = lives r i

  stored_now : Stored sum b number t roots
  stored_now = stored_part sum b number t (roots_of h) roots roots_live s.stored

  named_live : (r : ℕ) → 1 ≤ r → has (references unnamed) r ≡ true → Live t roots r
  named_live r one e = root r one (in_has roots r (in_right r (tip_root h ∷ zeros 6) (references unnamed) (has_in (references unnamed) r e)))

  root_is : (r : ℕ) → 1 ≤ r → has roots r ≡ true → Among number t tips extra r
  root_is r one e = go (in_append r (tip_root h ∷ zeros 6) (references unnamed) (has_in roots r e))
    where
      go : In r (tip_root h ∷ zeros 6) ⊎ In r (references unnamed) → Among number t tips extra r
      go (inl (inl q)) =
          let c = numbered_is number t (tip_root h) tips s.tip (subst (λ i. 1 ≤ i) (sym q) one) in
          inl (subst (λ i. kind_of (object_at t i) ≡ 3) q c.0, subst (λ i. In (number i) tips) q (subst (In (number (tip_root h))) (sym c.1) (inl refl)))
      go (inl (inr i)) = absurd (omega (arith, in_zeros 6 r i))
      go (inr i) =
          let f : FileAt sum t r = files r (named_before r one (in_has (references unnamed) r i)) in
          inr (inl (file_kind sum t r f, subst (λ x. In x (each (λ f. f.bytes) (put p bs tree))) (stands_for r one) (subst (In (stands r)) bytes_are (in_each stands (references unnamed) r i))))

  tip_in : (k : ℕ) → In k tips → CommitThere number t roots k
  tip_in k i =
      let c = numbered_in number t (tip_root h) tips s.tip k i in
      (tip_root h, root (tip_root h) c.0 (in_has roots (tip_root h) (inl refl)), c.1, c.2)

  -- each file of the tree is the one that is put or a live one's
  from_row : (q : List ℕ) → In q extra → (q ≡ bs) ⊎ FileThere t roots q
  from_row q i =
      let k : (r : ℕ) × In r (references unnamed) × (stands r ≡ q) = each_in stands (references unnamed) q (subst (In q) (sym bytes_are) i) in
      go k.0 k.1 k.2 (eqb k.0 0) refl
    where
      go : (r : ℕ) → In r (references unnamed) → stands r ≡ q → (z : Bool) → eqb r 0 ≡ z → (q ≡ bs) ⊎ FileThere t roots q
      go r i e true z = inl (sym e ∙ pick_true (eqb r 0) bs (bytes_at t r) z)
      go r i e false z =
          let one : 1 ≤ r = omega (arith, eqb-false r 0 z) in
          let here : has (references unnamed) r ≡ true = in_has (references unnamed) r i in
          inr (r, named_live r one here, file_kind sum t r (files r (named_before r one here)), sym (stands_for r one) ∙ e)

  -- a live file with the key
  keyed_file : (r : ℕ) → Live t roots r → kind_of (object_at t r) ≡ 1 → FileAt sum t r
  keyed_file r l k = as_file sum b number t r texts (stored_now.thing r l) k

  key_is : (r : ℕ) → Live t roots r → kind_of (object_at t r) ≡ 1 → has_key 1 (key_words (sum_key (sum bs))) (object_at t r) ≡ same (words 4 (sum (bytes_at t r))) (words 4 (sum bs))
  key_is r l k = file_key sum t r (keyed_file r l k) (key_words (sum_key (sum bs))) ∙ ap (same (words 4 (sum (bytes_at t r)))) (sum_words (sum bs))

  module _ (ls : List ℕ) (are_live : Lives t roots ls) where
    weighs_by : weight b (keeping (put p bs tree) tips) ≡ files_weight (commits_files b tips ++ extra) + commits_weight b tips + weight_of (put p bs tree) + 128 * length tips
    weighs_by = keeping_weighs b (put p bs tree) tips (numbered_few number t (tip_root h) tips s.tip)

    -- THERE ALREADY: a live file with the sum has the bytes
    module _ (r : ℕ) (live : Live t roots r) (key : has_key 1 (key_words (sum_key (sum bs))) (object_at t r) ≡ true) where
      kind : kind_of (object_at t r) ≡ 1
      kind = eqb-true (kind_of (object_at t r)) 1 (and_parts (eqb (kind_of (object_at t r)) 1) _ key).0

      pub found_file : FileAt sum t r
      found_file = keyed_file r live kind

      pub same_bytes : bytes_at t r ≡ bs
      same_bytes =
          apart (bytes_at t r) bs (live_file_reached sum b number t roots tips extra grown texts stored_now root_is r live kind) (in_right bs (commits_files b tips) extra (has_put p bs tree))
          (sum_by_words sum sums (bytes_at t r) bs (same_true (words 4 (sum (bytes_at t r))) (words 4 (sum bs)) (sym (key_is r live kind) ∙ key)))

      pub weighs_found : weight b (keeping (put p bs tree) tips) ≡ weights t ls + weight_of (put p bs tree) + 128 * length tips
      weighs_found =
          weighs_by
          ∙ ap (λ x. x + weight_of (put p bs tree) + 128 * length tips)
          (sym (live_weighs sum b number t roots tips extra grown texts stored_now root_is tip_in (tips_once sum pages b number h t tree tips s) ls are_live (λ f i. there f (from_row f i))))
        where
          there : (f : List ℕ) → (f ≡ bs) ⊎ FileThere t roots f → FileThere t roots f
          there f (inl e) = (r, live, kind, same_bytes ∙ sym e)
          there f (inr k) = k

    -- NOT THERE: no live file has the bytes
    module _ (none : (r : ℕ) → Live t roots r → has_key 1 (key_words (sum_key (sum bs))) (object_at t r) ≡ false) where
      pub absent : FileThere t roots bs → ⊥
      absent (r, l, k, e) = false≢true (sym (none r l) ∙ key_is r l k ∙ same_from (words 4 (sum (bytes_at t r))) (words 4 (sum bs)) (ap (λ x. words 4 (sum x)) e))

      pub weighs_more : weight b (keeping (put p bs tree) tips) ≡ (weights t ls + (64 + length bs)) + weight_of (put p bs tree) + 128 * length tips
      weighs_more =
          weighs_by
          ∙ ap (λ x. x + weight_of (put p bs tree) + 128 * length tips)
          (sym (live_weighs_more sum b number t roots tips extra grown texts stored_now root_is tip_in (tips_once sum pages b number h t tree tips s) ls are_live bs (has_put p bs tree) from_row absent))
