-- What stands on a house's tape once a command laid a file, a tree or a commit behind all others, and the head that names them. Assumes nothing.
use Rattle.std.proofs.Common.{◌≡◌, ℕ, zero, suc, ◌+◌, ◌-◌, ◌*◌, ◌<◌, ◌≤◌, true, eqb, ◌⊎◌, List, [], ◌∷◌, ◌++◌, length, get_or, take, drop, sym, refl, ap, ◌∙◌, subst, subst₂, ap₂, inl, inr, append-nil, arith, length-append}
use Rattle.std.proofs.lemmas.List.{drop_at, get_or_append_left}
use Rattle.std.proofs.lemmas.Bool.{false≢true, ne_eqb, eq-eqb}
use Rattle.pages.specs.Lists.{each, has, zeros}
use Rattle.pages.specs.Words.{bytes_of, words}
use Rattle.pages.specs.Object.{references_in, size_of, kind_of, own_weight, references_of, object_at}
use Rattle.pages.specs.Tape.{first_page}
use Rattle.pages.specs.Lists.{pick}
use Rattle.pages.proofs.ListLaws.{in_has, each_alike, pick_true, pick_false}
use Rattle.objects.proofs.SweptLaws.{whole_object}
use Rattle.pages.specs.Tape.{last_page}
use Rattle.objects.proofs.MarkLaws.{has_cases}
use Rattle.trees.proofs.RowParts.{spread_references}
use Rattle.pages.proofs.ObjectLaws.{heading_parts}
use Rattle.pages.proofs.WordLaws.{length_words}
use Rattle.objects.specs.Heap.{Live, root, named, Heap, Placed, keyed}
use Rattle.objects.specs.Layouts.{commit_object, file_object, packed_bytes, words_for, tree_weight_in}
use Rattle.objects.specs.Room.{reserve}
use Rattle.objects.specs.Sweeping.{roots_of}
use Rattle.objects.proofs.GrowLaws.{New, Grown, grows, heap_part}
use Rattle.objects.proofs.LayoutLaws.{bytes_back}
use Rattle.trees.specs.Tree.{Tree}
use Rattle.trees.specs.Row.{held, references}
use Rattle.trees.specs.RowOf.{weight_of, RowOf}
use Rattle.trees.specs.RowPromises.{StoredRight}
use Rattle.trees.specs.Packed.{files_in, squeezed, spread_fits, spread_into}
use Rattle.trees.specs.StoredPromises.{TreeObject}
use Rattle.trees.proofs.RowOfLaws.{row_length}
use Rattle.trees.proofs.StoredLaws.{length_squeezed, length_references}
use Rattle.trees.proofs.BackAgain.{files_back, data_back, stored_right}
use Rattle.trees.proofs.ObjectLaws.{stored_objects, stored_bytes}
use Rattle.trees.proofs.RowParts.{row_stands, row_files}
use Rattle.history.specs.Book.{Book, Sum, nth, id}
use Rattle.commands.specs.Command.{a_text}
use Rattle.house.specs.Control.{pages_of}
use Rattle.house.specs.House.{weight}
use Rattle.house.specs.Shelf.{bytes_at, FileAt, TreeAt, WorkAt, CommitAt, Thing, a_file, a_tree, a_commit, Stored, Numbered, work_root, tip_root, tree_named, parent_named, keeping, Shelf}
use Rattle.house.proofs.Sheets.{text_parts, first_names}
use Rattle.house.proofs.ShelfLaws.{bytes_alike, file_alike, file_kind, commit_names, stored_part, head_roots, two_roots, root_live, tip_live}
use Rattle.house.proofs.Versions.{version_of}

-- a number is none or some
some_or : {A : Type 0} (r : ℕ) → (1 ≤ r → A) → (r ≡ 0) ⊎ A
some_or zero f = inl refl
some_or (suc r) f = inr (f (omega arith))

-- of a head's roots, where two may be some
named_by : (a c : ℕ) (t rs : List ℕ) (r : ℕ) → 1 ≤ r → has (a ∷ c ∷ zeros 6) r ≡ true → (1 ≤ a → Live t rs a) → (1 ≤ c → Live t rs c) → Live t rs r
named_by a c t rs r one e f g = go (two_roots a c 6 r one e)
  where
    go : (r ≡ a) ⊎ (r ≡ c) → Live t rs r
    go (inl q) = subst (Live t rs) (sym q) (f (subst (λ i. 1 ≤ i) q one))
    go (inr q) = subst (Live t rs) (sym q) (g (subst (λ i. 1 ≤ i) q one))

-- WHAT STAYS, where live objects stand as they did and have the numbers that they had
module _ (sum : Sum) (b : Book) (number number₁ : ℕ → ℕ) (t t₁ roots : List ℕ) (texts : (k : ℕ) → a_text (nth b k).words ≡ true)
    (stored : Stored sum b number t roots) (whole : (r : ℕ) → Live t roots r → 2 + references_in (get_or (object_at t r) 0 0) ≤ length (object_at t r))
    (stays : (r : ℕ) → Live t roots r → object_at t₁ r ≡ object_at t r) (agree : (r : ℕ) → Live t roots r → number₁ r ≡ number r) where
  pub bytes_stay : (r : ℕ) → Live t roots r → bytes_at t₁ r ≡ bytes_at t r
  bytes_stay r l = bytes_alike t t₁ r r (stays r l)

  pub file_stays : (r : ℕ) → Live t roots r → FileAt sum t r → FileAt sum t₁ r
  file_stays r l f = file_alike sum t t₁ r r f.one (stays r l) f

  pub tree_stays : (r : ℕ) (u : Tree) → Live t roots r → TreeAt sum t r u → TreeAt sum t₁ r u
  tree_stays r u l k =
      record {
        one = k.one;
        kind = ap kind_of is ∙ k.kind;
        light = ap own_weight is ∙ k.light;
        weighs = ap tree_weight_in is ∙ k.weighs;
        short = subst (λ o. 8 * size_of o + 41 * length (references_of o) ≤ weight_of u + 24) (sym is) k.short;
        named = λ s e. file_stays s (live s (back s e)) (k.named s (back s e));
        files =
            ap (each (bytes_at t₁)) (ap references_of is) ∙ each_alike (bytes_at t₁) (bytes_at t) (references_of o) (λ s i. bytes_stay s (live s (in_has (references_of o) s i)))
            ∙ k.files;
        spreads = λ z into two fits. subst (λ q. (spread_fits (q ++ z) into ≡ true) × RowOf (bytes_at t₁) (spread_into (q ++ z) into) u) (sym is) (spread z into (k.spreads z into two fits));
      }
    where
      o : List ℕ
      o = object_at t r

      is : object_at t₁ r ≡ object_at t r
      is = stays r l

      live : (s : ℕ) → has (references_of (object_at t r)) s ≡ true → Live t roots s
      live s e = named s r (k.named s e).one l e

      back : (s : ℕ) → has (references_of (object_at t₁ r)) s ≡ true → has (references_of (object_at t r)) s ≡ true
      back s e = ap (λ q. has (references_of q) s) (sym is) ∙ e

      spread : (z into : List ℕ) → (spread_fits (object_at t r ++ z) into ≡ true) × RowOf (bytes_at t) (spread_into (object_at t r ++ z) into) u →
          (spread_fits (object_at t r ++ z) into ≡ true) × RowOf (bytes_at t₁) (spread_into (object_at t r ++ z) into) u
      spread z into (f, row) =
          (f, row_stands (bytes_at t) (bytes_at t₁) (spread_into (object_at t r ++ z) into) u (λ s e. sym (bytes_stay s (live s (ap (λ rs. has rs s) (sym names) ∙ e)))) row)
        where
          long : 2 + files_in (object_at t r ++ z) ≤ length (object_at t r ++ z)
          long = omega (arith, whole r l, length-append (object_at t r) z, ap references_in (get_or_append_left (object_at t r) z 0 0 (omega (arith, whole r l))))

          names : references (spread_into (object_at t r ++ z) into) ≡ references_of (object_at t r)
          names = spread_references (object_at t r ++ z) into long f ∙ first_names (object_at t r) z (whole r l)

  pub commit_stays : (r : ℕ) → Live t roots r → CommitAt sum b number t r → CommitAt sum b number₁ t₁ r
  commit_stays r l c =
      record {
        one = c.one;
        noted = subst (λ i. i < length b) (sym (agree r l)) c.noted;
        is =
            is ∙ c.is
            ∙ ap₂ (λ q i. commit_object (tree_named q) (parent_named q) 0 (words 4 (id sum b i)) (nth b i).stamp (weight_of (nth b i).tree) (length (nth b i).words) (packed_bytes (nth b i).words))
            (sym is) (sym (agree r l));
        tree = subst₂ (λ q i. WorkAt sum t₁ (tree_named q) (nth b i).tree) (sym is) (sym (agree r l)) (tree c.tree);
        parent = subst₂ (λ q i. Numbered number₁ t₁ (parent_named q) (nth b i).parents) (sym is) (sym (agree r l)) (parent c.parent);
      }
    where
      is : object_at t₁ r ≡ object_at t r
      is = stays r l

      names : references_of (object_at t r) ≡ tree_named (object_at t r) ∷ parent_named (object_at t r) ∷ 0 ∷ []
      names = commit_names sum b number t r c (texts (number r))

      tree_live : 1 ≤ tree_named (object_at t r) → Live t roots (tree_named (object_at t r))
      tree_live one =
          named (tree_named (object_at t r)) r one l (ap (λ rs. has rs (tree_named (object_at t r))) names ∙ in_has (tree_named (object_at t r) ∷ parent_named (object_at t r) ∷ 0 ∷ []) (tree_named (object_at t r)) (inl refl))

      parent_live : 1 ≤ parent_named (object_at t r) → Live t roots (parent_named (object_at t r))
      parent_live one =
          named (parent_named (object_at t r)) r one l (ap (λ rs. has rs (parent_named (object_at t r))) names ∙ in_has (tree_named (object_at t r) ∷ parent_named (object_at t r) ∷ 0 ∷ []) (parent_named (object_at t r)) (inr (inl refl)))

      tree : WorkAt sum t (tree_named (object_at t r)) (nth b (number r)).tree → WorkAt sum t₁ (tree_named (object_at t r)) (nth b (number r)).tree
      tree (inl e) = inl e
      tree (inr k) = inr (tree_stays (tree_named (object_at t r)) (nth b (number r)).tree (tree_live k.one) k)

      parent : Numbered number t (parent_named (object_at t r)) (nth b (number r)).parents → Numbered number₁ t₁ (parent_named (object_at t r)) (nth b (number r)).parents
      parent (inl e) = inl e
      parent (inr (one, kind, e)) =
          let p : Live t roots (parent_named (object_at t r)) = parent_live one in
          inr (one, ap kind_of (stays (parent_named (object_at t r)) p) ∙ kind, e ∙ ap (λ i. i ∷ []) (sym (agree (parent_named (object_at t r)) p)))

  pub thing_stays : (r : ℕ) → Live t roots r → Thing sum b number₁ t₁ r
  thing_stays r l = go (stored.thing r l)
    where
      go : Thing sum b number t r → Thing sum b number₁ t₁ r
      go (a_file f) = a_file (file_stays r l f)
      go (a_tree u k) = a_tree u (tree_stays r u l k)
      go (a_commit c) = a_commit (commit_stays r l c)

  -- one thing more, if it is no second one of what is there
  pub stored_more : (roots₁ : List ℕ) (new : ℕ) → ((r : ℕ) → Live t₁ roots₁ r → (r ≡ new) ⊎ Live t roots r) → Thing sum b number₁ t₁ new →
      ((r : ℕ) → Live t roots r → kind_of (object_at t r) ≡ 1 → kind_of (object_at t₁ new) ≡ 1 → bytes_at t r ≡ bytes_at t₁ new → ⊥) →
      ((r : ℕ) → Live t roots r → kind_of (object_at t r) ≡ 3 → kind_of (object_at t₁ new) ≡ 3 → number r ≡ number₁ new → ⊥) → Stored sum b number₁ t₁ roots₁
  stored_more roots₁ new only thing no_file no_commit =
      record {
        thing = λ r l. there r (only r l);
        files_once = λ r s l k. files r s (only r l) (only s k);
        commits_once = λ r s l k. commits r s (only r l) (only s k);
      }
    where
      there : (r : ℕ) → (r ≡ new) ⊎ Live t roots r → Thing sum b number₁ t₁ r
      there r (inl e) = subst (Thing sum b number₁ t₁) (sym e) thing
      there r (inr l) = thing_stays r l

      kind : (i r : ℕ) → Live t roots r → kind_of (object_at t₁ r) ≡ i → kind_of (object_at t r) ≡ i
      kind i r l e = ap kind_of (sym (stays r l)) ∙ e

      files : (r s : ℕ) → (r ≡ new) ⊎ Live t roots r → (s ≡ new) ⊎ Live t roots s → kind_of (object_at t₁ r) ≡ 1 → kind_of (object_at t₁ s) ≡ 1 → bytes_at t₁ r ≡ bytes_at t₁ s → r ≡ s
      files r s (inl e) (inl f) a d k = e ∙ sym f
      files r s (inl e) (inr l) a d k = absurd (no_file s l (kind 1 s l d) (ap (λ x. kind_of (object_at t₁ x)) (sym e) ∙ a) (sym (bytes_stay s l) ∙ sym k ∙ ap (bytes_at t₁) e))
      files r s (inr l) (inl f) a d k = absurd (no_file r l (kind 1 r l a) (ap (λ x. kind_of (object_at t₁ x)) (sym f) ∙ d) (sym (bytes_stay r l) ∙ k ∙ ap (bytes_at t₁) f))
      files r s (inr l) (inr q) a d k = stored.files_once r s l q (kind 1 r l a) (kind 1 s q d) (sym (bytes_stay r l) ∙ k ∙ bytes_stay s q)

      commits : (r s : ℕ) → (r ≡ new) ⊎ Live t roots r → (s ≡ new) ⊎ Live t roots s → kind_of (object_at t₁ r) ≡ 3 → kind_of (object_at t₁ s) ≡ 3 → number₁ r ≡ number₁ s → r ≡ s
      commits r s (inl e) (inl f) a d k = e ∙ sym f
      commits r s (inl e) (inr l) a d k = absurd (no_commit s l (kind 3 s l d) (ap (λ x. kind_of (object_at t₁ x)) (sym e) ∙ a) (sym (agree s l) ∙ sym k ∙ ap number₁ e))
      commits r s (inr l) (inl f) a d k = absurd (no_commit r l (kind 3 r l a) (ap (λ x. kind_of (object_at t₁ x)) (sym f) ∙ d) (sym (agree r l) ∙ k ∙ ap number₁ f))
      commits r s (inr l) (inr q) a d k = stored.commits_once r s l q (kind 3 r l a) (kind 3 s q d) (sym (agree r l) ∙ k ∙ agree s q)

-- A FILE LAID BEHIND ALL: it is live, it is the file with these bytes, and all that was live stays as it was
pub record FileLaid (sum : Sum) (b : Book) (number : ℕ → ℕ) (t rs bs x : List ℕ) (lo page pages : ℕ) : Type 0 where
  pub heap : Heap (t ++ x) lo (8 * (page + pages)) ((8 * page + 1) ∷ rs)
  pub stored : Stored sum b number (t ++ x) ((8 * page + 1) ∷ rs)
  pub file : FileAt sum (t ++ x) (8 * page + 1)
  pub bytes : bytes_at (t ++ x) (8 * page + 1) ≡ bs
  pub stays : (r : ℕ) → Live t rs r → object_at (t ++ x) r ≡ object_at t r
  pub same_bytes : (r : ℕ) → Live t rs r → bytes_at (t ++ x) r ≡ bytes_at t r
  pub same_file : (r : ℕ) → Live t rs r → FileAt sum t r → FileAt sum (t ++ x) r
  pub kept : (r : ℕ) → Live t rs r → Live (t ++ x) ((8 * page + 1) ∷ rs) r

module _ (sum : Sum) (b : Book) (number : ℕ → ℕ) (t rs bs o x : List ℕ) (lo page : ℕ) (texts : (k : ℕ) → a_text (nth b k).words ≡ true) (tape : length t ≡ 64 * page) (low : lo ≤ 8 * page) (heap : Heap t lo (8 * page) rs)
    (stored : Stored sum b number t rs) (fresh : (r : ℕ) → Live t rs r → kind_of (object_at t r) ≡ 1 → bytes_at t r ≡ bs → ⊥)
    (text : a_text bs ≡ true) (o_is : o ≡ file_object (words 4 (sum bs)) (length bs) (packed_bytes bs)) (long : length x ≡ 64 * pages_of (length o)) (front : take (length o) x ≡ o) where
  four : length (words 4 (sum bs)) ≡ 4
  four = length_words 4 (sum bs)

  packed_long : length (packed_bytes bs) ≡ words_for (length bs)
  packed_long = length_words (words_for (length bs)) (bs ++ zeros 7)

  few : length bs < 65536
  few = (text_parts bs text).0

  o_long : length o ≡ 6 + length (packed_bytes bs)
  o_long = omega (arith, ap length o_is, length-append (words 4 (sum bs)) (packed_bytes bs), four)

  parts : (references_in (get_or o 0 0) ≡ 0) × (size_of o ≡ 6 + length (packed_bytes bs)) × (kind_of o ≡ 1)
  parts =
      let p = heading_parts 1 0 (6 + length (packed_bytes bs)) (omega arith) (omega (arith, packed_long, few)) in (
        ap (λ q. references_in (get_or q 0 0)) o_is ∙ p.0,
        ap size_of o_is ∙ p.1,
        ap kind_of o_is ∙ p.2,
      )

  o_lone : references_of o ≡ []
  o_lone = ap (λ n. take n (drop 2 o)) parts.0

  new_file : New t rs o
  new_file =
      record {
        sized = parts.1 ∙ sym o_long;
        short = omega (arith, o_long, packed_long, few);
        whole = omega (arith, o_long, parts.0);
        few = omega (arith, parts.0);
        kinded = omega (arith, parts.2);
        key_there = λ _. omega (arith, o_long, parts.0);
        refers = λ r e. absurd (false≢true (ap (λ q. has q r) (sym o_lone) ∙ e));
      }

  grown : Grown t rs o x lo (8 * (page + pages_of (length o))) page
  grown = grows t rs o x lo (8 * page) page (pages_of (length o)) tape low (omega arith) heap new_file long front

  bytes_are : bytes_at (t ++ x) (8 * page + 1) ≡ bs
  bytes_are =
      ap (λ q. take (own_weight q - 64) (bytes_of (drop 6 q))) (grown.stands ∙ o_is)
      ∙ ap₂ (λ n ws. take n (bytes_of ws)) weight (drop_at (words 4 (sum bs)) (packed_bytes bs) 4 four) ∙ bytes_back bs (text_parts bs text).1
    where
      weight : 64 + length bs - 64 ≡ length bs
      weight = omega arith

  file : FileAt sum (t ++ x) (8 * page + 1)
  file =
      record {
        one = omega arith;
        text = ap a_text bytes_are ∙ text;
        is = grown.stands ∙ o_is ∙ ap (λ c. file_object (words 4 (sum c)) (length c) (packed_bytes c)) (sym bytes_are);
      }

  whole : (r : ℕ) → Live t rs r → 2 + references_in (get_or (object_at t r) 0 0) ≤ length (object_at t r)
  whole r l = whole_object t lo (8 * page) r (heap.placed r l) (omega (arith, tape))

  kind : kind_of (object_at (t ++ x) (8 * page + 1)) ≡ 1
  kind = file_kind sum (t ++ x) (8 * page + 1) file

  pub file_laid : FileLaid sum b number t rs bs x lo page (pages_of (length o))
  file_laid =
      record {
        heap = grown.heap;
        stored =
            stored_more sum b number number t (t ++ x) rs texts stored whole grown.stays (λ r l. refl) ((8 * page + 1) ∷ rs) (8 * page + 1) grown.only (a_file file)
            (λ r l k q e. fresh r l k (e ∙ bytes_are)) (λ r l k q e. absurd (omega (arith, kind, q)));
        file = file;
        bytes = bytes_are;
        stays = grown.stays;
        same_bytes = λ r l. bytes_alike t (t ++ x) r r (grown.stays r l);
        same_file = λ r l f. file_alike sum t (t ++ x) r r f.one (grown.stays r l) f;
        kept = grown.kept;
      }

-- A TREE LAID BEHIND ALL, and the head that names it
module _ (sum : Sum) (pages : ℕ) (b : Book) (number : ℕ → ℕ) (page : ℕ) (h t ws rs x : List ℕ) (tree : Tree) (tips : List ℕ) (texts : (k : ℕ) → a_text (nth b k).words ≡ true) (tape : length t ≡ 64 * page) (low : 8 * first_page h ≤ 8 * page)
    (heap : Heap t (8 * first_page h) (8 * page) rs) (stored : Stored sum b number t rs) (refers : (r : ℕ) → has (references ws) r ≡ true → Live t rs r)
    (files : (r : ℕ) → has (references ws) r ≡ true → FileAt sum t r) (row : RowOf (bytes_at t) ws tree)
    (tip : Numbered number t (tip_root h) tips) (tip_there : 1 ≤ tip_root h → Live t rs (tip_root h))
    (long : length x ≡ 64 * pages_of (length (squeezed ws))) (front : take (length (squeezed ws)) x ≡ squeezed ws) where
  object : TreeObject ws
  object = stored_objects ws

  references_long : length (references ws) ≡ held ws
  references_long = length_references (held ws) (drop 2 ws)

  none_behind : squeezed ws ++ [] ≡ squeezed ws
  none_behind = append-nil (squeezed ws)

  tree_lone : references_in (get_or (squeezed ws) 0 0) ≡ held ws
  tree_lone = ap (λ o. references_in (get_or o 0 0)) (sym none_behind) ∙ files_back ws []

  new_tree : New t rs (squeezed ws)
  new_tree =
      record {
        sized = object.sized;
        short = omega (arith, object.most);
        whole = omega (arith, tree_lone, length_squeezed ws);
        few = omega (arith, tree_lone);
        kinded = omega (arith, object.kind);
        key_there = λ k. absurd (false≢true (ap keyed (sym object.kind) ∙ k));
        refers = λ r e. inr (refers r (ap (λ q. has q r) (sym object.refers) ∙ e));
      }

  tree_grown : Grown t rs (squeezed ws) x (8 * first_page h) (8 * (page + pages_of (length (squeezed ws)))) page
  tree_grown = grows t rs (squeezed ws) x (8 * first_page h) (8 * page) page (pages_of (length (squeezed ws))) tape low (omega arith) heap new_tree long front

  stay : (r : ℕ) → has (references ws) r ≡ true → object_at (t ++ x) r ≡ object_at t r
  stay r e = tree_grown.stays r (refers r e)

  row_bytes_stay : (r : ℕ) → has (references ws) r ≡ true → bytes_at (t ++ x) r ≡ bytes_at t r
  row_bytes_stay r e = bytes_alike t (t ++ x) r r (stay r e)

  row_now : RowOf (bytes_at (t ++ x)) ws tree
  row_now = row_stands (bytes_at t) (bytes_at (t ++ x)) ws tree (λ r e. sym (row_bytes_stay r e)) row

  named_now : references_of (object_at (t ++ x) (8 * page + 1)) ≡ references ws
  named_now = ap references_of tree_grown.stands ∙ object.refers

  one_of : (r : ℕ) → has (references_of (object_at (t ++ x) (8 * page + 1))) r ≡ true → has (references ws) r ≡ true
  one_of r e = ap (λ q. has q r) (sym named_now) ∙ e

  pub tree_laid : TreeAt sum (t ++ x) (8 * page + 1) tree
  unfolding StoredRight
  tree_laid =
      record {
        one = omega arith;
        kind = ap kind_of tree_grown.stands ∙ object.kind;
        light = ap own_weight tree_grown.stands ∙ object.light;
        weighs =
            ap tree_weight_in (tree_grown.stands ∙ sym none_behind) ∙ ap (λ u. get_or u 0 0) (data_back ws []) ∙ row.weighed;
        named = λ s e. file_alike sum t (t ++ x) s s (files s (one_of s e)).one (stay s (one_of s e)) (files s (one_of s e));
        short =
            omega (
              arith,
              ap size_of tree_grown.stands,
              object.sized,
              ap length named_now,
              references_long,
              row_length (bytes_at t) ws tree row,
              stored_bytes (bytes_at t) ws tree row,
            );
        files = ap (each (bytes_at (t ++ x))) named_now ∙ row_files (bytes_at (t ++ x)) ws tree row_now;
        spreads =
            λ z into two fits.
            let r = stored_right (bytes_at (t ++ x)) ws tree z into row_now two fits in
            subst (λ o. (spread_fits (o ++ z) into ≡ true) × RowOf (bytes_at (t ++ x)) (spread_into (o ++ z) into) tree) (sym tree_grown.stands) (r.0, r.1);
      }

  tree_whole : (r : ℕ) → Live t rs r → 2 + references_in (get_or (object_at t r) 0 0) ≤ length (object_at t r)
  tree_whole r l = whole_object t (8 * first_page h) (8 * page) r (heap.placed r l) (omega (arith, tape))

  tree_stored : Stored sum b number (t ++ x) ((8 * page + 1) ∷ rs)
  tree_stored =
      stored_more sum b number number t (t ++ x) rs texts stored tree_whole tree_grown.stays (λ r l. refl) ((8 * page + 1) ∷ rs) (8 * page + 1) tree_grown.only (a_tree tree tree_laid)
      (λ r l k q e. absurd (omega (arith, tree_laid.kind, q))) (λ r l k q e. absurd (omega (arith, tree_laid.kind, q)))

  abbrev pub head_now : List ℕ
  head_now = first_page h ∷ (page + pages_of (length (squeezed ws))) ∷ (8 * page + 1) ∷ tip_root h ∷ drop 4 h

  pub shelf_over : weight b (keeping tree tips) ≤ 128 * pages → (page + pages_of (length (squeezed ws))) + reserve pages ≤ first_page h + (pages - 1) → drop 4 h ≡ zeros 28 →
      Shelf sum pages b number head_now (t ++ x) tree tips
  shelf_over light room others =
      record {
        whole = omega (arith, length-append t x, tape, long);
        others = others;
        heap = heap_part (t ++ x) (8 * first_page h) (8 * (page + pages_of (length (squeezed ws)))) ((8 * page + 1) ∷ rs) (roots_of head_now) there tree_grown.heap;
        stored = stored_part sum b number (t ++ x) ((8 * page + 1) ∷ rs) (roots_of head_now) there tree_stored;
        work = inr tree_laid;
        tip = numbered tip;
        weight = light;
        ring = room;
      }
    where
      there : (r : ℕ) → 1 ≤ r → has (roots_of head_now) r ≡ true → Live (t ++ x) ((8 * page + 1) ∷ rs) r
      there r one e =
          named_by (8 * page + 1) (tip_root h) (t ++ x) ((8 * page + 1) ∷ rs) r one (ap (λ q. has q r) (sym (head_roots head_now others)) ∙ e)
          (λ i. root (8 * page + 1) i (in_has ((8 * page + 1) ∷ rs) (8 * page + 1) (inl refl))) (λ i. tree_grown.kept (tip_root h) (tip_there i))

      numbered : Numbered number t (tip_root h) tips → Numbered number (t ++ x) (tip_root h) tips
      numbered (inl e) = inl e
      numbered (inr (one, kind, e)) = inr (one, ap kind_of (tree_grown.stays (tip_root h) (tip_there one)) ∙ kind, e)

-- A COMMIT LAID BEHIND ALL, and the head that names it
module _ (sum : Sum) (pages : ℕ) (b : Book) (number : ℕ → ℕ) (h t x : List ℕ) (tree : Tree) (tips : List ℕ) (k : ℕ) (s : Shelf sum pages b number h t tree tips)
    (low : first_page h ≤ last_page h) (noted : k < length b) (tree_is : (nth b k).tree ≡ tree) (parents_are : (nth b k).parents ≡ tips) (texts : (q : ℕ) → a_text (nth b q).words ≡ true)
    (fresh : (r : ℕ) → Live t (roots_of h) r → kind_of (object_at t r) ≡ 3 → number r ≡ k → ⊥) where
  abbrev new : ℕ
  new = 8 * last_page h + 1

  -- the commit as it is laid
  abbrev laid_commit : List ℕ
  laid_commit = version_of sum (work_root h) (tip_root h) (id sum b k) (nth b k)

  abbrev pub number_now : ℕ → ℕ
  number_now r = pick (eqb r (8 * last_page h + 1)) k (number r)

  words_long : length (packed_bytes (nth b k).words) ≡ words_for (length (nth b k).words)
  words_long = length_words (words_for (length (nth b k).words)) ((nth b k).words ++ zeros 7)

  few_words : length (nth b k).words < 65536
  few_words = (text_parts (nth b k).words (texts k)).0

  commit_long : length laid_commit ≡ 11 + length (packed_bytes (nth b k).words)
  commit_long = omega (arith, length-append (words 4 (id sum b k)) ((nth b k).stamp ∷ weight_of (nth b k).tree ∷ packed_bytes (nth b k).words), length_words 4 (id sum b k))

  commit_parts : (references_in (get_or laid_commit 0 0) ≡ 3) × (size_of laid_commit ≡ 11 + length (packed_bytes (nth b k).words)) × (kind_of laid_commit ≡ 3)
  commit_parts = let p = heading_parts 3 3 (11 + length (packed_bytes (nth b k).words)) (omega arith) (omega (arith, words_long, few_words)) in (p.0, p.1, p.2)

  commit_refers : references_of laid_commit ≡ work_root h ∷ tip_root h ∷ 0 ∷ []
  commit_refers = ap (λ i. take i (drop 2 laid_commit)) commit_parts.0

  root_there : 1 ≤ work_root h → Live t (roots_of h) (work_root h)
  root_there = root_live sum pages b number h t tree tips s

  tip_there : 1 ≤ tip_root h → Live t (roots_of h) (tip_root h)
  tip_there = tip_live sum pages b number h t tree tips s

  new_commit : New t (roots_of h) laid_commit
  new_commit =
      record {
        sized = commit_parts.1 ∙ sym commit_long;
        short = omega (arith, commit_long, words_long, few_words);
        whole = omega (arith, commit_long, commit_parts.0);
        few = omega (arith, commit_parts.0);
        kinded = omega (arith, commit_parts.2);
        key_there = λ _. omega (arith, commit_long, commit_parts.0);
        refers = λ r e. one_of r (has_cases (work_root h) r (tip_root h ∷ 0 ∷ []) (ap (λ q. has q r) (sym commit_refers) ∙ e));
      }
    where
      last : (r : ℕ) → (0 ≡ r) ⊎ (has [] r ≡ true) → (r ≡ 0) ⊎ Live t (roots_of h) r
      last r (inl e) = inl (sym e)
      last r (inr e) = absurd (false≢true e)

      two : (r : ℕ) → (tip_root h ≡ r) ⊎ (has (0 ∷ []) r ≡ true) → (r ≡ 0) ⊎ Live t (roots_of h) r
      two r (inl e) = some_or r (λ one. subst (Live t (roots_of h)) e (tip_there (subst (λ i. 1 ≤ i) (sym e) one)))
      two r (inr e) = last r (has_cases 0 r [] e)

      one_of : (r : ℕ) → (work_root h ≡ r) ⊎ (has (tip_root h ∷ 0 ∷ []) r ≡ true) → (r ≡ 0) ⊎ Live t (roots_of h) r
      one_of r (inl e) = some_or r (λ one. subst (Live t (roots_of h)) e (root_there (subst (λ i. 1 ≤ i) (sym e) one)))
      one_of r (inr e) = two r (has_cases (tip_root h) r (0 ∷ []) e)

  module _ (long : length x ≡ 64 * pages_of (length laid_commit)) (front : take (length laid_commit) x ≡ laid_commit) where
    commit_grown : Grown t (roots_of h) laid_commit x (8 * first_page h) (8 * (last_page h + pages_of (length laid_commit))) (last_page h)
    commit_grown =
        grows t (roots_of h) laid_commit x (8 * first_page h) (8 * last_page h) (last_page h) (pages_of (length laid_commit)) s.whole (omega (arith, low)) (omega arith) s.heap new_commit long front

    whole_now : (r : ℕ) → Live t (roots_of h) r → 2 + references_in (get_or (object_at t r) 0 0) ≤ length (object_at t r)
    whole_now r l = whole_object t (8 * first_page h) (8 * last_page h) r (s.heap.placed r l) (omega (arith, s.whole))

    -- numbers stay on what was live: it stands lower
    agree : (r : ℕ) → Live t (roots_of h) r → number_now r ≡ number r
    agree r l =
        let q : Placed t (8 * first_page h) (8 * last_page h) r = s.heap.placed r l in
        pick_false (eqb r (8 * last_page h + 1)) k (number r) (ne_eqb r (8 * last_page h + 1) (λ e. omega (arith, e, q.above, q.within, q.whole)))

    new_number : number_now (8 * last_page h + 1) ≡ k
    new_number = pick_true (eqb (8 * last_page h + 1) (8 * last_page h + 1)) k (number (8 * last_page h + 1)) (eq-eqb (8 * last_page h + 1) (8 * last_page h + 1) refl)

    tree_now : WorkAt sum t (work_root h) tree → WorkAt sum (t ++ x) (work_root h) tree
    tree_now (inl e) = inl e
    tree_now (inr q) = inr (tree_stays sum b number number_now t (t ++ x) (roots_of h) texts s.stored whole_now commit_grown.stays agree (work_root h) tree (root_there q.one) q)

    parent_now : Numbered number t (tip_root h) tips → Numbered number_now (t ++ x) (tip_root h) tips
    parent_now (inl e) = inl e
    parent_now (inr (one, kind, e)) =
        inr (one, ap kind_of (commit_grown.stays (tip_root h) (tip_there one)) ∙ kind, e ∙ ap (λ i. i ∷ []) (sym (agree (tip_root h) (tip_there one))))

    commit_laid : CommitAt sum b number_now (t ++ x) (8 * last_page h + 1)
    commit_laid =
        record {
          one = omega arith;
          noted = subst (λ i. i < length b) (sym new_number) noted;
          is =
              commit_grown.stands
              ∙ ap₂ (λ q i. commit_object (tree_named q) (parent_named q) 0 (words 4 (id sum b i)) (nth b i).stamp (weight_of (nth b i).tree) (length (nth b i).words) (packed_bytes (nth b i).words))
              (sym commit_grown.stands) (sym new_number);
          tree = subst₂ (λ q i. WorkAt sum (t ++ x) (tree_named q) (nth b i).tree) (sym commit_grown.stands) (sym new_number) (subst (WorkAt sum (t ++ x) (work_root h)) (sym tree_is) (tree_now s.work));
          parent = subst₂ (λ q i. Numbered number_now (t ++ x) (parent_named q) (nth b i).parents) (sym commit_grown.stands) (sym new_number) (subst (Numbered number_now (t ++ x) (tip_root h)) (sym parents_are) (parent_now s.tip));
        }

    kind_now : kind_of (object_at (t ++ x) (8 * last_page h + 1)) ≡ 3
    kind_now = ap kind_of commit_grown.stands ∙ commit_parts.2

    commit_stored : Stored sum b number_now (t ++ x) ((8 * last_page h + 1) ∷ roots_of h)
    commit_stored =
        stored_more sum b number number_now t (t ++ x) (roots_of h) texts s.stored whole_now commit_grown.stays agree ((8 * last_page h + 1) ∷ roots_of h) (8 * last_page h + 1) commit_grown.only
        (a_commit commit_laid) (λ r l i q e. absurd (omega (arith, kind_now, q))) (λ r l i q e. fresh r l i (e ∙ new_number))

    abbrev pub head_noted : List ℕ
    head_noted = first_page h ∷ (last_page h + pages_of (length laid_commit)) ∷ work_root h ∷ (8 * last_page h + 1) ∷ drop 4 h

    pub shelf_noted : weight b (keeping tree (k ∷ [])) ≤ 128 * pages → (last_page h + pages_of (length laid_commit)) + reserve pages ≤ first_page h + (pages - 1) →
        Shelf sum pages b number_now head_noted (t ++ x) tree (k ∷ [])
    shelf_noted light room =
        record {
          whole = omega (arith, length-append t x, s.whole, long);
          others = s.others;
          heap = heap_part (t ++ x) (8 * first_page h) (8 * (last_page h + pages_of (length laid_commit))) ((8 * last_page h + 1) ∷ roots_of h) (roots_of head_noted) there commit_grown.heap;
          stored = stored_part sum b number_now (t ++ x) ((8 * last_page h + 1) ∷ roots_of h) (roots_of head_noted) there commit_stored;
          work = tree_now s.work;
          tip = inr (omega arith, kind_now, ap (λ i. i ∷ []) (sym new_number));
          weight = light;
          ring = room;
        }
      where
        there : (r : ℕ) → 1 ≤ r → has (roots_of head_noted) r ≡ true → Live (t ++ x) ((8 * last_page h + 1) ∷ roots_of h) r
        there r one e =
            named_by (work_root h) (8 * last_page h + 1) (t ++ x) ((8 * last_page h + 1) ∷ roots_of h) r one (ap (λ q. has q r) (sym (head_roots head_noted s.others)) ∙ e)
            (λ i. commit_grown.kept (work_root h) (root_there i)) (λ i. root (8 * last_page h + 1) i (in_has ((8 * last_page h + 1) ∷ roots_of h) (8 * last_page h + 1) (inl refl)))
