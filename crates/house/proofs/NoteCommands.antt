-- The house that notes versions answers a commit as the plain house does: the tree in work is noted on top of the branch's commit. Assumes nothing.
use Rattle.std.proofs.Common.{◌≡◌, ℕ, suc, ◌+◌, ◌-◌, ◌*◌, ◌<◌, ◌≤◌, min, Bool, true, false, ◌&&◌, eqb, ltb, ◌⊎◌, List, [], ◌∷◌, ◌++◌, length, get_or, take, drop, Some, sym, refl, ap, ◌∙◌, subst, ap₂, inl, inr, arith, length-append}
use Rattle.std.proofs.lemmas.Bool.{eqb-true, eqb-false, eq-eqb, ne_eqb, lt-ltb, ltb-true, ltb-false, and_parts, cases_order}
use Rattle.std.proofs.lemmas.Bool.Decides.{Decides-eqb}
use Rattle.std.proofs.lemmas.List.{drop-drop}
use Rattle.pages.specs.Lists.{pick, each, has, same, zeros, distinct, added_up}
use Rattle.pages.specs.Bytes.{all_bytes}
use Rattle.pages.specs.Words.{over, words}
use Rattle.pages.specs.Object.{kind_of, object_at}
use Rattle.pages.specs.Crash.{Rows}
use Rattle.pages.specs.Engine.{bulk_cells}
use Rattle.pages.specs.Machine.{Asked, asked, capped}
use Rattle.pages.specs.Tape.{first_page, last_page, Window, finishes}
use Rattle.pages.specs.declared.machine.Request.TheVariants.{Refuse}
use Rattle.pages.proofs.ListLaws.{pick_true, pick_false, In, Once, each_alike, in_append, in_left, in_right, in_flat, flat_in, same_test, same_true, same_tells, added_up_alike, added_up_members, distinct_in, in_distinct, once_distinct}
use Rattle.pages.proofs.WordLaws.{length_over, length_words}
use Rattle.objects.specs.Heap.{Live, Lives, Placed, weights, has_key as key_there}
use Rattle.objects.specs.Layouts.{words_for, packed_bytes, bytes_put}
use Rattle.objects.specs.Marking.{key_words, Marked}
use Rattle.objects.specs.Room.{quarter, reserve}
use Rattle.objects.specs.Sweeping.{roots_of}
use Rattle.objects.specs.declared.mark.Walk.{Walk}
use Rattle.objects.proofs.LayoutLaws.{put_all}
use Rattle.objects.proofs.PartLaws.{parts_stay}
use Rattle.trees.specs.Tree.{Tree, same_tree}
use Rattle.trees.specs.Row.{entries_of, references}
use Rattle.trees.specs.RowOf.{weight_of, RowOf}
use Rattle.trees.specs.RowPromises.{SameRight, Apart}
use Rattle.trees.proofs.RowOfLaws.{same_right}
use Rattle.trees.proofs.TreeLaws.{same_tree_tells}
use Rattle.history.specs.Book.{Book, Commit, Sum, nth, id, commit_spelled, noted, place, back}
use Rattle.history.specs.Laws.{Grown}
use Rattle.history.proofs.BookLaws.{nth_front, nth_beyond, nth_end, length_more, noted_either, noted_more, nth_noted, place_noted}
use Rattle.history.proofs.BackLaws.{back_within, once_back}
use Rattle.history.proofs.GrowLaws.{id_more, id_noted, grown_noted, noted_front, place_above, back_noted, noted_back, once_noted}
use Rattle.commands.specs.Command.{Command, commit, spelled, fits, a_text}
use Rattle.commands.specs.Parse.{parsed}
use Rattle.house.specs.House.{Plain, Turn, turn, clone_at, no, yes_with, tree_of, ref_of, set_ref, weight, tree_weight}
use Rattle.house.specs.Facts.{FineTree}
use Rattle.house.specs.Promise.{told_apart, StillApart, Said, Allowed, KnownAllowed}
use Rattle.house.specs.Simulation.{Setting}
use Rattle.house.specs.OnTape.{Answered}
use Rattle.house.specs.Control.{against, at_phase, bytes_at as bytes_place, changed, coming_from, comparing, control_client, control_hears, head_word, hearing, identified, kept, kind_sought, lay_commit, load_old, loaded, more_kept, named_after, no_sum, noting, old_row_of, pages_of, path_at, row_of, settled, stamped, sum_key, survey, survey_roots, surveyed, surveying, sweeping, under_tip}
use Rattle.house.specs.Shelf.{bytes_at, FileAt, WorkAt, CommitAt, Numbered, Shelf, Stands, Remembers, keeping, work_root, tip_root, tree_named, files_named}
use Rattle.house.specs.declared.control.Control.{Control}
use Rattle.house.specs.declared.control.Phase.TheVariants.{Recalling, OpeningTip}
use Rattle.house.specs.declared.control.Task.{Task}
use Rattle.house.specs.declared.control.Task.TheVariants.{Note}
use Rattle.house.proofs.TurnLaws.{clone_at_same}
use Rattle.house.proofs.DeskLaws.{Desk, head_word_is}
use Rattle.house.proofs.Sheets.{Well, surveys, head_roots_in, sum_words, text_parts}
use Rattle.house.proofs.SpellLaws.{Comes}
use Rattle.house.proofs.Versions.{version_of, id_long, sums_files, lays_version}
use Rattle.house.proofs.ShelfLaws.{head_long, root_live, work_is, work_there, named_files, work_file_at, as_commit, commit_key, tree_files_live, tips_noted, tips_once, tip_there, roots_among, work_files_there, live_commit_reached, live_weighs, commits_files, files_weight, commits_weight, keeping_weighs, shelf_grown}
use Rattle.house.proofs.NewShelf.{shelf_noted}
use Rattle.house.proofs.SurveyLaws.{sum_by_words}
use Rattle.house.proofs.Commands.{reserve_small, ids_by, Spot, after_all, Stop, End, stands_in, stops_before, stops_after, ends_before, ends_after, comes_out, says, few_tips, small_spot, file_placed, tip_tree, tip_tree_live, tip_commit, loads, asks_tip, loads_tip, hears}

-- WHAT IS NOTED
abbrev pub new_version : List ℕ → Tree → ℕ → List ℕ → Commit
new_version tips tree st ws = record { parents = tips; tree = tree; stamp = st; words = ws }

-- all words in the book stay texts
pub texts_noted : (b : Book) (c : Commit) → ((k : ℕ) → a_text (nth b k).words ≡ true) → a_text c.words ≡ true → (k : ℕ) → a_text (nth (noted c b) k).words ≡ true
unfolding all_bytes
texts_noted b c texts text = noted_either (λ z. (k : ℕ) → a_text (nth z k).words ≡ true) c b (λ _. texts) (λ _. at_end)
  where
    at_end : (k : ℕ) → a_text (nth (b ++ (c ∷ [])) k).words ≡ true
    at_end k = go (cases_order k (length b))
      where
        go : (k ≡ length b) ⊎ ((k < length b) ⊎ (length b < k)) → a_text (nth (b ++ (c ∷ [])) k).words ≡ true
        go (inl e) = ap (λ (x : Commit). a_text x.words) (ap (nth (b ++ (c ∷ []))) e ∙ nth_end b c) ∙ text
        go (inr (inl l)) = ap (λ (x : Commit). a_text x.words) (nth_front b (c ∷ []) k l) ∙ texts k
        go (inr (inr l)) =
            let m : length (b ++ (c ∷ [])) ≡ suc (length b) = length_more b c in
            ap (λ (x : Commit). a_text x.words) (nth_beyond (b ++ (c ∷ [])) k (omega arith))

-- HOW MUCH IS KEPT then: the tree's files are kept already, and the commit comes to it
module _ (b : Book) (tree : Tree) (tips : List ℕ) (st : ℕ) (ws : List ℕ) (grown : Grown b) (low : (k : ℕ) → In k tips → k < length b) (once : Once tips) where
  abbrev c : Commit
  c = new_version tips tree st ws

  abbrev bytes : List (List ℕ)
  bytes = each (λ f. f.bytes) tree

  abbrev at : ℕ
  at = place (new_version tips tree st ws) b

  front : (k : ℕ) → In k (back b tips) → nth (noted (new_version tips tree st ws) b) k ≡ nth b k
  front k i = noted_front b c grown low k (back_within b tips grown low k i)

  files_out : (x : List ℕ) → In x (commits_files (noted c b) (at ∷ []) ++ bytes) → In x (commits_files b tips ++ bytes)
  files_out x i = go (in_append x (commits_files (noted c b) (at ∷ [])) bytes i)
    where
      by : (k : ℕ) → In x (each (λ f. f.bytes) (nth (noted (new_version tips tree st ws) b) k).tree) → In k (at ∷ back b tips) → In x (commits_files b tips ++ bytes)
      by k j (inl e) =
          in_right x (commits_files b tips) bytes
          (subst (λ (y : Commit). In x (each (λ f. f.bytes) y.tree)) (ap (nth (noted c b)) (sym e) ∙ nth_noted c b) j)
      by k j (inr l) =
          in_left x (commits_files b tips) bytes
          (in_flat (λ q. each (λ f. f.bytes) (nth b q).tree) (back b tips) k x l (subst (λ (y : Commit). In x (each (λ f. f.bytes) y.tree)) (front k l) j))

      go : In x (commits_files (noted (new_version tips tree st ws) b) (at ∷ [])) ⊎ In x bytes → In x (commits_files b tips ++ bytes)
      go (inl j) =
          let q = flat_in (λ k. each (λ f. f.bytes) (nth (noted c b) k).tree) (back (noted c b) (at ∷ [])) x j in
          by q.0 q.2 (back_noted b c grown low q.0 q.1)
      go (inr j) = in_right x (commits_files b tips) bytes j

  files_in : (x : List ℕ) → In x (commits_files b tips ++ bytes) → In x (commits_files (noted c b) (at ∷ []) ++ bytes)
  files_in x i = go (in_append x (commits_files b tips) bytes i)
    where
      go : In x (commits_files b tips) ⊎ In x bytes → In x (commits_files (noted (new_version tips tree st ws) b) (at ∷ []) ++ bytes)
      go (inl j) =
          let q = flat_in (λ k. each (λ f. f.bytes) (nth b k).tree) (back b tips) x j in
          in_left x (commits_files (noted c b) (at ∷ [])) bytes
          (in_flat (λ k. each (λ f. f.bytes) (nth (noted c b) k).tree) (back (noted c b) (at ∷ [])) q.0 x (noted_back b c grown low q.0 (inr q.1))
          (subst (λ (y : Commit). In x (each (λ f. f.bytes) y.tree)) (sym (front q.0 q.1)) q.2))
      go (inr j) = in_right x (commits_files (noted c b) (at ∷ [])) bytes j

  files_stay : files_weight (commits_files (noted c b) (at ∷ []) ++ bytes) ≡ files_weight (commits_files b tips ++ bytes)
  files_stay =
      added_up_members same same_tells (λ x. 64 + length x) (distinct (commits_files (noted c b) (at ∷ []) ++ bytes)) (distinct (commits_files b tips ++ bytes))
      (once_distinct (commits_files (noted c b) (at ∷ []) ++ bytes)) (once_distinct (commits_files b tips ++ bytes))
      (λ x i. in_distinct (commits_files b tips ++ bytes) x (files_out x (distinct_in (commits_files (noted c b) (at ∷ []) ++ bytes) x i)))
      (λ x i. in_distinct (commits_files (noted c b) (at ∷ []) ++ bytes) x (files_in x (distinct_in (commits_files b tips ++ bytes) x i)))

  commits_more : commits_weight (noted c b) (at ∷ []) ≡ (256 + length ws + tree_weight tree) + commits_weight b tips
  unfolding added_up
  commits_more =
      added_up_members eqb Decides-eqb (λ k. 256 + length (nth (noted c b) k).words + tree_weight (nth (noted c b) k).tree) (back (noted c b) (at ∷ [])) (at ∷ back b tips)
      (once_back (noted c b) (at ∷ []) (λ i. i, tt)) (once_noted b c grown low once) (back_noted b c grown low) (noted_back b c grown low)
      ∙ ap₂ (λ x y. x + y) (ap (λ (x : Commit). 256 + length x.words + tree_weight x.tree) (nth_noted c b))
      (added_up_alike (λ k. 256 + length (nth (noted c b) k).words + tree_weight (nth (noted c b) k).tree) (λ k. 256 + length (nth b k).words + tree_weight (nth b k).tree) (back b tips)
      (λ k i. ap (λ (x : Commit). 256 + length x.words + tree_weight x.tree) (front k i)))

  pub noted_weighs : weight (noted (new_version tips tree st ws) b) (keeping tree (place (new_version tips tree st ws) b ∷ []))
      ≡ (files_weight (commits_files b tips ++ each (λ f. f.bytes) tree) + commits_weight b tips) + weight_of tree + 128 + (256 + length ws + weight_of tree)
  unfolding weight_of tree_weight
  noted_weighs =
      let all : weight (noted c b) (keeping tree (at ∷ []))
      ≡ files_weight (commits_files (noted c b) (at ∷ []) ++ bytes) + commits_weight (noted c b) (at ∷ []) + weight_of tree + 128 =
      keeping_weighs (noted c b) tree (at ∷ []) (omega arith) in
      sums_up (weight (noted c b) (keeping tree (at ∷ []))) (files_weight (commits_files (noted c b) (at ∷ []) ++ bytes)) (files_weight (commits_files b tips ++ bytes))
      (commits_weight (noted c b) (at ∷ [])) (commits_weight b tips) (256 + length ws) (weight_of tree) all files_stay commits_more
    where
      sums_up : (w f f₁ k k₁ n t : ℕ) → w ≡ f + k + t + 128 → f ≡ f₁ → k ≡ (n + t) + k₁ → w ≡ (f₁ + k₁) + t + 128 + (n + t)
      sums_up w f f₁ k k₁ n t a e g = omega arith

-- BY THE PLAIN HOUSE: the new commit is noted, and the branch is at it
abbrev pub book_with : Plain → List ℕ → Tree → ℕ → List ℕ → Book
book_with w tips tree st ws = noted (new_version tips tree st ws) w.book

abbrev pub place_in : Plain → List ℕ → Tree → ℕ → List ℕ → ℕ
place_in w tips tree st ws = place (new_version tips tree st ws) w.book

abbrev pub noted_turn : Sum → Plain → ℕ → List ℕ → Tree → ℕ → List ℕ → Turn
noted_turn sum w c tips tree st ws =
    yes_with (id sum (book_with w tips tree st ws) (place_in w tips tree st ws) ∷ []) (book_with w tips tree st ws) w c
    (keeping tree (place_in w tips tree st ws ∷ []))

turned_by : (sum : Sum) (w : Plain) (c : ℕ) (tips : List ℕ) (tree u : Tree) (st : ℕ) (ws : List ℕ) (z : Bool) → u ≡ tree →
    pick (z && true) (no 7 w)
    (yes_with (id sum (book_with w tips tree st ws) (place_in w tips tree st ws) ∷ []) (book_with w tips tree st ws) w c (keeping u (place_in w tips tree st ws ∷ [])))
    ≡ pick z (no 7 w) (noted_turn sum w c tips tree st ws)
turned_by sum w c tips tree u st ws true e = refl
turned_by sum w c tips tree u st ws false e =
    ap (λ x. yes_with (id sum (book_with w tips tree st ws) (place_in w tips tree st ws) ∷ []) (book_with w tips tree st ws) w c (keeping x (place_in w tips tree st ws ∷ []))) e

pub turned_note : (sum : Sum) (w : Plain) (c : ℕ) (tree : Tree) (tips : List ℕ) (st : ℕ) (ws : List ℕ) → length tips ≤ 1 →
    turn sum w c (keeping tree tips) (commit st ws) ≡ pick (same_tree tree (tree_of w.book tips)) (no 7 w) (noted_turn sum w c tips tree st ws)
unfolding turn ref_of set_ref same
turned_note sum w c tree [] st ws few =
    turned_by sum w c [] tree (nth (book_with w [] tree st ws) (place_in w [] tree st ws)).tree st ws (same_tree tree (tree_of w.book []))
    (ap (λ (x : Commit). x.tree) (nth_noted (new_version [] tree st ws) w.book))
turned_note sum w c tree (k ∷ []) st ws few =
    turned_by sum w c (k ∷ []) tree (nth (book_with w (k ∷ []) tree st ws) (place_in w (k ∷ []) tree st ws)).tree st ws (same_tree tree (tree_of w.book (k ∷ [])))
    (ap (λ (x : Commit). x.tree) (nth_noted (new_version (k ∷ []) tree st ws) w.book))
turned_note sum w c tree (k ∷ j ∷ ks) st ws few = absurd (omega arith)

-- WHAT IS SAID is put aside: the words
pub words_aside : (b x : List ℕ) → length b < 65536 → length x ≡ bulk_cells →
    (length (bytes_put bytes_place b x) ≡ bulk_cells) × (take (words_for (length b)) (drop 9 (drop path_at (bytes_put bytes_place b x))) ≡ packed_bytes b)
words_aside b x short long = (
  ap length (sym is) ∙ length_over bytes_place (packed_bytes b) x (omega (arith, fits)) ∙ long,
  ap (λ y. take (words_for (length b)) (drop 9 (drop path_at y))) (sym is) ∙ ap (take (words_for (length b))) (drop-drop 9 path_at (over bytes_place (packed_bytes b) x))
      ∙ ap (λ i. take i (drop bytes_place (over bytes_place (packed_bytes b) x))) (sym packed_long) ∙ parts_stay.here bytes_place (packed_bytes b) x (omega (arith, fits)),
)
  where
    packed_long : length (packed_bytes b) ≡ words_for (length b)
    packed_long = length_words (words_for (length b)) (b ++ zeros 7)

    fits : bytes_place + length (packed_bytes b) ≤ length x
    fits = omega (arith, packed_long, short, long)

    is : over bytes_place (packed_bytes b) x ≡ bytes_put bytes_place b x
    is = put_all b x bytes_place (omega (arith, short, long))

-- what is kept, beside a quarter of the pages: numbers that stop at the highest tell the same
pub notes_alike : (q a t k : ℕ) → q < 18446744073709551615 →
    ltb q (capped (capped (capped (capped a + t) + 128) + capped (capped (256 + k) + t))) ≡ ltb q (a + t + 128 + (256 + k + t))
notes_alike q a t k low =
    same_test (ltb q (capped (capped (capped (capped a + t) + 128) + capped (capped (256 + k) + t)))) (ltb q (a + t + 128 + (256 + k + t)))
    (λ h. lt-ltb q (a + t + 128 + (256 + k + t)) (omega (arith, ltb-true q (capped (capped (capped (capped a + t) + 128) + capped (capped (256 + k) + t))) h)))
    (λ h. lt-ltb q (capped (capped (capped (capped a + t) + 128) + capped (capped (256 + k) + t))) (omega (arith, ltb-true q (a + t + 128 + (256 + k + t)) h)))

-- a commit takes no more pages than a reserve has
pub commit_pages : (sum : Sum) (tree parent pages others : ℕ) (i : List ℕ) (c : Commit) → 64 ≤ pages → others + (256 + length c.words + weight_of c.tree) ≤ 128 * pages →
    pages_of (length (version_of sum tree parent i c)) ≤ reserve pages
commit_pages sum tree parent pages others i c low light = few (length (version_of sum tree parent i c)) (length c.words) (weight_of c.tree) pages others long low light
  where
    long : length (version_of sum tree parent i c) ≡ 11 + words_for (length c.words)
    long =
        omega (
          arith,
          length-append (words 4 i) (c.stamp ∷ weight_of c.tree ∷ packed_bytes c.words),
          length_words 4 i,
          length_words (words_for (length c.words)) (c.words ++ zeros 7),
        )

    few : (l n t pages others : ℕ) → l ≡ 11 + words_for n → 64 ≤ pages → others + (256 + n + t) ≤ 128 * pages → pages_of l ≤ reserve pages
    few l n t pages others e low h = omega arith

-- trees are the same either way
pub same_either : (t u : Tree) → same_tree t u ≡ same_tree u t
same_either t u =
    same_test (same_tree t u) (same_tree u t) (λ h. (same_tree_tells u t).1 (sym ((same_tree_tells t u).0 h))) (λ h. (same_tree_tells t u).1 (sym ((same_tree_tells u t).0 h)))

pub rows_same : (stands : ℕ → List ℕ) (xs ys : List ℕ) (t u : Tree) → RowOf stands xs t → RowOf stands ys u → Apart stands xs ys →
    same_tree (entries_of xs) (entries_of ys) ≡ same_tree u t
unfolding SameRight
rows_same stands xs ys t u r q a = same_right stands xs ys t u r q a ∙ same_either t u

-- the files of a tree that is live are live, each once
pub named_live : (sum : Sum) (t roots : List ℕ) (r : ℕ) (u : Tree) → WorkAt sum t r u → (1 ≤ r → Live t roots r) → (i : ℕ) → has (files_named t r) i ≡ true →
    Live t roots i × (kind_of (object_at t i) ≡ 1)
named_live sum t roots r u work live i e =
    let one : 1 ≤ r = work_there t r i e in
    tree_files_live sum t roots r u (live one) (work_is sum t r u work one) i (ap (λ xs. has xs i) (sym (named_files t r one)) ∙ e)

module _ (s : Setting) (sums : (bs : List ℕ) → (length (s.sum bs) ≡ 32) × (all_bytes (s.sum bs) ≡ true)) (n : ℕ) (size : suc n ≡ s.pages) (low : 64 ≤ s.pages) (most : s.pages ≤ 1048576)
    (known_is : s.known ≡ noting) (things c : ℕ) (w : Plain) (lt : c < length w.clones) (grown : Grown w.book) (texts : (k : ℕ) → a_text (nth w.book k).words ≡ true)
    (trees : (k : ℕ) → FineTree (nth w.book k).tree) (tree : Tree) (tips : List ℕ) (clone_is : clone_at w.clones c ≡ keeping tree tips) (fine : FineTree tree) (k : Control)
    (knows : Remembers s.pages c k) (h t m text : List ℕ) (long : length m ≡ bulk_cells) (win : Window n h t (last_page h))
    (spot : Spot s.sum s.pages things w.book tree tips h t) (slack : last_page h + 2097152 * things + 2097152 ≤ 18014398509481984) (still : StillApart s.sum w c text) where
  abbrev pub Out : Type 0
  Out = Answered (control_client s.sum) (Remembers s.pages) (Stands s.sum s.pages) s n things c w k m h t text

  abbrev At : List ℕ → List ℕ → Type 0
  At h₁ t₁ = Spot s.sum s.pages things w.book tree tips h₁ t₁

  abbrev Stop₀ : Plain → Rows → List ℕ → List ℕ → Rows → Type 0
  Stop₀ = Stop s sums n size low most known_is things c w lt grown texts trees tree tips clone_is fine k knows

  abbrev End₀ : Plain → Rows → ℕ → Control → List ℕ → List ℕ → List ℕ → ℕ → Rows → ℕ → Type 0
  End₀ = End s sums n size low most known_is things c w lt grown texts trees tree tips clone_is fine k knows

  few : length tips ≤ 1
  few = few_tips s sums n size low most known_is things c w lt grown texts trees tree tips clone_is fine k knows h t spot

  tips_low : (q : ℕ) → In q tips → q < length w.book
  tips_low = tips_noted s.sum s.pages w.book spot.number h t tree tips spot.shelf

  once : Once tips
  once = tips_once s.sum s.pages w.book spot.number h t tree tips spot.shelf

  -- A COMMIT
  module _ (st : ℕ) (ws : List ℕ) (short : a_text ws ≡ true) (small : st < 18446744073709551616) (e : parsed text ≡ Some (commit st ws)) (sp : spelled (commit st ws) ≡ text)
      (ft : fits (commit st ws) ≡ true) where
    abbrev m₀ : List ℕ
    m₀ = bytes_put bytes_place ws m

    abbrev d : List ℕ
    d = drop path_at (bytes_put bytes_place ws m)

    abbrev b₁ : Book
    b₁ = book_with w tips tree st ws

    abbrev newest : ℕ
    newest = place_in w tips tree st ws

    abbrev ids : List (List ℕ)
    ids = each (id s.sum w.book) tips

    text_short : length ws < 65536
    text_short = (text_parts ws short).0

    aside : (length (bytes_put bytes_place ws m) ≡ bulk_cells) × (take (words_for (length ws)) (drop 9 (drop path_at (bytes_put bytes_place ws m))) ≡ packed_bytes ws)
    aside = words_aside ws m text_short long

    -- what the registers hold of it
    record Noting (k₁ : Control) : Type 0 where
      remembers : Remembers s.pages c k₁
      task_is : k₁.task ≡ Note
      bytes_are : k₁.bytes ≡ length ws
      stamp_is : k₁.version.stamp ≡ st

    -- where both trees are in their rows
    record Both (k₁ : Control) (ws₁ m₁ h₁ t₁ : List ℕ) : Type 0 where
      holds : Noting k₁
      spot₁ : Spot s.sum s.pages things w.book tree tips h₁ t₁
      desk : Desk h₁ ws₁ (drop path_at (bytes_put bytes_place ws m)) m₁
      row : RowOf (bytes_at t₁) ws₁ tree
      names : references ws₁ ≡ files_named t₁ (work_root h₁)
      alike : same_tree (entries_of (old_row_of m₁)) (entries_of (row_of m₁)) ≡ same_tree tree (tree_of w.book tips)
      comes : Comes h₁ k₁ (each (id s.sum w.book) tips)
      room : 2 * reserve s.pages + (last_page h₁ - first_page h₁) ≤ n

    turned : turn s.sum w c (clone_at w.clones c) (commit st ws) ≡ pick (same_tree tree (tree_of w.book tips)) (no 7 w) (noted_turn s.sum w c tips tree st ws)
    turned = ap (λ x. turn s.sum w c x (commit st ws)) clone_is ∙ turned_note s.sum w c tree tips st ws few

    -- however it ends, if what comes goes well once both trees are in their rows
    notes_as : (Stop : List ℕ → List ℕ → Rows → Type 0) (End : Control → List ℕ → List ℕ → List ℕ → ℕ → Rows → ℕ → Type 0) → ((h₁ t₁ : List ℕ) → At h₁ t₁ → Stop h₁ t₁ []) →
        ((k₁ : Control) (ws₁ m₁ h₁ t₁ : List ℕ) → Both k₁ ws₁ m₁ h₁ t₁ → Well s.sum n Stop End (changed s.sum k₁ m₁) h₁ t₁ (last_page h₁) []) →
        Well s.sum n Stop End (control_hears s.sum k m text) h t (last_page h) []
    unfolding tree_of
    notes_as Stop End stop on =
        subst (λ (x : Asked Control). Well s.sum n Stop End x h t (last_page h) [])
        (sym (says s sums n size low most known_is things c w lt grown texts trees tree tips clone_is fine k knows m text (commit st ws) long e))
        (hears s sums n size low most known_is things c w lt grown texts trees tree tips clone_is fine k knows Stop End (hearing Note (length ws) no_sum (stamped st k)) m₀ h t
        knows.pages_are aside.0 win spot slack stop
        (λ v m₁ h₁ t₁ spot₁ desk room.
        loads s sums n size low most known_is things c w lt grown texts trees tree tips clone_is fine k knows Stop End (at_phase Recalling (sweeping (hearing Note (length ws) no_sum (stamped st k)) v))
        (row_of m₀) d m₁ h₁ t₁ [] desk spot₁
        (λ q ws₁ m₂ desk₂ row names.
        by_tip (at_phase q (at_phase Recalling (sweeping (hearing Note (length ws) no_sum (stamped st k)) v))) ws₁ m₂ h₁ t₁
        (record { remembers = record { house = knows.house; pages_are = knows.pages_are }; task_is = refl; bytes_are = refl; stamp_is = refl })
        spot₁ desk₂ row names (room refl))))
      where
        -- the other tree is in its row
        compared : (k₁ : Control) (ws₁ os m₁ h₁ t₁ : List ℕ) (r : ℕ) → Noting k₁ → (spot₁ : At h₁ t₁) → Desk h₁ ws₁ d m₁ → RowOf (bytes_at t₁) ws₁ tree →
            references ws₁ ≡ files_named t₁ (work_root h₁) → 2 * reserve s.pages + (last_page h₁ - first_page h₁) ≤ n → Comes h₁ k₁ ids →
            WorkAt s.sum t₁ r (tree_of w.book tips) → (1 ≤ r → Live t₁ (roots_of h₁) r) → old_row_of m₁ ≡ os → RowOf (bytes_at t₁) os (tree_of w.book tips) → references os ≡ files_named t₁ r →
            Well s.sum n Stop End (changed s.sum k₁ m₁) h₁ t₁ (last_page h₁) []
        compared k₁ ws₁ os m₁ h₁ t₁ r holds spot₁ desk row names room comes work live old old_row old_names =
            on k₁ ws₁ m₁ h₁ t₁
            (record {
              holds = holds;
              spot₁ = spot₁;
              desk = desk;
              row = row;
              names = names;
              alike =
                  ap₂ (λ x y. same_tree (entries_of x) (entries_of y)) old desk.row
                  ∙ rows_same (bytes_at t₁) os ws₁ (tree_of w.book tips) tree old_row row
                  (λ i j a f q.
                  let x = named_live s.sum t₁ (roots_of h₁) r (tree_of w.book tips) work live i (ap (λ xs. has xs i) (sym old_names) ∙ a) in
                  let y = named_live s.sum t₁ (roots_of h₁) (work_root h₁) tree spot₁.shelf.work (root_live s.sum s.pages w.book spot₁.number h₁ t₁ tree tips spot₁.shelf) j
                  (ap (λ xs. has xs j) (sym names) ∙ f) in
                  spot₁.shelf.stored.files_once i j x.0 y.0 x.1 y.1 q);
              comes = comes;
              room = room;
            })

        by_tip : (k₁ : Control) (ws₁ m₁ h₁ t₁ : List ℕ) → Noting k₁ → (spot₁ : At h₁ t₁) → Desk h₁ ws₁ d m₁ → RowOf (bytes_at t₁) ws₁ tree →
            references ws₁ ≡ files_named t₁ (work_root h₁) → 2 * reserve s.pages + (last_page h₁ - first_page h₁) ≤ n →
            Well s.sum n Stop End (loaded s.sum k₁ m₁ k₁.task) h₁ t₁ (last_page h₁) []
        by_tip k₁ ws₁ m₁ h₁ t₁ holds spot₁ desk row names room =
            subst (λ (q : Task). Well s.sum n Stop End (loaded s.sum k₁ m₁ q) h₁ t₁ (last_page h₁) []) (sym holds.task_is) (go spot₁.shelf.tip)
          where
            there : head_word m₁ 3 ≡ tip_root h₁
            there = head_word_is h₁ ws₁ d m₁ 3 (omega arith) desk

            -- a commit's tree, or the empty one, comes into its row
            old_one : (k₂ : Control) (m₂ : List ℕ) (r : ℕ) → Noting k₂ → Desk h₁ ws₁ d m₂ → Comes h₁ k₂ ids → WorkAt s.sum t₁ r (tree_of w.book tips) → (1 ≤ r → Live t₁ (roots_of h₁) r) →
                Well s.sum n Stop End (load_old s.sum k₂ m₂ r) h₁ t₁ (last_page h₁) []
            old_one k₂ m₂ r holds₂ desk₂ comes work live =
                loads_tip s sums n size low most known_is things c w lt grown texts trees tree tips clone_is fine k knows Stop End r k₂ ws₁ d m₂ h₁ t₁ [] desk₂ spot₁ work live
                (λ p os m₃ desk₃ old old_row old_names.
                subst (λ (q : Task). Well s.sum n Stop End (against s.sum (at_phase p k₂) m₃ q) h₁ t₁ (last_page h₁) []) (sym holds₂.task_is)
                (compared (at_phase p k₂) ws₁ os m₃ h₁ t₁ r
                (record {
                  remembers = record { house = holds₂.remembers.house; pages_are = holds₂.remembers.pages_are };
                  task_is = holds₂.task_is;
                  bytes_are = holds₂.bytes_are;
                  stamp_is = holds₂.stamp_is;
                })
                spot₁ desk₃ row names room comes work live old old_row old_names))

            go : Numbered spot₁.number t₁ (tip_root h₁) tips → Well s.sum n Stop End (loaded s.sum k₁ m₁ Note) h₁ t₁ (last_page h₁) []
            go (inl (z, empty)) =
                subst (λ (x : Asked Control). Well s.sum n Stop End x h₁ t₁ (last_page h₁) []) (sym (pick_true (eqb (head_word m₁ 3) 0) _ _ (eq-eqb (head_word m₁ 3) 0 (there ∙ z))))
                (old_one k₁ m₁ 0 holds desk (inl (z, ap (each (id s.sum w.book)) empty)) (inl (refl, ap (tree_of w.book) empty)) (λ one. absurd (omega arith)))
            go (inr (one, kind, is)) =
                subst (λ (x : Asked Control). Well s.sum n Stop End x h₁ t₁ (last_page h₁) [])
                (sym (pick_false (eqb (head_word m₁ 3) 0) _ _ (ne_eqb (head_word m₁ 3) 0 (λ z. omega (arith, there)))))
                (asks_tip s sums n size low most known_is things c w lt grown texts trees tree tips clone_is fine k knows Stop End k₁ ws₁ d m₁ h₁ t₁ [] desk spot₁ one
                (λ m₂ desk₂.
                subst (λ (q : Task).
                Well s.sum n Stop End
                (under_tip s.sum (coming_from (sum_key (id s.sum w.book (spot₁.number (tip_root h₁)))) (at_phase OpeningTip k₁)) m₂ (tree_named (object_at t₁ (tip_root h₁)))
                (weight_of (tree_of w.book tips)) q) h₁ t₁ (last_page h₁) []) (sym holds.task_is)
                (old_one (coming_from (sum_key (id s.sum w.book (spot₁.number (tip_root h₁)))) (at_phase OpeningTip k₁)) m₂ (tree_named (object_at t₁ (tip_root h₁)))
                (record {
                  remembers = record { house = holds.remembers.house; pages_are = holds.remembers.pages_are };
                  task_is = holds.task_is;
                  bytes_are = holds.bytes_are;
                  stamp_is = holds.stamp_is;
                })
                desk₂
                (inr (one, id s.sum w.book (spot₁.number (tip_root h₁)), ap (each (id s.sum w.book)) is, refl, the_id.0, the_id.1))
                (tip_tree s sums n size low most known_is things c w lt grown texts trees tree tips clone_is fine k knows h₁ t₁ spot₁ one)
                (tip_tree_live s sums n size low most known_is things c w lt grown texts trees tree tips clone_is fine k knows h₁ t₁ spot₁ one))))
              where
                the_id : (length (id s.sum w.book (spot₁.number (tip_root h₁))) ≡ 32) × (all_bytes (id s.sum w.book (spot₁.number (tip_root h₁))) ≡ true)
                the_id =
                    id_long s.sum sums (length w.book) w.book (spot₁.number (tip_root h₁))
                    (tip_commit s sums n size low most known_is things c w lt grown texts trees tree tips clone_is fine k knows h₁ t₁ spot₁ one).noted

    -- NOTHING CHANGED
    pub notes_none : same_tree tree (tree_of w.book tips) ≡ true → Out
    unfolding noting
    notes_none same_one =
        comes_out s sums n size low most known_is things c w lt grown texts trees tree tips clone_is fine k knows h t m text (commit st ws) sp ft refl (no 7 w)
        (turned ∙ pick_true (same_tree tree (tree_of w.book tips)) _ _ same_one)
        (notes_as (Stop₀ w []) (End₀ w [] 7)
        (stops_before s sums n size low most known_is things c w lt grown texts trees tree tips clone_is fine k knows w [])
        (λ k₁ ws₁ m₁ h₁ t₁ b.
        subst (λ (x : Asked Control). Well s.sum n (Stop₀ w []) (End₀ w [] 7) x h₁ t₁ (last_page h₁) [])
        (sym (pick_true (same_tree (entries_of (old_row_of m₁)) (entries_of (row_of m₁))) _ _ (b.alike ∙ same_one)))
        (finishes (asked k₁ m₁ (Refuse 7)) h₁ t₁ (last_page h₁) [] 7 refl (omega arith)
        (ends_before s sums n size low most known_is things c w lt grown texts trees tree tips clone_is fine k knows [] 7 k₁ m₁ h₁ t₁ b.holds.remembers b.spot₁))))

    -- SOMETHING CHANGED
    module _ (other : same_tree tree (tree_of w.book tips) ≡ false) where
      turned_done : turn s.sum w c (clone_at w.clones c) (commit st ws) ≡ noted_turn s.sum w c tips tree st ws
      turned_done = turned ∙ pick_false (same_tree tree (tree_of w.book tips)) _ _ other

      abbrev after : Plain
      after = after_all s sums n size low most known_is things c w lt grown texts trees tree tips clone_is fine k knows b₁ tree (newest ∷ [])

      grown₁ : Grown b₁
      grown₁ = grown_noted w.book (new_version tips tree st ws) grown tips_low

      texts₁ : (q : ℕ) → a_text (nth b₁ q).words ≡ true
      texts₁ = texts_noted w.book (new_version tips tree st ws) texts short

      there₁ : newest < length b₁
      there₁ = place_noted (new_version tips tree st ws) w.book

      is₁ : nth b₁ newest ≡ new_version tips tree st ws
      is₁ = nth_noted (new_version tips tree st ws) w.book

      more₁ : (more : Book) × (b₁ ≡ w.book ++ more)
      more₁ = noted_more (new_version tips tree st ws) w.book

      told : told_apart s.sum after ≡ true
      unfolding StillApart Said
      told = subst (λ (v : Turn). told_apart s.sum v.next ≡ true) turned_done (still (commit st ws) (sp, ft))

      old_id : (q : ℕ) → q < length w.book → id s.sum b₁ q ≡ id s.sum w.book q
      old_id q l = ap (λ (x : Book). id s.sum x q) more₁.1 ∙ id_more s.sum w.book more₁.0 q grown l

      old_ids : each (id s.sum b₁) tips ≡ ids
      old_ids = each_alike (id s.sum b₁) (id s.sum w.book) tips (λ q i. old_id q (tips_low q i))

      -- the new commit's id is the sum over how it is spelled
      abbrev spelled_new : List ℕ
      spelled_new = commit_spelled s.sum (each (id s.sum w.book) tips) (new_version [] tree st ws)

      id_is : id s.sum b₁ newest ≡ s.sum spelled_new
      id_is =
          id_noted s.sum b₁ newest grown₁ there₁
          ∙ ap (λ (x : Commit). s.sum (commit_spelled s.sum (each (id s.sum b₁) x.parents) x)) is₁ ∙ ap (λ x. s.sum (commit_spelled s.sum x (new_version tips tree st ws))) old_ids

      id_parts : (length (id s.sum b₁ newest) ≡ 32) × (all_bytes (id s.sum b₁ newest) ≡ true)
      id_parts = id_long s.sum sums (length b₁) b₁ newest there₁

      -- no commit that the house reaches is the new one
      below : (q : ℕ) → In q (back w.book tips) → q < newest
      below = place_above w.book (new_version tips tree st ws) grown tips_low

      -- a commit with the words of its id is it
      one_id : (q : ℕ) → q < length w.book → words 4 (id s.sum w.book q) ≡ words 4 (id s.sum b₁ newest) → q ≡ newest
      one_id q l e =
          ids_by s.sum after told q newest (longer q l) there₁
          (old_id q l ∙ id_noted s.sum w.book q grown l
          ∙ sum_by_words s.sum sums (commit_spelled s.sum (each (id s.sum w.book) (nth w.book q).parents) (nth w.book q)) spelled_new
          (ap (words 4) (sym (id_noted s.sum w.book q grown l)) ∙ e ∙ ap (words 4) id_is)
          ∙ sym id_is)
        where
          longer : (q : ℕ) → q < length w.book → q < length b₁
          longer q l = omega (arith, ap length more₁.1, length-append w.book more₁.0)

      module _ (h₁ t₁ : List ℕ) (spot₁ : At h₁ t₁) where
        live_below : (r : ℕ) → Live t₁ (roots_of h₁) r → kind_of (object_at t₁ r) ≡ 3 → spot₁.number r < newest
        live_below r l e =
            below (spot₁.number r)
            (live_commit_reached s.sum w.book spot₁.number t₁ (roots_of h₁) tips (each (λ f. f.bytes) tree) grown texts spot₁.shelf.stored
            (roots_among s.sum s.pages w.book spot₁.number h₁ t₁ tree tips spot₁.shelf) r l e)

        -- none is found under its id
        none_keyed : (r : ℕ) → Live t₁ (roots_of h₁) r → key_there 3 (key_words (sum_key (id s.sum b₁ newest))) (object_at t₁ r) ≡ true → ⊥
        none_keyed r l e =
            let p = and_parts (eqb (kind_of (object_at t₁ r)) 3) _ e in
            let kind : kind_of (object_at t₁ r) ≡ 3 = eqb-true (kind_of (object_at t₁ r)) 3 p.0 in
            let a : CommitAt s.sum w.book spot₁.number t₁ r = as_commit s.sum w.book spot₁.number t₁ r (spot₁.shelf.stored.thing r l) kind in
            let q : spot₁.number r ≡ newest =
            one_id (spot₁.number r) a.noted
            (same_true (words 4 (id s.sum w.book (spot₁.number r))) (key_words (sum_key (id s.sum b₁ newest)))
            (sym (commit_key s.sum w.book spot₁.number t₁ r a (texts (spot₁.number r)) (key_words (sum_key (id s.sum b₁ newest)))) ∙ e) ∙ sum_words (id s.sum b₁ newest)) in
            let z : spot₁.number r < newest = live_below r l kind in
            absurd (omega (arith, q, z))

        weighs_now : (ls : List ℕ) → Lives t₁ (roots_of h₁) ls → weight b₁ (keeping tree (newest ∷ [])) ≡ weights t₁ ls + weight_of tree + 128 + (256 + length ws + weight_of tree)
        weighs_now ls lives =
            noted_weighs w.book tree tips st ws grown tips_low once
            ∙ ap (λ x. x + weight_of tree + 128 + (256 + length ws + weight_of tree))
            (sym (live_weighs s.sum w.book spot₁.number t₁ (roots_of h₁) tips (each (λ f. f.bytes) tree) grown texts spot₁.shelf.stored
            (roots_among s.sum s.pages w.book spot₁.number h₁ t₁ tree tips spot₁.shelf) (tip_there s.sum s.pages w.book spot₁.number h₁ t₁ tree tips spot₁.shelf) once ls lives
            (work_files_there s.sum s.pages w.book spot₁.number h₁ t₁ tree tips spot₁.shelf)))

      -- the registers under the id
      record Named (k₂ : Control) : Type 0 where
        holds : Noting k₂
        sum_is : k₂.sum ≡ sum_key (id s.sum b₁ newest)

      -- THE SURVEY goes over all that the head names, under the id
      module _ (Stop₁ : List ℕ → List ℕ → Rows → Type 0) (End₁ : Control → List ℕ → List ℕ → List ℕ → ℕ → Rows → ℕ → Type 0) (k₁ : Control) (ws₁ m₁ h₁ t₁ : List ℕ)
          (b : Both k₁ ws₁ m₁ h₁ t₁) where
        abbrev sought_id : List ℕ
        sought_id = key_words (sum_key (id s.sum b₁ newest))

        near : last_page h₁ - first_page h₁ ≤ 1048576
        near = omega (arith, b.spot₁.shelf.ring, most)

        tape_small : 64 * last_page h₁ < 18446744073709551616
        tape_small = small_spot s sums n size low most known_is things c w lt grown texts trees tree tips clone_is fine k knows h₁ t₁ b.spot₁

        surveys_new : ((k₂ : Control) (w₁ : Walk) (m₂ m₃ : List ℕ) → Named k₂ → Marked t₁ (roots_of h₁) (8 * first_page h₁) 3 (key_words (sum_key (id s.sum b₁ newest))) m₂ w₁ m₃ →
            Desk h₁ ws₁ d m₃ → Well s.sum n Stop₁ End₁ (surveyed k₂ w₁ m₃) h₁ t₁ (last_page h₁) []) →
            Well s.sum n Stop₁ End₁ (changed s.sum k₁ m₁) h₁ t₁ (last_page h₁) []
        surveys_new on =
            subst (λ (x : Asked Control). Well s.sum n Stop₁ End₁ x h₁ t₁ (last_page h₁) [])
            (sym (pick_false (same_tree (entries_of (old_row_of m₁)) (entries_of (row_of m₁))) _ _ (b.alike ∙ other)))
            (sums_files s.sum sums n Stop₁ End₁ k₁ ws₁ d m₁ h₁ t₁ ws (last_page h₁) [] tree ids b.desk b.spot₁.shelf.whole tape_small b.row there b.comes short b.holds.bytes_are aside.1
            (λ p v m₂ desk₂.
            subst (λ x. Well s.sum n Stop₁ End₁ (survey (identified x (at_phase p (comparing v k₁))) m₂) h₁ t₁ (last_page h₁) []) (sym key_is)
            (under (identified (sum_key (id s.sum b₁ newest)) (at_phase p (comparing v k₁))) m₂ desk₂
            (record {
              holds =
                  record {
                    remembers = record { house = b.holds.remembers.house; pages_are = b.holds.remembers.pages_are };
                    task_is = b.holds.task_is;
                    bytes_are = b.holds.bytes_are;
                    stamp_is = b.holds.stamp_is;
                  };
              sum_is = refl;
            }))))
          where
            there : (r : ℕ) → has (references ws₁) r ≡ true → FileAt s.sum t₁ r × Placed t₁ (8 * first_page h₁) (8 * last_page h₁) r
            there r i =
                let j : has (files_named t₁ (work_root h₁)) r ≡ true = ap (λ xs. has xs r) (sym b.names) ∙ i in (
                  work_file_at s.sum s.pages w.book b.spot₁.number h₁ t₁ tree tips b.spot₁.shelf r j,
                  file_placed s sums n size low most known_is things c w lt grown texts trees tree tips clone_is fine k knows h₁ t₁ b.spot₁ r j,
                )

            key_is : sum_key (s.sum (commit_spelled s.sum ids (record { parents = []; tree = tree; stamp = k₁.version.stamp; words = ws }))) ≡ sum_key (id s.sum b₁ newest)
            key_is = ap (λ i. sum_key (s.sum (commit_spelled s.sum ids (new_version [] tree i ws)))) b.holds.stamp_is ∙ ap sum_key (sym id_is)

            under : (k₂ : Control) (m₂ : List ℕ) → Desk h₁ ws₁ d m₂ → Named k₂ → Well s.sum n Stop₁ End₁ (survey k₂ m₂) h₁ t₁ (last_page h₁) []
            under k₂ m₂ desk₂ q =
                surveys s.sum n Stop₁ End₁ k₂ ws₁ d m₂ h₁ t₁ (roots_of h₁) [] desk₂
                (ap (λ x. survey_roots x m₂) q.holds.task_is ∙ head_roots_in s.sum n Stop₁ End₁ h₁ ws₁ d m₂ desk₂) (inr (ap kind_sought q.holds.task_is))
                b.spot₁.shelf.whole tape_small b.spot₁.rises near b.spot₁.shelf.heap
                (λ w₁ m₃ marked desk₃.
                on k₂ w₁ m₂ m₃ q
                (subst (λ x. Marked t₁ (roots_of h₁) (8 * first_page h₁) 3 (key_words x) m₂ w₁ m₃) q.sum_is
                (subst (λ i. Marked t₁ (roots_of h₁) (8 * first_page h₁) i (key_words k₂.sum) m₂ w₁ m₃) (ap kind_sought q.holds.task_is) marked)) desk₃)

        -- what the survey says, as the plain weight says it
        module _ (k₂ : Control) (w₁ : Walk) (m₂ m₃ : List ℕ) (q : Named k₂)
            (marked : Marked t₁ (roots_of h₁) (8 * first_page h₁) 3 (key_words (sum_key (id s.sum b₁ newest))) m₂ w₁ m₃) (desk₃ : Desk h₁ ws₁ d m₃) where
          none_there : eqb w₁.found 0 ≡ true
          none_there = go (eqb w₁.found 0) refl
            where
              go : (z : Bool) → eqb w₁.found 0 ≡ z → z ≡ true
              go true z = refl
              go false z =
                  let f = marked.found_is.there (omega (arith, eqb-false w₁.found 0 z)) in
                  absurd (none_keyed h₁ t₁ b.spot₁ w₁.found f.0 f.1)

          quarter_is : quarter (min k₂.pages 4294967296) ≡ 128 * s.pages
          quarter_is = ap (λ x. quarter (min x 4294967296)) q.holds.remembers.pages_are ∙ omega (arith, most)

          weighed : get_or (row_of m₃) 1 0 ≡ weight_of tree
          weighed = ap (λ x. get_or x 1 0) desk₃.row ∙ b.row.weighed

          kept_is : kept k₂ w₁ m₃ ≡ capped (capped (capped (capped (weights t₁ marked.lives) + weight_of tree) + 128) + capped (capped (256 + length ws) + weight_of tree))
          kept_is =
              ap (λ x. capped (capped (capped (w₁.weight + get_or (row_of m₃) 1 0) + pick (named_after m₃ x) 128 0) + pick (eqb w₁.found 0) (more_kept k₂ m₃ x) 0)) q.holds.task_is
              ∙ ap (λ x. capped (capped (capped (w₁.weight + get_or (row_of m₃) 1 0) + 128) + pick x (capped (capped (256 + k₂.bytes) + get_or (row_of m₃) 1 0)) 0)) none_there
              ∙ ap₂ (λ x y. capped (capped (capped (x + get_or (row_of m₃) 1 0) + 128) + capped (capped (256 + y) + get_or (row_of m₃) 1 0))) marked.weight_is q.holds.bytes_are
              ∙ ap (λ x. capped (capped (capped (capped (weights t₁ marked.lives) + x) + 128) + capped (capped (256 + length ws) + x))) weighed

          full_is : ltb (quarter (min k₂.pages 4294967296)) (kept k₂ w₁ m₃) ≡ ltb (128 * s.pages) (weight b₁ (keeping tree (newest ∷ [])))
          full_is =
              ap₂ ltb quarter_is kept_is ∙ notes_alike (128 * s.pages) (weights t₁ marked.lives) (weight_of tree) (length ws) (omega (arith, most))
              ∙ ap (ltb (128 * s.pages)) (sym (weighs_now h₁ t₁ b.spot₁ marked.lives marked.are_live))

          -- no room
          refuses_full : ltb (128 * s.pages) (weight b₁ (keeping tree (newest ∷ []))) ≡ true → End₁ (surveying k₂ w₁) m₃ h₁ t₁ (last_page h₁) [] 8 →
              Well s.sum n Stop₁ End₁ (surveyed k₂ w₁ m₃) h₁ t₁ (last_page h₁) []
          refuses_full full end =
              subst (λ (x : Asked Control). Well s.sum n Stop₁ End₁ x h₁ t₁ (last_page h₁) []) (sym (pick_true (ltb (quarter (min k₂.pages 4294967296)) (kept k₂ w₁ m₃)) _ _ (full_is ∙ full)))
              (finishes (asked (surveying k₂ w₁) m₃ (Refuse 8)) h₁ t₁ (last_page h₁) [] 8 refl (omega arith) end)

          -- room: the commit is laid
          settles : ltb (128 * s.pages) (weight b₁ (keeping tree (newest ∷ []))) ≡ false → Well s.sum n Stop₁ End₁ (lay_commit (surveying k₂ w₁) m₃ (last_page h₁)) h₁ t₁ (last_page h₁) [] →
              Well s.sum n Stop₁ End₁ (surveyed k₂ w₁ m₃) h₁ t₁ (last_page h₁) []
          settles light new =
              subst (λ (x : Asked Control). Well s.sum n Stop₁ End₁ x h₁ t₁ (last_page h₁) []) (sym (pick_false (ltb (quarter (min k₂.pages 4294967296)) (kept k₂ w₁ m₃)) _ _ (full_is ∙ light)))
              (subst (λ (x : Task). Well s.sum n Stop₁ End₁ (settled (surveying k₂ w₁) w₁ m₃ x) h₁ t₁ (last_page h₁) []) (sym q.holds.task_is)
              (subst (λ (x : Asked Control). Well s.sum n Stop₁ End₁ x h₁ t₁ (last_page h₁) []) (sym (pick_true (eqb w₁.found 0) _ _ none_there))
              (subst (λ i. Well s.sum n Stop₁ End₁ (lay_commit (surveying k₂ w₁) m₃ i) h₁ t₁ (last_page h₁) []) (sym (head_word_is h₁ ws₁ d m₃ 1 (omega arith) desk₃)) new)))

      -- REFUSED FOR ROOM
      pub notes_full : ltb (128 * s.pages) (weight b₁ (keeping tree (newest ∷ []))) ≡ true → Out
      unfolding Allowed Said KnownAllowed noting
      notes_full full =
          record {
            rows = [];
            reply = 8;
            after = w;
            allowed =
                λ ls up.
                inl (
                  commit st ws,
                  (sp, ft),
                  ap (λ (q : Command → Bool). q (commit st ws)) known_is,
                  inr (inl (refl, refl, refl, ap (λ (x : Turn). x.reply) turned_done, grows, more)),
                );
            does =
                notes_as (Stop₀ w []) (End₀ w [] 8) (stops_before s sums n size low most known_is things c w lt grown texts trees tree tips clone_is fine k knows w [])
                (λ k₁ ws₁ m₁ h₁ t₁ b.
                surveys_new (Stop₀ w []) (End₀ w [] 8) k₁ ws₁ m₁ h₁ t₁ b
                (λ k₂ w₁ m₂ m₃ q marked desk₃.
                refuses_full (Stop₀ w []) (End₀ w [] 8) k₁ ws₁ m₁ h₁ t₁ b k₂ w₁ m₂ m₃ q marked desk₃ full
                (ends_before s sums n size low most known_is things c w lt grown texts trees tree tips clone_is fine k knows [] 8 (surveying k₂ w₁) m₃ h₁ t₁
                (record { house = q.holds.remembers.house; pages_are = q.holds.remembers.pages_are }) b.spot₁)));
          }
        where
          weighs : weight (turn s.sum w c (clone_at w.clones c) (commit st ws)).next.book (clone_at (turn s.sum w c (clone_at w.clones c) (commit st ws)).next.clones c)
              ≡ weight b₁ (keeping tree (newest ∷ []))
          weighs =
              ap (λ (v : Turn). weight v.next.book (clone_at v.next.clones c)) turned_done ∙ ap (weight b₁) (clone_at_same w.clones c (keeping tree (newest ∷ [])) lt)

          now : weight w.book (clone_at w.clones c) ≡ weight w.book (keeping tree tips)
          now = ap (weight w.book) clone_is

          full_now : 128 * s.pages < weight b₁ (keeping tree (newest ∷ []))
          full_now = ltb-true (128 * s.pages) (weight b₁ (keeping tree (newest ∷ []))) full

          more : 128 * s.pages < weight (turn s.sum w c (clone_at w.clones c) (commit st ws)).next.book (clone_at (turn s.sum w c (clone_at w.clones c) (commit st ws)).next.clones c)
          more = subst (λ x. 128 * s.pages < x) (sym weighs) full_now

          grows : weight w.book (clone_at w.clones c)
              < weight (turn s.sum w c (clone_at w.clones c) (commit st ws)).next.book (clone_at (turn s.sum w c (clone_at w.clones c) (commit st ws)).next.clones c)
          grows = passed _ _ _ _ now more spot.shelf.weight
            where
              passed : (x y z q : ℕ) → x ≡ y → q < z → y ≤ q → x < z
              passed x y z q e f g = omega arith

      -- DONE: the commit is laid and published, and its id is shown
      module _ (light : ltb (128 * s.pages) (weight b₁ (keeping tree (newest ∷ []))) ≡ false) (k₁ : Control) (ws₁ m₁ h₁ t₁ : List ℕ) (b : Both k₁ ws₁ m₁ h₁ t₁)
          (k₂ : Control) (w₁ : Walk) (m₂ m₃ : List ℕ) (q : Named k₂) (marked : Marked t₁ (roots_of h₁) (8 * first_page h₁) 3 (key_words (sum_key (id s.sum b₁ newest))) m₂ w₁ m₃)
          (desk₃ : Desk h₁ ws₁ d m₃) where
        abbrev new_id : List ℕ
        new_id = id s.sum b₁ newest

        -- as it is laid
        abbrev laid_new : List ℕ
        laid_new = version_of s.sum (work_root h₁) (tip_root h₁) (id s.sum b₁ newest) (nth b₁ newest)

        abbrev head_new : List ℕ
        head_new = first_page h₁ ∷ (last_page h₁ + pages_of (length laid_new)) ∷ work_root h₁ ∷ (8 * last_page h₁ + 1) ∷ drop 4 h₁

        within : weight b₁ (keeping tree (newest ∷ [])) ≤ 128 * s.pages
        within = ltb-false (128 * s.pages) (weight b₁ (keeping tree (newest ∷ []))) light

        weighs_so : weight b₁ (keeping tree (newest ∷ [])) ≡ weights t₁ marked.lives + weight_of tree + 128 + (256 + length ws + weight_of tree)
        weighs_so = weighs_now h₁ t₁ b.spot₁ marked.lives marked.are_live

        tree_light : weight_of (nth b₁ newest).tree ≤ 1152921504606846976
        tree_light = subst (λ (x : Commit). weight_of x.tree ≤ 1152921504606846976) (sym is₁) (lower (weight b₁ (keeping tree (newest ∷ []))) (weights t₁ marked.lives) (weight_of tree) (length ws) weighs_so within)
          where
            lower : (x a t k : ℕ) → x ≡ a + t + 128 + (256 + k + t) → x ≤ 128 * s.pages → t ≤ 1152921504606846976
            lower x a t k e l = omega (arith, most)

        few_pages : pages_of (length laid_new) ≤ reserve s.pages
        few_pages =
            commit_pages s.sum (work_root h₁) (tip_root h₁) s.pages (weights t₁ marked.lives + weight_of tree + 128) new_id (nth b₁ newest) low
            (subst (λ (x : Commit). (weights t₁ marked.lives + weight_of tree + 128) + (256 + length x.words + weight_of x.tree) ≤ 128 * s.pages) (sym is₁)
            (subst (λ x. x ≤ 128 * s.pages) weighs_so within))

        fits_ring : (l : ℕ) → l ≤ reserve s.pages → last_page h₁ + l ≤ first_page h₁ + n
        fits_ring l e = omega (arith, b.room, b.spot₁.rises)

        room_left : (l : ℕ) → l ≤ reserve s.pages → (last_page h₁ + l) + reserve s.pages ≤ first_page h₁ + (s.pages - 1)
        room_left l e = omega (arith, b.room, b.spot₁.rises, size)

        fits_numbers : (l : ℕ) → l ≤ reserve s.pages → 64 * (last_page h₁ + l) < 18446744073709551616
        fits_numbers l e = omega (arith, reserve_small s.pages most, b.spot₁.slack)

        bound : (l : ℕ) → l ≤ reserve s.pages → (last_page h₁ + l) + 2097152 * things ≤ 18014398509481984
        bound l e = omega (arith, reserve_small s.pages most, b.spot₁.slack)

        shelf₁ : Shelf s.sum s.pages b₁ b.spot₁.number h₁ t₁ tree tips
        shelf₁ =
            subst (λ (x : Book). Shelf s.sum s.pages x b.spot₁.number h₁ t₁ tree tips) (sym more₁.1)
            (shelf_grown s.sum s.pages w.book b.spot₁.number h₁ t₁ tree tips grown b.spot₁.shelf more₁.0)

        stands_new : (x : List ℕ) → length x ≡ 64 * pages_of (length laid_new) → take (length laid_new) x ≡ laid_new →
            (length (t₁ ++ x) ≡ 64 * last_page head_new) × Stands s.sum s.pages things c after head_new (t₁ ++ x)
        stands_new x xl front = (
          shelf.whole,
          stands_in s sums n size low most known_is things c w lt grown texts trees tree tips clone_is fine k knows b₁ tree (newest ∷ []) head_new (t₁ ++ x) numbers shelf
              (bound (pages_of (length laid_new)) few_pages),
        )
          where
            numbers : ℕ → ℕ
            numbers = λ r. pick (eqb r (8 * last_page h₁ + 1)) newest (b.spot₁.number r)

            shelf : Shelf s.sum s.pages b₁ (λ r. pick (eqb r (8 * last_page h₁ + 1)) newest (b.spot₁.number r)) head_new (t₁ ++ x) tree (newest ∷ [])
            shelf =
                shelf_noted s.sum s.pages b₁ b.spot₁.number h₁ t₁ x tree tips newest shelf₁ b.spot₁.rises there₁ (ap (λ (y : Commit). y.tree) is₁) (ap (λ (y : Commit). y.parents) is₁) texts₁
                (λ r l e f. let z : b.spot₁.number r < newest = live_below h₁ t₁ b.spot₁ r l e in omega (arith, z, f)) xl front within
                (room_left (pages_of (length laid_new)) few_pages)

        lays_new : Well s.sum n (Stop₀ after (new_id ∷ [])) (End₀ after (new_id ∷ []) 0) (lay_commit (surveying k₂ w₁) m₃ (last_page h₁)) h₁ t₁ (last_page h₁) []
        lays_new =
            lays_version s.sum sums n (Stop₀ after (new_id ∷ [])) (End₀ after (new_id ∷ []) 0) (surveying k₂ w₁) ws₁ d m₃ h₁ t₁ new_id (nth b₁ newest) (last_page h₁) desk₃
            (head_long h₁ b.spot₁.shelf.others) q.holds.task_is q.sum_is id_parts.0 id_parts.1 (q.holds.stamp_is ∙ ap (λ (x : Commit). x.stamp) (sym is₁))
            (b.row.weighed ∙ ap (λ (x : Commit). weight_of x.tree) (sym is₁)) tree_light (texts₁ newest) (q.holds.bytes_are ∙ ap (λ (x : Commit). length x.words) (sym is₁))
            (subst (λ (x : Commit). take (words_for (length x.words)) (drop 9 d) ≡ packed_bytes x.words) (sym is₁) aside.1) b.spot₁.rises
            (fits_ring (pages_of (length laid_new)) few_pages) (fits_numbers (pages_of (length laid_new)) few_pages)
            (λ x xl front.
            let stands = stands_new x xl front in (
              stops_after s sums n size low most known_is things c w lt grown texts trees tree tips clone_is fine k knows after (new_id ∷ []) [] (new_id ∷ []) refl head_new (t₁ ++ x) stands.0 stands.1,
              stops_after s sums n size low most known_is things c w lt grown texts trees tree tips clone_is fine k knows after (new_id ∷ []) (new_id ∷ []) [] refl head_new (t₁ ++ x) stands.0 stands.1,
              λ k₃ m₄ kh kp.
                  ends_after s sums n size low most known_is things c w lt grown texts trees tree tips clone_is fine k knows after (new_id ∷ []) 0 (last_page h₁ + pages_of (length laid_new)) k₃ m₄
                  head_new (t₁ ++ x) (record { house = kh ∙ q.holds.remembers.house; pages_are = kp ∙ q.holds.remembers.pages_are }) stands.0 stands.1,
            ))

      pub notes_done : ltb (128 * s.pages) (weight b₁ (keeping tree (newest ∷ []))) ≡ false → Out
      unfolding noting
      notes_done light =
          comes_out s sums n size low most known_is things c w lt grown texts trees tree tips clone_is fine k knows h t m text (commit st ws) sp ft refl (noted_turn s.sum w c tips tree st ws) turned_done
          (notes_as (Stop₀ after (id s.sum b₁ newest ∷ [])) (End₀ after (id s.sum b₁ newest ∷ []) 0)
          (stops_before s sums n size low most known_is things c w lt grown texts trees tree tips clone_is fine k knows after (id s.sum b₁ newest ∷ []))
          (λ k₁ ws₁ m₁ h₁ t₁ b.
          surveys_new (Stop₀ after (id s.sum b₁ newest ∷ [])) (End₀ after (id s.sum b₁ newest ∷ []) 0) k₁ ws₁ m₁ h₁ t₁ b
          (λ k₂ w₁ m₂ m₃ q marked desk₃.
          settles (Stop₀ after (id s.sum b₁ newest ∷ [])) (End₀ after (id s.sum b₁ newest ∷ []) 0) k₁ ws₁ m₁ h₁ t₁ b k₂ w₁ m₂ m₃ q marked desk₃ light
          (lays_new light k₁ ws₁ m₁ h₁ t₁ b k₂ w₁ m₂ m₃ q marked desk₃))))

      notes_other : Out
      notes_other = go (ltb (128 * s.pages) (weight b₁ (keeping tree (newest ∷ [])))) refl
        where
          go : (z : Bool) → ltb (128 * s.pages) (weight b₁ (keeping tree (newest ∷ []))) ≡ z → Out
          go true z = notes_full z
          go false z = notes_done z

    notes_either : (z : Bool) → same_tree tree (tree_of w.book tips) ≡ z → Out
    notes_either true z = notes_none z
    notes_either false z = notes_other z

  pub notes : (st : ℕ) (ws : List ℕ) → a_text ws ≡ true → st < 18446744073709551616 → parsed text ≡ Some (commit st ws) → spelled (commit st ws) ≡ text → fits (commit st ws) ≡ true → Out
  notes st ws short small e sp ft = notes_either st ws short small e sp ft (same_tree tree (tree_of w.book tips)) refl
