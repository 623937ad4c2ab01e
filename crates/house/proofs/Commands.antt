-- What all commands of the house share on its tape: where they stand, how they begin, what they load, how they come out; and each command that keeps sheets in work. Assumes nothing.
use Rattle.std.proofs.Common.{◌≡◌, ℕ, zero, suc, ◌+◌, ◌-◌, ◌*◌, ◌/◌, ◌<◌, ◌≤◌, min, Bool, true, false, not, ◌&&◌, eqb, ltb, leb, ◌⊎◌, List, [], ◌∷◌, ◌++◌, length, get_or, take, drop, Some, None, Option, Ok, Err, Result, sym, refl, ap, ◌∙◌, subst, subst₂, ap₂, inl, inr, ⊎_elim, arith, append-nil, length-append}
use Rattle.std.proofs.lemmas.Bool.{false≢true, eqb-true, eqb-false, eq-eqb, ne_eqb, le-ltb, lt-ltb, ltb-true, ltb-false, le-leb, lt-leb, leb-true, and_parts}
use Rattle.std.proofs.lemmas.List.{take_all, get_or-take, get_or-drop, drop-drop}
use Rattle.pages.specs.Lists.{pick, or, every, each, flat, has, same, none_of, zeros, added_up, distinct}
use Rattle.pages.specs.Bytes.{all_bytes}
use Rattle.pages.specs.Words.{over, words}
use Rattle.pages.proofs.WordLaws.{length_over, length_words}
use Rattle.pages.specs.Object.{object_at}
use Rattle.pages.specs.Crash.{Rows}
use Rattle.pages.specs.Engine.{bulk_cells}
use Rattle.pages.specs.Machine.{Asked, asked, capped}
use Rattle.pages.specs.Tape.{first_page, last_page, published, Window, Does, finishes}
use Rattle.pages.specs.declared.machine.Request.TheVariants.{Recall, Refuse, Done}
use Rattle.pages.specs.Object.{kind_of}
use Rattle.trees.specs.Row.{held, cut, reference_of}
use Rattle.std.specs.Prelude.{slice_index}
use Rattle.objects.proofs.MarkLaws.{has_cases}
use Rattle.history.proofs.BackLaws.{back_self}
use Rattle.house.specs.Control.{kind_sought, more_kept, named_after, settled}
use Rattle.house.proofs.ShelfLaws.{no_zeros, work_there, work_is, named_files, tree_files_live}
use Rattle.pages.proofs.ListLaws.{in_has}
use Rattle.pages.proofs.ListLaws.{pick_true, pick_false, In, in_append, in_left, in_right, in_flat, flat_in, every_in, same_test, same_true, same_from, pick_both, or_left, length_each, same_tells, added_up_within, once_distinct, distinct_in, in_distinct}
use Rattle.objects.specs.Heap.{Live, root, Heap, Lives, has_key as key_there, weights, Placed, units_at}
use Rattle.objects.specs.Plan.{head_at}
use Rattle.objects.specs.Marking.{key_words, Marked}
use Rattle.objects.specs.declared.mark.Walk.{Walk}
use Rattle.objects.proofs.GrowLaws.{heap_part, live_part, object_before}
use Rattle.objects.specs.Layouts.{words_for, packed_bytes, file_object, bytes_put}
use Rattle.objects.proofs.LayoutLaws.{put_all}
use Rattle.objects.specs.Room.{quarter, reserve}
use Rattle.objects.specs.Sweeping.{roots_of, Swept}
use Rattle.objects.specs.declared.sweep.Sweep.{Sweep}
use Rattle.objects.proofs.PartLaws.{parts_stay}
use Rattle.objects.proofs.RoomLaws.{ring_has_room}
use Rattle.trees.specs.Tree.{Tree, put, found, without, mark, paths, both}
use Rattle.trees.specs.Differ.{difference_from, answers, shown}
use Rattle.trees.specs.declared.differences.Cursor.{Cursor}
use Rattle.trees.specs.declared.differences.Difference.{Difference}
use Rattle.trees.proofs.AnswerLaws.{differs_right}
use Rattle.trees.specs.Row.{good_path, key_of, entries_of, find_in, room, room_for, put_key, put_answer, has_key, take_key, take_from, taken_from, reference_in, references}
use Rattle.trees.specs.Packed.{squeezed}
use Rattle.trees.specs.declared.rows.Refused.{Refused}
use Rattle.trees.specs.declared.rows.Refused.TheVariants.{Path, Full}
use Rattle.trees.proofs.PutAgain.{put_as_many, put_key_again}
use Rattle.trees.proofs.ObjectLaws.{stored_bytes}
use Rattle.trees.proofs.BackAgain.{last_word}
use Rattle.trees.specs.RowOf.{proper, weight_of, RowOf}
use Rattle.trees.specs.RowPromises.{FindsRight, PutsRight, TakesRight, DiffersRight, EmptyRight, Apart as RowApart, listed}
use Rattle.trees.proofs.RowOfLaws.{empty_right, finds_right, puts_right, takes_right, weight_without}
use Rattle.trees.proofs.RowParts.{find_references, row_stands, length_take_key, put_references, take_references}
use Rattle.history.specs.Book.{Book, Commit, Sum, nth, id, back, clear, all_files}
use Rattle.history.specs.Laws.{Grown, IdsTell}
use Rattle.history.proofs.BookLaws.{ids_tell, nth_in}
use Rattle.history.proofs.BackLaws.{back_within}
use Rattle.commands.specs.Command.{Command, spelled, fits, a_text, write_file, leave, drop_file, read_file, status}
use Rattle.commands.specs.Parse.{parsed}
use Rattle.house.specs.House.{Plain, Turn, turn, Clone, clone_at, set_clone, no, yes_with, with_work, drop_path, tree_of, tip, ref_of, weight}
use Rattle.house.specs.Facts.{FineTree}
use Rattle.house.proofs.TurnLaws.{clone_at_same}
use Rattle.house.specs.Promise.{told_apart, StillApart, Said, Allowed, KnownAllowed}
use Rattle.house.specs.Simulation.{Setting}
use Rattle.house.specs.OnTape.{StopStands, EndStands, Answered}
use Rattle.house.specs.Control.{desk_end, row_of, path_at, bytes_at as bytes_place, head_word, at_phase, sweeping, controlling, control_hears, control_client, noting, said_of, heard_of, hearing, sum_key, named as named_row, surveyed, surveying, kept, lay_file, laying, no_sum, load, loaded, compare, comparing, cursor, old_row_of, row_words, opened, publish, pages_of, lay_tree, with_row, entry_weight, path_put, path_key, recalled, started, lays, tight}
use Rattle.house.specs.Shelf.{bytes_at, FileAt, WorkAt, CommitAt, Numbered, Stored, Shelf, Stands, Remembers, keeping, work_root, tip_root, tree_named, files_named}
use Rattle.house.specs.declared.control.Control.{Control}
use Rattle.house.specs.declared.control.Phase.{Phase}
use Rattle.house.specs.declared.control.Phase.TheVariants.{Recalling, LayingFile}
use Rattle.house.proofs.DeskLaws.{Desk, desk_row, row_long, head_word_is, path_key_is}
use Rattle.house.proofs.NewShelf.{FileLaid, file_laid, shelf_over}
use Rattle.house.specs.Control.{control, lay_file, published_by, survey, rooted, row_at, survey_roots}
use Rattle.house.specs.declared.control.Task.{Task}
use Rattle.house.specs.declared.control.Phase.TheVariants.{Publishing}
use Rattle.house.proofs.DeskLaws.{desk_row_front}
use Rattle.house.proofs.Sheets.{some_root, row_roots}
use Rattle.house.proofs.ShelfLaws.{bytes_alike}
use Rattle.pages.proofs.ListLaws.{has_in}
use Rattle.house.proofs.SurveyLaws.{unnamed_stands, roots_live, put_row, found_file, same_bytes, weighs_found, absent, weighs_more}
use Rattle.house.proofs.ShelfLaws.{head_long, root_live, tip_live, tip_at, tip_there, tips_noted, tips_once, file_live, work_file_at, file_kind, commit_tree_live, commit_file_there, lives_of, shelf_fits, shelf_swept, stored_part, roots_only, commits_files, files_weight, keeping_weighs, numbered_few, numbered_is, numbered_in, live_weighs, Among, CommitThere, FileThere}
use Rattle.house.specs.declared.control.Task.TheVariants.{Write, Drop, Read, Status, Leave}
use Rattle.trees.specs.Tree.{rising_paths}
use Rattle.house.specs.Control.{against, load_old, ask_tip, under_tip, coming_from}
use Rattle.house.specs.declared.control.Phase.TheVariants.{OpeningTip}
use Rattle.house.proofs.Versions.{opens_tip}
use Rattle.house.proofs.Sheets.{loads_old, after, answers_by, text_parts, sum_words, weight_said, file_of, row_room, Well, begins, recalls_head, loads_tree, shows_file, compares, names_file, surveys, lays_file, lays_tree, publishes_head}

-- the ring has room for three reserves, and no reserve is large
pub reserve_small : (pages : ℕ) → pages ≤ 1048576 → reserve pages ≤ 524288
reserve_small pages few = omega arith

-- WHAT IS SAID is put aside: the path's key in a memory
pub record Aside (p x : List ℕ) : Type 0 where
  pub long : length x ≡ bulk_cells
  pub key : take 9 (drop path_at x) ≡ key_of p

pub key_long : (p : List ℕ) → length (key_of p) ≡ 9
unfolding key_of
key_long p = omega (arith, length-append (words 8 (p ++ zeros (64 - length p))) (length p ∷ []), length_words 8 (p ++ zeros (64 - length p)))

pub path_aside : (p m : List ℕ) → length m ≡ bulk_cells → good_path p ≡ true → Aside p (path_put p m)
path_aside p m l good =
    record {
      long = ap length is ∙ length_over path_at (key_of p) m (omega (arith, l, key_long p)) ∙ l;
      key =
          ap (λ x. take 9 (drop path_at x)) is ∙ ap (λ i. take i (drop path_at (over path_at (key_of p) m))) (sym (key_long p))
          ∙ parts_stay.here path_at (key_of p) m (omega (arith, l, key_long p));
    }
  where
    is : path_put p m ≡ over path_at (key_of p) m
    is = pick_true (good_path p) (over path_at (key_of p) m) m good

-- and its bytes
pub bytes_aside : (p b x : List ℕ) → length b < 65536 → Aside p x → Aside p (bytes_put bytes_place b x) × (take (words_for (length b)) (drop 9 (drop path_at (bytes_put bytes_place b x))) ≡ packed_bytes b)
bytes_aside p b x short aside = (
  record {
    long = ap length (sym is) ∙ length_over bytes_place (packed_bytes b) x (omega (arith, fits)) ∙ aside.long;
    key = ap (λ y. take 9 (drop path_at y)) (sym is) ∙ parts_stay.beside bytes_place (packed_bytes b) x path_at 9 (omega (arith, fits)) (inl (omega arith)) ∙ aside.key;
  },
  ap (λ y. take (words_for (length b)) (drop 9 (drop path_at y))) (sym is) ∙ ap (take (words_for (length b))) (drop-drop 9 path_at (over bytes_place (packed_bytes b) x))
      ∙ ap (λ i. take i (drop bytes_place (over bytes_place (packed_bytes b) x))) (sym packed_long) ∙ parts_stay.here bytes_place (packed_bytes b) x (omega (arith, fits)),
)
  where
    packed_long : length (packed_bytes b) ≡ words_for (length b)
    packed_long = length_words (words_for (length b)) (b ++ zeros 7)

    fits : bytes_place + length (packed_bytes b) ≤ length x
    fits = omega (arith, packed_long, short, aside.long)

    is : over bytes_place (packed_bytes b) x ≡ bytes_put bytes_place b x
    is = put_all b x bytes_place (omega (arith, short, aside.long))

-- what an entry weighs at that path
pub weight_aside : (p x : List ℕ) → Aside p x → proper p ≡ true → weight_said (drop path_at x) ≡ 64 + length p
weight_aside p x aside good =
    ap (λ i. capped (64 + i)) word ∙ omega (arith, leb-true (length p) 64 (and_parts (leb 1 (length p)) (leb (length p) 64) (and_parts (good_path p) (all_bytes p) good).0).1)
  where
    word : get_or (drop path_at x) 8 0 ≡ length p
    word = sym (get_or-take 9 (drop path_at x) 8 0 (omega arith)) ∙ ap (λ y. get_or y 8 0) aside.key ∙ last_word p

pub weight_on_desk : (h ws d m : List ℕ) → Desk h ws d m → entry_weight m ≡ weight_said d
weight_on_desk h ws d m desk = ap (λ x. capped (64 + x)) (sym (get_or-drop path_at m 8 0) ∙ ap (λ x. get_or x 8 0) desk.said)

-- a key is found as its path is
pub find_by_key : (p ws : List ℕ) → proper p ≡ true → find_in p ws ≡ reference_in (found (entries_of ws) (key_of p))
unfolding find_in
find_by_key p ws good = pick_true (good_path p) (reference_in (found (entries_of ws) (key_of p))) None (and_parts (good_path p) (all_bytes p) good).0

pub find_right : (stands : ℕ → List ℕ) (ws : List ℕ) (t : Tree) (p : List ℕ) → RowOf stands ws t → proper p ≡ true → each stands (listed (find_in p ws)) ≡ found t p
unfolding FindsRight
find_right = finds_right

-- differences are the marks of two trees, and no more of them are answered than are asked for
pub differ_right : (stands : ℕ → List ℕ) (xs ys : List ℕ) (t u : Tree) (i : ℕ) → RowOf stands xs t → RowOf stands ys u → RowApart stands xs ys → length t + length u ≤ i →
    each (shown xs ys) (answers i xs ys (cursor 0 0)) ≡ flat (mark t u) (paths (both t u))
unfolding DiffersRight
differ_right = differs_right

pub empty_right_row : (stands : ℕ → List ℕ) (rest : List ℕ) → RowOf stands (0 ∷ 0 ∷ rest) []
unfolding EmptyRight
empty_right_row stands rest = empty_right stands (0 ∷ 0 ∷ rest) (omega arith) refl refl

pub answers_few : (i : ℕ) (xs ys : List ℕ) (c : Cursor) → length (answers i xs ys c) ≤ i
unfolding answers after
answers_few zero xs ys c = omega arith
answers_few (suc i) xs ys c =
    subst (λ l. length l ≤ suc i) (sym (answers_by i xs ys c (difference_from xs ys c) refl)) (go (difference_from xs ys c) (answers_few i xs ys))
  where
    go : (o : Option Difference) → ((d : Cursor) → length (answers i xs ys d) ≤ i) → length (after i xs ys o) ≤ suc i
    go None few = omega arith
    go (Some v) few = omega (arith, few v.next)

-- LESS IN WORK weighs no more
pub bytes_without : (p : List ℕ) (t : Tree) (b : List ℕ) → In b (each (λ f. f.bytes) (without p t)) → In b (each (λ f. f.bytes) t)
unfolding without
bytes_without p [] b i = i
bytes_without p (f ∷ fs) b i =
    pick_both (λ (x : Tree). In b (each (λ g. g.bytes) x) → In b (each (λ g. g.bytes) (f ∷ fs))) (same p f.path) _ _ (λ y j. inr j)
    (λ m j. ⊎_elim inl (λ q. inr (bytes_without p fs b q)) j) i

pub weighs_within : (b : Book) (t u : Tree) (tips : List ℕ) → length tips ≤ 1 → ((x : List ℕ) → In x (each (λ f. f.bytes) u) → In x (each (λ f. f.bytes) t)) → weight_of u ≤ weight_of t →
    weight b (keeping u tips) ≤ weight b (keeping t tips)
weighs_within b t u tips few within light =
    let files : files_weight (commits_files b tips ++ each (λ f. f.bytes) u) ≤ files_weight (commits_files b tips ++ each (λ f. f.bytes) t) =
    added_up_within same same_tells (λ bs. 64 + length bs) (distinct (commits_files b tips ++ each (λ f. f.bytes) u)) (distinct (commits_files b tips ++ each (λ f. f.bytes) t))
    (once_distinct (commits_files b tips ++ each (λ f. f.bytes) u)) (once_distinct (commits_files b tips ++ each (λ f. f.bytes) t))
    (λ x i. in_distinct (commits_files b tips ++ each (λ f. f.bytes) t) x (more x (in_append x (commits_files b tips) (each (λ f. f.bytes) u) (distinct_in (commits_files b tips ++ each (λ f. f.bytes) u) x i)))) in
    let old = keeping_weighs b t tips few in
    let new = keeping_weighs b u tips few in
    omega (arith, files, light, old, new)
  where
    more : (x : List ℕ) → In x (commits_files b tips) ⊎ In x (each (λ f. f.bytes) u) → In x (commits_files b tips ++ each (λ f. f.bytes) t)
    more x (inl i) = in_left x (commits_files b tips) (each (λ f. f.bytes) t) i
    more x (inr i) = in_right x (commits_files b tips) (each (λ f. f.bytes) t) (within x i)

pub weighs_less : (b : Book) (p : List ℕ) (t : Tree) (tips : List ℕ) → length tips ≤ 1 → none_of (found t p) ≡ false → weight b (keeping (without p t) tips) ≤ weight b (keeping t tips)
weighs_less b p t tips few some = let w = weight_without p t some in weighs_within b t (without p t) tips few (λ x i. bytes_without p t x i) (omega (arith, w))

-- the tree in work is part of what is to be kept
pub work_within : (b : Book) (t : Tree) (tips : List ℕ) → length tips ≤ 1 → weight_of t ≤ weight b (keeping t tips)
work_within b t tips few = let w = keeping_weighs b t tips few in omega (arith, w)

-- a tree that may be kept takes no more pages than a reserve has
pub tree_pages : (stands : ℕ → List ℕ) (pages : ℕ) (ws : List ℕ) (t : Tree) → 64 ≤ pages → RowOf stands ws t → weight_of t ≤ 128 * pages → pages_of (length (squeezed ws)) ≤ reserve pages
tree_pages stands pages ws t low row light = let b : 8 * length (squeezed ws) + 41 * length t ≤ weight_of t + 24 = stored_bytes stands ws t row in omega (arith, b, light)

pub take_row : (stands : ℕ → List ℕ) (ws p : List ℕ) (t : Tree) → RowOf stands ws t → proper p ≡ true →
    (has_key (key_of p) ws ≡ not (none_of (found t p))) × RowOf stands (take_key (key_of p) (64 + length p) ws) (without p t)
unfolding TakesRight taken_from take_from
take_row stands ws p t row good = (
  ap (λ b. b && has_key (key_of p) ws) (sym path) ∙ (takes_right stands ws t p row good).0,
  subst (λ x. RowOf stands x (without p t)) (pick_true (good_path p) (take_key (key_of p) (64 + length p) ws) ws path) (takes_right stands ws t p row good).1,
)
  where
    path : good_path p ≡ true
    path = (and_parts (good_path p) (all_bytes p) good).0

-- A FILE IS PUT INTO A ROW: there is room for it just if the tree has at most 4,096 files then
pub is_ok : Result (Unit {0}) Refused → Bool
is_ok (Ok x) = true
is_ok (Err x) = false

pub fits_alike : (a b : Bool) → pick {A = Result (Unit {0}) Refused} a (Ok tt) (Err Full) ≡ pick b (Ok tt) (Err Full) → a ≡ b
unfolding is_ok
fits_alike true true e = refl
fits_alike false false e = refl
fits_alike true false e = absurd (false≢true (sym (ap is_ok e)))
fits_alike false true e = absurd (false≢true (ap is_ok e))

pub room_right : (stands : ℕ → List ℕ) (ws p b : List ℕ) (t : Tree) → RowOf stands ws t → proper p ≡ true → length ws ≡ row_words → room_for (key_of p) 0 ws ≡ leb (length (put p b t)) 4096
unfolding PutsRight put_answer
room_right stands ws p b t row good l =
    fits_alike (room_for (key_of p) 0 ws) (leb (length (put p (stands 0) t)) (room ws))
    (sym (pick_true (good_path p) (pick (room_for (key_of p) 0 ws) (Ok tt) (Err Full)) (Err Path) (and_parts (good_path p) (all_bytes p) good).0) ∙ (puts_right stands ws t p 0 row good).0)
    ∙ ap₂ leb (put_as_many p (stands 0) b t) (row_room ws l)

-- WHAT IS KEPT, beside a quarter of the pages: numbers that stop at the highest tell the same
pub weighs_alike : (q a b d e : ℕ) → q < 18446744073709551615 → ltb q (capped (capped (capped (capped a + b) + d) + e)) ≡ ltb q (a + b + d + e)
weighs_alike q a b d e low =
    same_test (ltb q (capped (capped (capped (capped a + b) + d) + e))) (ltb q (a + b + d + e))
    (λ h. lt-ltb q (a + b + d + e) (omega (arith, ltb-true q (capped (capped (capped (capped a + b) + d) + e)) h)))
    (λ h. lt-ltb q (capped (capped (capped (capped a + b) + d) + e)) (omega (arith, ltb-true q (a + b + d + e) h)))

-- a row that says that it has no files names none, whatever it says to weigh
pub none_named : (x : ℕ) (rest : List ℕ) → references (0 ∷ x ∷ rest) ≡ []
unfolding cut
none_named x rest = let e : held (0 ∷ x ∷ rest) ≡ 0 = omega arith in ap (λ i. each reference_of (cut i rest)) e

-- a file and its tree take no more pages than a reserve has
pub file_pages : (stands : ℕ → List ℕ) (sum : Sum) (pages others : ℕ) (ws b : List ℕ) (t : Tree) → 64 ≤ pages → RowOf stands ws t → length b < 65536 → (others + (64 + length b)) + weight_of t ≤ 128 * pages →
    pages_of (length (file_of sum b)) + pages_of (length (squeezed ws)) ≤ reserve pages
file_pages stands sum pages others ws b t low row short light =
    let l : length (packed_bytes b) ≡ words_for (length b) = length_words (words_for (length b)) (b ++ zeros 7) in
    let q : 8 * length (squeezed ws) + 41 * length t ≤ weight_of t + 24 = stored_bytes stands ws t row in
    let o : length (file_of sum b) ≡ 6 + length (packed_bytes b) = omega arith in
    subst (λ i. pages_of i + pages_of (length (squeezed ws)) ≤ reserve pages) (sym o)
    (both_fit (length b) (length (packed_bytes b)) (length (squeezed ws)) (weight_of t) pages others l (omega arith) light low)
  where
    both_fit : (size many more tree pages others : ℕ) → many ≡ words_for size → 8 * more ≤ tree + 24 → (others + (64 + size)) + tree ≤ 128 * pages → 64 ≤ pages →
        pages_of (6 + many) + pages_of more ≤ reserve pages
    both_fit size many more tree pages others e f g low = omega arith

-- SUMS TELL APART what was noted and what a house has in work
pub in_clones : (xs : List Clone) (c : ℕ) (y : Clone) → c < length xs → In y (set_clone xs c y)
unfolding set_clone
in_clones [] c y h = absurd (omega arith)
in_clones (x ∷ xs) zero y h = inl refl
in_clones (x ∷ xs) (suc c) y h = inr (in_clones xs c y (omega arith))

pub apart_by : (sum : Sum) (x y : List ℕ) (zs : List (List ℕ)) → every (λ z. or (same x z) (not (same (sum x) (sum z)))) zs ≡ true → In y zs → sum x ≡ sum y → x ≡ y
apart_by sum x y zs h i e = same_true x y (go (same x y) refl (every_in (λ z. or (same x z) (not (same (sum x) (sum z)))) zs h y i))
  where
    go : (z : Bool) → same x y ≡ z → or (same x y) (not (same (sum x) (sum y))) ≡ true → same x y ≡ true
    go true z o = z
    go false z o = absurd (false≢true (ap not (sym (same_from (sum x) (sum y) e)) ∙ sym (ap (λ q. or q (not (same (sum x) (sum y)))) z) ∙ o))

pub told_by : (sum : Sum) (b : Book) (xs : List Clone) (c : ℕ) (u : Tree) (tips : List ℕ) → c < length xs → told_apart sum (record { book = b; clones = set_clone xs c (keeping u tips) }) ≡ true →
    (x y : List ℕ) → In x (all_files b ++ each (λ f. f.bytes) u) → In y (all_files b ++ each (λ f. f.bytes) u) → sum x ≡ sum y → x ≡ y
unfolding told_apart clear
told_by sum b xs c u tips h told x y i j e = go (in_append x (all_files b) (each (λ f. f.bytes) u) i) (in_append y (all_files b) (each (λ f. f.bytes) u) j)
  where
    works : List (List ℕ)
    works = flat (λ (z : Clone). each (λ f. f.bytes) z.work) (set_clone xs c (keeping u tips))

    there : (z : List ℕ) → In z (each (λ f. f.bytes) u) → In z (flat (λ (z : Clone). each (λ f. f.bytes) z.work) (set_clone xs c (keeping u tips)))
    there z k = in_flat (λ (q : Clone). each (λ f. f.bytes) q.work) (set_clone xs c (keeping u tips)) (keeping u tips) z (in_clones xs c (keeping u tips) h) k

    noted : every (λ q. every (λ z. or (same q z) (not (same (sum q) (sum z)))) (all_files b)) (all_files b) ≡ true
    noted = (and_parts _ (every (λ q. every (λ z. or (same q z) (not (same (sum q) (sum z)))) (all_files b)) (all_files b)) (and_parts (clear sum b) _ told).0).1

    -- what is in work beside anything
    work_apart : (q z : List ℕ) → In q (each (λ f. f.bytes) u) → In z (all_files b ++ works) → sum q ≡ sum z → q ≡ z
    work_apart q z k l f = apart_by sum q z (all_files b ++ works) (every_in (λ v. every (λ z. or (same v z) (not (same (sum v) (sum z)))) (all_files b ++ works)) works (and_parts (clear sum b) _ told).1 q (there q k)) l f

    go : In x (all_files b) ⊎ In x (each (λ f. f.bytes) u) → In y (all_files b) ⊎ In y (each (λ f. f.bytes) u) → x ≡ y
    go (inl k) (inl l) = apart_by sum x y (all_files b) (every_in (λ q. every (λ z. or (same q z) (not (same (sum q) (sum z)))) (all_files b)) (all_files b) noted x k) l e
    go (inl k) (inr l) = sym (work_apart y x l (in_left x (all_files b) works k) (sym e))
    go (inr k) (inl l) = work_apart x y k (in_left y (all_files b) works l) e
    go (inr k) (inr l) = work_apart x y k (in_right y (all_files b) works (there y l)) e

-- commits are told apart by their ids
pub ids_by : (sum : Sum) (w : Plain) → told_apart sum w ≡ true → (j k : ℕ) → j < length w.book → k < length w.book → id sum w.book j ≡ id sum w.book k → j ≡ k
unfolding told_apart IdsTell
ids_by sum w told j k lj lk e = ids_tell sum w.book j k (and_parts (clear sum w.book) _ told).0 lj lk (same_from (id sum w.book j) (id sum w.book k) e)

-- the files of what was noted are among all that were
pub reached_files : (b : Book) (tips : List ℕ) → Grown b → ((k : ℕ) → In k tips → k < length b) → (x : List ℕ) → In x (commits_files b tips) → In x (all_files b)
reached_files b tips grown noted x i =
    let q = flat_in (λ k. each (λ f. f.bytes) (nth b k).tree) (back b tips) x i in
    in_flat (λ (c : Commit). each (λ f. f.bytes) c.tree) b (nth b q.0) x (nth_in b q.0 (back_within b tips grown noted q.0 q.1)) q.2

-- A HEAD THAT NAMES ANOTHER TREE that is live already
pub shelf_moved : (sum : Sum) (pages : ℕ) (b : Book) (number : ℕ → ℕ) (h t : List ℕ) (tree u : Tree) (tips : List ℕ) (r : ℕ) → Shelf sum pages b number h t tree tips → WorkAt sum t r u →
    (1 ≤ r → Live t (roots_of h) r) → weight b (keeping u tips) ≤ 128 * pages → Shelf sum pages b number (first_page h ∷ last_page h ∷ r ∷ tip_root h ∷ drop 4 h) t u tips
shelf_moved sum pages b number h t tree u tips r s work live light =
    record {
      whole = s.whole;
      others = s.others;
      heap = heap_part t (8 * first_page h) (8 * last_page h) (roots_of h) (roots_of (first_page h ∷ last_page h ∷ r ∷ tip_root h ∷ drop 4 h)) there s.heap;
      stored = stored_part sum b number t (roots_of h) (roots_of (first_page h ∷ last_page h ∷ r ∷ tip_root h ∷ drop 4 h)) there s.stored;
      work = work;
      tip = s.tip;
      weight = light;
      ring = s.ring;
    }
  where
    there : (q : ℕ) → 1 ≤ q → has (roots_of (first_page h ∷ last_page h ∷ r ∷ tip_root h ∷ drop 4 h)) q ≡ true → Live t (roots_of h) q
    there q one e = go (roots_only (first_page h ∷ last_page h ∷ r ∷ tip_root h ∷ drop 4 h) s.others q one e)
      where
        go : (q ≡ r) ⊎ (q ≡ tip_root h) → Live t (roots_of h) q
        go (inl i) = subst (Live t (roots_of h)) (sym i) (live (subst (λ v. 1 ≤ v) i one))
        go (inr i) = subst (Live t (roots_of h)) (sym i) (tip_live sum pages b number h t tree tips s (subst (λ v. 1 ≤ v) i one))

-- what the plain house says of its branch
pub tip_is : (u : Tree) (tips : List ℕ) → length tips ≤ 1 → tip (keeping u tips) ≡ tips
unfolding ref_of same
tip_is u [] few = refl
tip_is u (k ∷ []) few = refl
tip_is u (k ∷ j ∷ ks) few = absurd (omega arith)

-- WHERE A COMMAND STANDS: the tape holds a tree in work; what may still be laid fits into the numbers
pub record Spot (sum : Sum) (pages things : ℕ) (b : Book) (tree : Tree) (tips h t : List ℕ) : Type 0 where
  pub number : ℕ → ℕ
  pub shelf : Shelf sum pages b number h t tree tips
  pub rises : first_page h ≤ last_page h
  pub slack : last_page h + 2097152 * things + 1048576 ≤ 18014398509481984

module _ (s : Setting) (sums : (bs : List ℕ) → (length (s.sum bs) ≡ 32) × (all_bytes (s.sum bs) ≡ true)) (n : ℕ) (size : suc n ≡ s.pages) (low : 64 ≤ s.pages) (most : s.pages ≤ 1048576) where
  -- whether the ring is tight, by its window
  tight_is : (pages : ℕ) (h ws d m : List ℕ) → pages ≡ s.pages → Desk h ws d m → last_page h ≤ first_page h + n →
      tight pages m ≡ ltb n (2 * reserve s.pages + (last_page h - first_page h))
  tight_is pages h ws d m e desk near =
      ap₂ (λ x y. ltb x y) n_is wanted_is
    where
      n_is : pages - 1 ≡ n
      n_is = omega (arith, e, size)

      least : min pages 4294967296 ≡ s.pages
      least = omega (arith, e, most)

      words : head_word m 1 - head_word m 0 ≡ last_page h - first_page h
      words = ap₂ (λ x y. x - y) (head_word_is h ws d m 1 (omega arith) desk) (head_word_is h ws d m 0 (omega arith) desk)

      wanted_is : capped (capped (2 * reserve (min pages 4294967296)) + (head_word m 1 - head_word m 0)) ≡ 2 * reserve s.pages + (last_page h - first_page h)
      wanted_is =
          ap₂ (λ x y. capped (capped (2 * reserve x) + y)) least words
          ∙ omega (arith, reserve_small s.pages most, near, most, size)

  module _ (things : ℕ) (b : Book) (grown : Grown b) (texts : (k : ℕ) → a_text (nth b k).words ≡ true) (tree : Tree) (tips : List ℕ) (Stop : List ℕ → List ℕ → Rows → Type 0) (End : Control → List ℕ → List ℕ → List ℕ → ℕ → Rows → ℕ → Type 0) where
    At : List ℕ → List ℕ → Type 0
    At h t = Spot s.sum s.pages things b tree tips h t

    -- a command begins: where it may lay something and the ring is tight, it sweeps first; then there is room for what it lays and one more sweep
    pub serves : (k : Control) (ws d m h t : List ℕ) → k.pages ≡ s.pages → Desk h ws d m → Window n h t (last_page h) → Spot s.sum s.pages things b tree tips h t →
        last_page h + 2097152 * things + 2097152 ≤ 18014398509481984 →
        ((h₁ t₁ : List ℕ) → Spot s.sum s.pages things b tree tips h₁ t₁ → Stop h₁ t₁ []) →
        ((v : Sweep) (m₁ h₁ t₁ : List ℕ) → Spot s.sum s.pages things b tree tips h₁ t₁ → Desk h₁ ws d m₁ →
        (lays k.task ≡ true → 2 * reserve s.pages + (last_page h₁ - first_page h₁) ≤ n) →
        Well s.sum n Stop End (started s.sum (at_phase Recalling (sweeping k v)) m₁ k.task) h₁ t₁ (last_page h₁) []) →
        Well s.sum n Stop End (recalled s.sum (at_phase Recalling k) m) h t (last_page h) []
    serves k ws d m h t pages_are desk win spot slack stop ready =
        begins s.sum n Stop End (at_phase Recalling k) ws d m h t [] ls.0 (omega (arith, size, most)) desk win shelf.heap ls.1 fits (omega (arith, fits_in, small))
        (λ t₁ h₁ swept. stop h₁ t₁ (spot_swept h₁ t₁ swept))
        (λ e. ready k.sweep m h t spot desk (λ l. roomy h m desk (win_near) e l))
        (λ t₁ h₁ m₁ v swept desk₁. then t₁ h₁ m₁ v swept desk₁)
      where
        shelf : Shelf s.sum s.pages b spot.number h t tree tips
        shelf = spot.shelf

        ls : (xs : List ℕ) × Lives t (roots_of h) xs
        ls = lives_of s.sum s.pages b spot.number h t tree tips spot.shelf

        small : reserve s.pages ≤ 524288
        small = reserve_small s.pages most

        fits_in : (added_up (units_at t) ls.0 + 7) / 8 ≤ reserve s.pages
        fits_in = shelf_fits s.sum s.pages b spot.number h t tree tips spot.shelf grown texts ls.0 ls.1 low

        fits : last_page h + (added_up (units_at t) ls.0 + 7) / 8 ≤ first_page h + n
        fits = omega (arith, fits_in, spot.shelf.ring, size)

        win_near : last_page h ≤ first_page h + n
        win_near = win.room

        spot_swept : (h₁ t₁ : List ℕ) → Swept t h t₁ h₁ ls.0 → Spot s.sum s.pages things b tree tips h₁ t₁
        spot_swept h₁ t₁ w =
            record {
              number = (shelf_swept s.sum s.pages b spot.number h t h₁ t₁ ls.0 tree tips spot.shelf w grown texts low ls.1).0;
              shelf = (shelf_swept s.sum s.pages b spot.number h t h₁ t₁ ls.0 tree tips spot.shelf w grown texts low ls.1).1;
              rises = omega (arith, w.first_is, w.last_is);
              slack = omega (arith, w.last_is, fits_in, small, slack);
            }

        roomy : (h₁ m₁ : List ℕ) → Desk h₁ ws d m₁ → last_page h₁ ≤ first_page h₁ + n → lays k.task && tight k.pages m₁ ≡ false → lays k.task ≡ true →
            2 * reserve s.pages + (last_page h₁ - first_page h₁) ≤ n
        roomy h₁ m₁ desk₁ near e l =
            let f : tight k.pages m₁ ≡ false = ap (λ b. b && tight k.pages m₁) (sym l) ∙ e in
            ltb-false n (2 * reserve s.pages + (last_page h₁ - first_page h₁)) (sym (tight_is k.pages h₁ ws d m₁ pages_are desk₁ near) ∙ f)

        then : (t₁ h₁ m₁ : List ℕ) (v : Sweep) → Swept t h t₁ h₁ ls.0 → Desk h₁ ws d m₁ →
            Well s.sum n Stop End (recalled s.sum (at_phase Recalling (sweeping (at_phase Recalling k) v)) m₁) h₁ t₁ (last_page h₁) []
        then t₁ h₁ m₁ v w desk₁ =
            subst (λ (x : Asked Control). Well s.sum n Stop End x h₁ t₁ (last_page h₁) []) (sym (pick_false (lays k.task && tight k.pages m₁) _ _ (ap (λ b. lays k.task && b) loose ∙ both (lays k.task))))
            (ready v m₁ h₁ t₁ (spot_swept h₁ t₁ w) desk₁ (λ l. room))
          where
            near : last_page h₁ ≤ first_page h₁ + n
            near = omega (arith, w.first_is, w.last_is, fits_in, (ring_has_room s.pages low).0, size)

            room : 2 * reserve s.pages + (last_page h₁ - first_page h₁) ≤ n
            room = omega (arith, w.first_is, w.last_is, fits_in, (ring_has_room s.pages low).0, size)

            loose : tight k.pages m₁ ≡ false
            loose = tight_is k.pages h₁ ws d m₁ pages_are desk₁ near ∙ le-ltb n (2 * reserve s.pages + (last_page h₁ - first_page h₁)) room

            both : (b : Bool) → b && false ≡ false
            both true = refl
            both false = refl

  -- what a tape stands for, at a command of a house that keeps a tree and works on the one branch
  module _ (known_is : s.known ≡ noting) (things c : ℕ) (w : Plain) (lt : c < length w.clones) (grown : Grown w.book) (texts : (k : ℕ) → a_text (nth w.book k).words ≡ true)
      (trees : (k : ℕ) → FineTree (nth w.book k).tree) (tree : Tree) (tips : List ℕ) (clone_is : clone_at w.clones c ≡ keeping tree tips) (fine : FineTree tree) (k : Control)
      (knows : Remembers s.pages c k) where
    abbrev pub Here : List ℕ → List ℕ → Type 0
    Here h t = Spot s.sum s.pages things w.book tree tips h t

    -- the plain houses after it, with a book, a tree in work and a commit there
    abbrev pub after_all : Book → Tree → List ℕ → Plain
    after_all b u ks = record { book = b; clones = set_clone w.clones c (keeping u ks) }

    abbrev pub after_with : Tree → Plain
    after_with u = after_all w.book u tips

    abbrev pub same_after : Plain
    same_after = record { book = w.book; clones = set_clone w.clones c (clone_at w.clones c) }

    pub stands_at : (h t : List ℕ) → Here h t → Stands s.sum s.pages things c w h t
    stands_at h t spot = record { tree = tree; tips = tips; number = spot.number; clone = clone_is; shelf = spot.shelf; bounded = omega (arith, spot.slack) }

    pub stands_in : (b : Book) (u : Tree) (ks h t : List ℕ) (number : ℕ → ℕ) → Shelf s.sum s.pages b number h t u ks → last_page h + 2097152 * things ≤ 18014398509481984 →
        Stands s.sum s.pages things c (record { book = b; clones = set_clone w.clones c (keeping u ks) }) h t
    stands_in b u ks h t number shelf bound =
        record { tree = u; tips = ks; number = number; clone = clone_at_same w.clones c (keeping u ks) lt; shelf = shelf; bounded = bound }

    pub stands_same : (h t : List ℕ) → Here h t → Stands s.sum s.pages things c (record { book = w.book; clones = set_clone w.clones c (clone_at w.clones c) }) h t
    stands_same h t spot =
        record {
          tree = tree;
          tips = tips;
          number = spot.number;
          clone = clone_at_same w.clones c (clone_at w.clones c) lt ∙ clone_is;
          shelf = spot.shelf;
          bounded = omega (arith, spot.slack);
        }

    -- all of a tape is published that ends with its window
    pub all_published : (h t : List ℕ) → length t ≡ 64 * last_page h → published h t ≡ t
    all_published h t e = take_all (64 * last_page h) t (omega (arith, e))

    abbrev pub Stop : Plain → Rows → List ℕ → List ℕ → Rows → Type 0
    Stop after rows = StopStands (Stands s.sum s.pages) things c w after rows

    abbrev pub End : Plain → Rows → ℕ → Control → List ℕ → List ℕ → List ℕ → ℕ → Rows → ℕ → Type 0
    End after rows reply = EndStands (Remembers s.pages) (Stands s.sum s.pages) things c after rows reply

    -- a stop where the tape still stands for the plain houses as they were, with some of the rows shown
    pub stops_shown : (after : Plain) (rows xs ys : Rows) → xs ++ ys ≡ rows → (h t : List ℕ) → Here h t → Stop after rows h (published h t) xs
    unfolding StopStands
    stops_shown after rows xs ys e h t spot =
        ((ys, e), (w, inl refl, subst (Stands s.sum s.pages things c w h) (sym (all_published h t spot.shelf.whole)) (stands_at h t spot)))

    -- or while nothing was shown or published
    pub stops_before : (after : Plain) (rows : Rows) (h t : List ℕ) → Here h t → Stop after rows h t []
    unfolding StopStands
    stops_before after rows h t spot = ((rows, refl), (w, inl refl, stands_at h t spot))

    -- or where it stands for what is after
    pub stops_after : (after : Plain) (rows xs ys : Rows) → xs ++ ys ≡ rows → (h t : List ℕ) → length t ≡ 64 * last_page h → Stands s.sum s.pages things c after h t → Stop after rows h (published h t) xs
    unfolding StopStands
    stops_after after rows xs ys e h t whole stands =
        ((ys, e), (after, inr refl, subst (Stands s.sum s.pages things c after h) (sym (all_published h t whole)) stands))

    -- an end at which the tape stands for what is after
    pub ends_after : (after : Plain) (rows : Rows) (reply laid : ℕ) (k₁ : Control) (m h t : List ℕ) → Remembers s.pages c k₁ → length t ≡ 64 * last_page h → Stands s.sum s.pages things c after h t →
        End after rows reply k₁ m h t laid rows reply
    unfolding EndStands
    ends_after after rows reply laid k₁ m h t r whole stands = (refl, refl, subst (Stands s.sum s.pages things c after h) (sym (all_published h t whole)) stands, r)

    -- an end at which the plain houses are as before
    pub ends_before : (rows : Rows) (reply : ℕ) (k₁ : Control) (m h t : List ℕ) → Remembers s.pages c k₁ → Here h t → End w rows reply k₁ m h t (last_page h) rows reply
    ends_before rows reply k₁ m h t r spot = ends_after w rows reply (last_page h) k₁ m h t r spot.shelf.whole (stands_at h t spot)

    -- or with the same clone put there once more
    pub ends_same : (rows : Rows) (reply : ℕ) (k₁ : Control) (m h t : List ℕ) → Remembers s.pages c k₁ → Here h t → End same_after rows reply k₁ m h t (last_page h) rows reply
    ends_same rows reply k₁ m h t r spot = ends_after same_after rows reply (last_page h) k₁ m h t r spot.shelf.whole (stands_same h t spot)

    -- how it comes out by the plain turn
    pub comes_out : (h t m text : List ℕ) (a : Command) → spelled a ≡ text → fits a ≡ true → noting a ≡ true → (v : Turn) → turn s.sum w c (clone_at w.clones c) a ≡ v →
        Does (controlling s.sum) n (Stop v.next v.shows) (End v.next v.shows v.reply) (control_hears s.sum k m text) h t (last_page h) [] →
        Answered (control_client s.sum) (Remembers s.pages) (Stands s.sum s.pages) s n things c w k m h t text
    unfolding Allowed Said KnownAllowed
    comes_out h t m text a e f g v is does =
        record {
          rows = v.shows;
          reply = v.reply;
          after = v.next;
          allowed = λ ls up. inl (a, (e, f), ap (λ (q : Command → Bool). q a) known_is ∙ g, inl (ap (λ (x : Turn). x.reply) (sym is), ap (λ (x : Turn). x.shows) (sym is), ap (λ (x : Turn). x.next) (sym is)));
          does = does;
        }

    -- a command that was read is said
    pub says : (m text : List ℕ) (a : Command) → length m ≡ bulk_cells → parsed text ≡ Some a → control_hears s.sum k m text ≡ said_of s.sum k m a
    says m text a l e = pick_false (ltb (length m) desk_end) _ _ (le-ltb (length m) desk_end (omega (arith, l))) ∙ ap (heard_of s.sum k m) e

    -- what a task needs of the spot where it starts
    module _ (h t : List ℕ) (spot : Here h t) where
      pub small_spot : 64 * last_page h < 18446744073709551616
      small_spot = omega (arith, spot.slack)

      pub root_placed : 1 ≤ work_root h → Placed t (8 * first_page h) (8 * last_page h) (work_root h)
      root_placed one = spot.shelf.heap.placed (work_root h) (root_live s.sum s.pages w.book spot.number h t tree tips spot.shelf one)

      pub tip_placed : 1 ≤ tip_root h → Placed t (8 * first_page h) (8 * last_page h) (tip_root h)
      tip_placed one = spot.shelf.heap.placed (tip_root h) (tip_live s.sum s.pages w.book spot.number h t tree tips spot.shelf one)

      pub file_placed : (r : ℕ) → has (files_named t (work_root h)) r ≡ true → Placed t (8 * first_page h) (8 * last_page h) r
      file_placed r e = spot.shelf.heap.placed r (file_live s.sum s.pages w.book spot.number h t tree tips spot.shelf r e)

      -- the branch's commit
      pub tip_commit : 1 ≤ tip_root h → CommitAt s.sum w.book spot.number t (tip_root h)
      tip_commit one = tip_at s.sum s.pages w.book spot.number h t tree tips spot.shelf one

      -- and its tree
      pub tip_tree : 1 ≤ tip_root h → WorkAt s.sum t (tree_named (object_at t (tip_root h))) (tree_of w.book tips)
      unfolding tree_of
      tip_tree one =
          subst (WorkAt s.sum t (tree_named (object_at t (tip_root h)))) (sym (ap (tree_of w.book) (numbered_is spot.number t (tip_root h) tips spot.shelf.tip one).1)) (tip_commit one).tree

      pub tip_tree_live : 1 ≤ tip_root h → 1 ≤ tree_named (object_at t (tip_root h)) → Live t (roots_of h) (tree_named (object_at t (tip_root h)))
      tip_tree_live one some =
          (commit_tree_live s.sum w.book spot.number t (roots_of h) (tip_root h) (tip_commit one) (texts (spot.number (tip_root h)))
          (tip_live s.sum s.pages w.book spot.number h t tree tips spot.shelf one) some).0

    pub few_tips : (h t : List ℕ) → Here h t → length tips ≤ 1
    few_tips h t spot = numbered_few spot.number t (tip_root h) tips spot.shelf.tip

    pub tip_fine : FineTree (tree_of w.book tips)
    unfolding tree_of rising_paths
    tip_fine = go tips
      where
        go : (ks : List ℕ) → FineTree (tree_of w.book ks)
        go [] = record { rising = refl; few = omega arith; files = refl }
        go (q ∷ ks) = trees q

    -- phases, for whatever is shown
    module _ (Stop : List ℕ → List ℕ → Rows → Type 0) (End : Control → List ℕ → List ℕ → List ℕ → ℕ → Rows → ℕ → Type 0) where
      -- the tree in work is loaded
      pub loads : (k₁ : Control) (ws d m h t : List ℕ) (ss : Rows) → Desk h ws d m → Here h t →
          ((p : Phase) (ws₁ m₁ : List ℕ) → Desk h ws₁ d m₁ → RowOf (bytes_at t) ws₁ tree → references ws₁ ≡ files_named t (work_root h) →
          Well s.sum n Stop End (loaded s.sum (at_phase p k₁) m₁ k₁.task) h t (last_page h) ss) →
          Well s.sum n Stop End (load s.sum k₁ m (head_word m 2)) h t (last_page h) ss
      loads k₁ ws d m h t ss desk spot on =
          subst (λ (i : ℕ). Well s.sum n Stop End (load s.sum k₁ m i) h t (last_page h) ss) (sym (head_word_is h ws d m 2 (omega arith) desk))
          (loads_tree s.sum n Stop End k₁ ws d m h t (last_page h) (work_root h) ss tree desk spot.shelf.whole (small_spot h t spot) spot.shelf.work (root_placed h t spot) fine.few on)

      -- the branch's commit is asked for
      pub asks_tip : (k₁ : Control) (ws d m h t : List ℕ) (ss : Rows) → Desk h ws d m → (spot : Here h t) → 1 ≤ tip_root h →
          ((m₁ : List ℕ) → Desk h ws d m₁ →
          Well s.sum n Stop End
          (under_tip s.sum (coming_from (sum_key (id s.sum w.book (spot.number (tip_root h)))) (at_phase OpeningTip k₁)) m₁ (tree_named (object_at t (tip_root h))) (weight_of (tree_of w.book tips)) k₁.task)
          h t (last_page h) ss) →
          Well s.sum n Stop End (ask_tip k₁ m) h t (last_page h) ss
      unfolding tree_of
      asks_tip k₁ ws d m h t ss desk spot one on =
          opens_tip s.sum sums n Stop End k₁ ws d m h t (last_page h) ss w.book spot.number desk spot.shelf.whole (small_spot h t spot) (tip_placed h t spot one) (tip_commit h t spot one)
          (texts (spot.number (tip_root h)))
          (λ m₁ desk₁.
          subst (λ (i : ℕ).
          Well s.sum n Stop End
          (under_tip s.sum (coming_from (sum_key (id s.sum w.book (spot.number (tip_root h)))) (at_phase OpeningTip k₁)) m₁ (tree_named (object_at t (tip_root h))) i k₁.task) h t (last_page h) ss)
          (ap (λ ks. weight_of (tree_of w.book ks)) (numbered_is spot.number t (tip_root h) tips spot.shelf.tip one).1) (on m₁ desk₁))

      -- and its tree is loaded, to be compared to, or the empty one
      pub loads_tip : (r : ℕ) (k₁ : Control) (ws d m h t : List ℕ) (ss : Rows) → Desk h ws d m → Here h t → WorkAt s.sum t r (tree_of w.book tips) → (1 ≤ r → Live t (roots_of h) r) →
          ((p : Phase) (os m₁ : List ℕ) → Desk h ws d m₁ → old_row_of m₁ ≡ os → RowOf (bytes_at t) os (tree_of w.book tips) → references os ≡ files_named t r →
          Well s.sum n Stop End (against s.sum (at_phase p k₁) m₁ k₁.task) h t (last_page h) ss) →
          Well s.sum n Stop End (load_old s.sum k₁ m r) h t (last_page h) ss
      loads_tip r k₁ ws d m h t ss desk spot work live on =
          loads_old s.sum n Stop End k₁ ws d m h t (last_page h) r ss (tree_of w.book tips) desk spot.shelf.whole (small_spot h t spot) work
          (λ one. spot.shelf.heap.placed r (live one)) tip_fine.few on

      -- a command that was said begins
      pub hears : (k₁ : Control) (m h t : List ℕ) → k₁.pages ≡ s.pages → length m ≡ bulk_cells → Window n h t (last_page h) → Here h t →
          last_page h + 2097152 * things + 2097152 ≤ 18014398509481984 →
          ((h₁ t₁ : List ℕ) → Here h₁ t₁ → Stop h₁ t₁ []) →
          ((v : Sweep) (m₁ h₁ t₁ : List ℕ) → Here h₁ t₁ → Desk h₁ (row_of m) (drop path_at m) m₁ →
          (lays k₁.task ≡ true → 2 * reserve s.pages + (last_page h₁ - first_page h₁) ≤ n) →
          Well s.sum n Stop End (started s.sum (at_phase Recalling (sweeping k₁ v)) m₁ k₁.task) h₁ t₁ (last_page h₁) []) →
          Well s.sum n Stop End (asked (at_phase Recalling k₁) m Recall) h t (last_page h) []
      hears k₁ m h t pages_are long win spot slack stop ready =
          recalls_head s.sum n Stop End k₁ (take 32 (drop head_at m)) (row_of m) (drop path_at m) m h t (last_page h) [] (record { long = long; head = refl; row = refl; said = refl })
          (λ m₁ desk. serves things w.book grown texts tree tips Stop End k₁ (row_of m) (drop path_at m) m₁ h t pages_are desk win spot slack stop ready)

    -- two live trees in their rows: equal bytes are one file
    rows_apart : (h₁ t₁ : List ℕ) (spot₁ : Here h₁ t₁) (os ws₁ : List ℕ) (r : ℕ) → references ws₁ ≡ files_named t₁ (work_root h₁) → references os ≡ files_named t₁ r → WorkAt s.sum t₁ r (tree_of w.book tips) →
        (1 ≤ r → Live t₁ (roots_of h₁) r) → RowApart (bytes_at t₁) os ws₁
    rows_apart h₁ t₁ spot₁ os ws₁ r names old_names work live i j a b e =
        spot₁.shelf.stored.files_once i j (old i (ap (λ x. has x i) (sym old_names) ∙ a)).0 new (old i (ap (λ x. has x i) (sym old_names) ∙ a)).1
        (file_kind s.sum t₁ j (work_file_at s.sum s.pages w.book spot₁.number h₁ t₁ tree tips spot₁.shelf j there)) e
      where
        there : has (files_named t₁ (work_root h₁)) j ≡ true
        there = ap (λ x. has x j) (sym names) ∙ b

        new : Live t₁ (roots_of h₁) j
        new = file_live s.sum s.pages w.book spot₁.number h₁ t₁ tree tips spot₁.shelf j there

        old : (q : ℕ) → has (files_named t₁ r) q ≡ true → Live t₁ (roots_of h₁) q × (kind_of (object_at t₁ q) ≡ 1)
        old q i =
            let one : 1 ≤ r = work_there t₁ r q i in
            tree_files_live s.sum t₁ (roots_of h₁) r (tree_of w.book tips) (live one) (work_is s.sum t₁ r (tree_of w.book tips) work one) q (ap (λ x. has x q) (sym (named_files t₁ r one)) ∙ i)

    -- a window is no longer than the ring
    near : (h t : List ℕ) → Here h t → last_page h - first_page h ≤ 1048576
    near h t spot = omega (arith, spot.shelf.ring, most)

    -- what a survey adds up, beside a quarter of the pages
    kept_is : (k₁ : Control) (w₁ : Walk) (m₂ h₁ t₁ ws₂ d : List ℕ) (spot₁ : Here h₁ t₁) → Remembers s.pages c k₁ → Desk h₁ ws₂ d m₂ → (live row more : ℕ) → w₁.weight ≡ capped live →
        get_or ws₂ 1 0 ≡ row → pick (eqb w₁.found 0) (more_kept k₁ m₂ k₁.task) 0 ≡ more → named_after m₂ k₁.task ≡ not (eqb (head_word m₂ 3) 0) →
        ltb (quarter (min k₁.pages 4294967296)) (kept k₁ w₁ m₂) ≡ ltb (128 * s.pages) (live + row + 128 * length tips + more)
    kept_is k₁ w₁ m₂ h₁ t₁ ws₂ d spot₁ r desk live row more live_is row_is more_is named_is =
        ap₂ ltb quarter_is (ap₂ (λ x y. capped (capped (capped (x + slice_index (row_of m₂) 1) + y) + pick (eqb w₁.found 0) (more_kept k₁ m₂ k₁.task) 0)) live_is names ∙ ap₂ (λ x y. capped (capped (capped (capped live + x) + 128 * length tips) + y)) (ap (λ x. slice_index x 1) desk.row ∙ row_is) more_is)
        ∙ weighs_alike (128 * s.pages) live row (128 * length tips) more (omega (arith, most))
      where
        quarter_is : quarter (min k₁.pages 4294967296) ≡ 128 * s.pages
        quarter_is = ap (λ x. quarter (min x 4294967296)) r.pages_are ∙ omega (arith, most)

        names : pick (named_after m₂ k₁.task) 128 0 ≡ 128 * length tips
        names = ap (λ x. pick x 128 0) (named_is ∙ ap (λ i. not (eqb i 0)) (head_word_is h₁ ws₂ d m₂ 3 (omega arith) desk)) ∙ go spot₁.shelf.tip
          where
            go : Numbered spot₁.number t₁ (tip_root h₁) tips → pick (not (eqb (tip_root h₁) 0)) 128 0 ≡ 128 * length tips
            go (inl (z, e)) = ap (λ i. pick (not (eqb i 0)) 128 0) z ∙ ap (λ ks. 128 * length ks) (sym e)
            go (inr (one, kind, e)) = ap (λ x. pick (not x) 128 0) (some_root (tip_root h₁) one) ∙ ap (λ ks. 128 * length ks) (sym e)

    -- REFUSED FOR ROOM, where another tree in work would weigh too much
    refused_full : (h t m text : List ℕ) (a : Command) → spelled a ≡ text → fits a ≡ true → noting a ≡ true → (old u : Tree) → Here h t →
        turn s.sum w c (clone_at w.clones c) a ≡ yes_with [] w.book w c (keeping u tips) → ltb (128 * s.pages) (weight w.book (keeping u tips)) ≡ true →
        Does (controlling s.sum) n (Stop w []) (End w [] 8) (control_hears s.sum k m text) h t (last_page h) [] →
        Answered (control_client s.sum) (Remembers s.pages) (Stands s.sum s.pages) s n things c w k m h t text
    unfolding Allowed Said KnownAllowed
    refused_full h t m text a sp ft known old u spot turned heavy does =
        record {
          rows = [];
          reply = 8;
          after = w;
          allowed = λ ls up. inl (a, (sp, ft), ap (λ (q : Command → Bool). q a) known_is ∙ known, inr (inl (refl, refl, refl, ap (λ (x : Turn). x.reply) turned, grows, more)));
          does = does;
        }
      where
        weighs : weight (turn s.sum w c (clone_at w.clones c) a).next.book (clone_at (turn s.sum w c (clone_at w.clones c) a).next.clones c) ≡ weight w.book (keeping u tips)
        weighs = ap (λ (v : Turn). weight v.next.book (clone_at v.next.clones c)) turned ∙ ap (weight w.book) (clone_at_same w.clones c (keeping u tips) lt)

        more : 128 * s.pages < weight (turn s.sum w c (clone_at w.clones c) a).next.book (clone_at (turn s.sum w c (clone_at w.clones c) a).next.clones c)
        more = let x : 128 * s.pages < weight w.book (keeping u tips) = ltb-true (128 * s.pages) (weight w.book (keeping u tips)) heavy in omega (arith, weighs, x)

        grows : weight w.book (clone_at w.clones c) < weight (turn s.sum w c (clone_at w.clones c) a).next.book (clone_at (turn s.sum w c (clone_at w.clones c) a).next.clones c)
        grows = let x : weight w.book (clone_at w.clones c) ≡ weight w.book (keeping tree tips) = ap (weight w.book) clone_is in omega (arith, more, x, spot.shelf.weight)

    -- tasks that show nothing once their head is published
    abbrev pub Quiet : Task → Type 0
    Quiet task = (k₁ : Control) (m₁ : List ℕ) → published_by k₁ m₁ task ≡ asked k₁ m₁ Done

    quietly : (Stop₁ : List ℕ → List ℕ → Rows → Type 0) (End₁ : Control → List ℕ → List ℕ → List ℕ → ℕ → Rows → ℕ → Type 0) (k₁ : Control) (m₁ h₁ t₁ : List ℕ) (laid : ℕ) (ss : Rows) → Quiet k₁.task →
        End₁ k₁ m₁ h₁ t₁ laid ss 0 → Well s.sum n Stop₁ End₁ (published_by k₁ m₁ k₁.task) h₁ t₁ laid ss
    quietly Stop₁ End₁ k₁ m₁ h₁ t₁ laid ss quiet end =
        subst (λ (x : Asked Control). Well s.sum n Stop₁ End₁ x h₁ t₁ laid ss) (sym (quiet k₁ m₁)) (finishes (asked k₁ m₁ Done) h₁ t₁ laid ss 0 refl (omega arith) end)

    module _ (h t m text : List ℕ) (long : length m ≡ bulk_cells) (win : Window n h t (last_page h)) (spot : Here h t)
        (slack : last_page h + 2097152 * things + 2097152 ≤ 18014398509481984) where
      abbrev Out : Type 0
      Out = Answered (control_client s.sum) (Remembers s.pages) (Stands s.sum s.pages) s n things c w k m h t text

      -- A TREE IS LAID AND PUBLISHED as the tree in work
      lays_work : (u : Tree) (k₁ : Control) (m₁ ws₁ d h₁ t₁ rs : List ℕ) (page : ℕ) (number : ℕ → ℕ) → Quiet k₁.task → Remembers s.pages c k₁ → Desk h₁ ws₁ d m₁ → drop 4 h₁ ≡ zeros 28 →
          length t₁ ≡ 64 * page → first_page h₁ ≤ page → Heap t₁ (8 * first_page h₁) (8 * page) rs → Stored s.sum w.book number t₁ rs → ((r : ℕ) → has (references ws₁) r ≡ true → Live t₁ rs r) →
          ((r : ℕ) → has (references ws₁) r ≡ true → FileAt s.sum t₁ r) → RowOf (bytes_at t₁) ws₁ u → Numbered number t₁ (tip_root h₁) tips → (1 ≤ tip_root h₁ → Live t₁ rs (tip_root h₁)) →
          weight w.book (keeping u tips) ≤ 128 * s.pages → page + pages_of (length (squeezed ws₁)) + reserve s.pages ≤ first_page h₁ + n →
          page + pages_of (length (squeezed ws₁)) + 2097152 * things ≤ 18014398509481984 →
          Well s.sum n (Stop (after_with u) []) (End (after_with u) [] 0) (lay_tree k₁ m₁ page) h₁ t₁ page []
      lays_work u k₁ m₁ ws₁ d h₁ t₁ rs page number quiet r desk others tl from heap stored live files row tip tip_there light room bound =
          lays_tree s.sum n (Stop (after_with u) []) (End (after_with u) [] 0) k₁ ws₁ d m₁ h₁ t₁ page [] desk (head_long h₁ others) from (omega (arith, room)) (omega (arith, bound))
          (λ x xl front. (
            stops_after (after_with u) [] [] [] refl new_head (t₁ ++ x) (shelf x xl front).whole (stands x xl front),
            λ p pg rt m₂ l₂.
                quietly (Stop (after_with u) []) (End (after_with u) [] 0) (laying p pg rt k₁) m₂ new_head (t₁ ++ x) (page + pages_of (length (squeezed ws₁))) [] quiet
                (ends_after (after_with u) [] 0 (page + pages_of (length (squeezed ws₁))) (laying p pg rt k₁) m₂ new_head (t₁ ++ x) (record { house = r.house; pages_are = r.pages_are }) (shelf x xl front).whole
                (stands x xl front)),
          ))
        where
          new_head : List ℕ
          new_head = first_page h₁ ∷ (page + pages_of (length (squeezed ws₁))) ∷ (8 * page + 1) ∷ tip_root h₁ ∷ drop 4 h₁

          shelf : (x : List ℕ) → length x ≡ 64 * pages_of (length (squeezed ws₁)) → take (length (squeezed ws₁)) x ≡ squeezed ws₁ →
              Shelf s.sum s.pages w.book number (first_page h₁ ∷ (page + pages_of (length (squeezed ws₁))) ∷ (8 * page + 1) ∷ tip_root h₁ ∷ drop 4 h₁) (t₁ ++ x) u tips
          shelf x xl front =
              shelf_over s.sum s.pages w.book number page h₁ t₁ ws₁ rs x u tips texts tl (omega (arith, from)) heap stored live files row tip tip_there xl front light (omega (arith, room, size)) others

          stands : (x : List ℕ) → length x ≡ 64 * pages_of (length (squeezed ws₁)) → take (length (squeezed ws₁)) x ≡ squeezed ws₁ →
              Stands s.sum s.pages things c (after_with u) (first_page h₁ ∷ (page + pages_of (length (squeezed ws₁))) ∷ (8 * page + 1) ∷ tip_root h₁ ∷ drop 4 h₁) (t₁ ++ x)
          stands x xl front = stands_in w.book u tips new_head (t₁ ++ x) number (shelf x xl front) bound

      -- LEAVE: the tree of the branch's commit, if there is room for it, or the empty one
      turned_left : turn s.sum w c (clone_at w.clones c) leave ≡ yes_with [] w.book w c (keeping (tree_of w.book tips) tips)
      unfolding turn
      turned_left =
          ap (λ (x : Clone). yes_with [] w.book w c (with_work x (tree_of w.book (tip x)) [] [])) clone_is
          ∙ ap (λ ks. yes_with [] w.book w c (keeping (tree_of w.book ks) tips)) (tip_is tree tips (few_tips h t spot))

      module _ (e : parsed text ≡ Some leave) (sp : spelled leave ≡ text) where
        abbrev u : Tree
        u = tree_of w.book tips

        -- the head that names it is published
        puts_back : (k₁ : Control) (m₁ ws₁ h₁ t₁ : List ℕ) (r : ℕ) → k₁.task ≡ Leave → Remembers s.pages c k₁ → Desk h₁ ws₁ (drop path_at m) m₁ → Here h₁ t₁ → WorkAt s.sum t₁ r (tree_of w.book tips) →
            (1 ≤ r → Live t₁ (roots_of h₁) r) → weight w.book (keeping (tree_of w.book tips) tips) ≤ 128 * s.pages →
            Well s.sum n (Stop (after_with (tree_of w.book tips)) []) (End (after_with (tree_of w.book tips)) [] 0) (publish k₁ m₁ (last_page h₁) r (tip_root h₁)) h₁ t₁ (last_page h₁) []
        puts_back k₁ m₁ ws₁ h₁ t₁ r task remembers desk spot₁ work live light =
            publishes_head s.sum n (Stop (after_with u) []) (End (after_with u) [] 0) k₁ ws₁ (drop path_at m) m₁ h₁ t₁ (last_page h₁) (last_page h₁) r (tip_root h₁) [] desk
            (head_long h₁ spot₁.shelf.others) spot₁.rises (omega arith) (stops_after (after_with u) [] [] [] refl head t₁ spot₁.shelf.whole stands)
            (λ m₂ l₂.
            quietly (Stop (after_with u) []) (End (after_with u) [] 0) (at_phase Publishing k₁) m₂ head t₁ (last_page h₁) [] (λ k₂ m₃. ap (published_by k₂ m₃) task)
            (ends_after (after_with u) [] 0 (last_page h₁) (at_phase Publishing k₁) m₂ head t₁ (record { house = remembers.house; pages_are = remembers.pages_are }) spot₁.shelf.whole stands))
          where
            head : List ℕ
            head = first_page h₁ ∷ last_page h₁ ∷ r ∷ tip_root h₁ ∷ drop 4 h₁

            stands : Stands s.sum s.pages things c (after_with (tree_of w.book tips)) (first_page h₁ ∷ last_page h₁ ∷ r ∷ tip_root h₁ ∷ drop 4 h₁) t₁
            stands =
                stands_in w.book u tips head t₁ spot₁.number (shelf_moved s.sum s.pages w.book spot₁.number h₁ t₁ tree u tips r spot₁.shelf work live light) (omega (arith, spot₁.slack))

        -- however it ends
        leaves_as : (Stop₁ : List ℕ → List ℕ → Rows → Type 0) (End₁ : Control → List ℕ → List ℕ → List ℕ → ℕ → Rows → ℕ → Type 0) → ((h₁ t₁ : List ℕ) → Here h₁ t₁ → Stop₁ h₁ t₁ []) →
            ((k₁ : Control) (m₁ h₁ t₁ : List ℕ) → k₁.task ≡ Leave → Remembers s.pages c k₁ → Desk h₁ (row_of m) (drop path_at m) m₁ → Here h₁ t₁ → tips ≡ [] →
            tip_root h₁ ≡ 0 → Well s.sum n Stop₁ End₁ (publish k₁ m₁ (last_page h₁) 0 (tip_root h₁)) h₁ t₁ (last_page h₁) []) →
            ((k₁ : Control) (m₁ ws₁ h₁ t₁ : List ℕ) (spot₁ : Here h₁ t₁) → k₁.task ≡ Leave → k₁.root ≡ tree_named (object_at t₁ (tip_root h₁)) → Remembers s.pages c k₁ → Desk h₁ (over 0 (0 ∷ weight_of (tree_of w.book tips) ∷ []) ws₁) (drop path_at m) m₁ →
            1 ≤ tip_root h₁ → Well s.sum n Stop₁ End₁ (survey k₁ m₁) h₁ t₁ (last_page h₁) []) →
            Well s.sum n Stop₁ End₁ (control_hears s.sum k m text) h t (last_page h) []
        leaves_as Stop₁ End₁ stop none some =
            subst (λ (x : Asked Control). Well s.sum n Stop₁ End₁ x h t (last_page h) []) (sym (says m text leave long e))
            (hears Stop₁ End₁ (hearing Leave 0 no_sum k) m h t knows.pages_are long win spot slack stop
            (λ v m₁ h₁ t₁ spot₁ desk room. go (at_phase Recalling (sweeping (hearing Leave 0 no_sum k) v)) m₁ h₁ t₁ spot₁ desk refl (record { house = knows.house; pages_are = knows.pages_are }) spot₁.shelf.tip))
          where
            go : (k₁ : Control) (m₁ h₁ t₁ : List ℕ) (spot₁ : Here h₁ t₁) → Desk h₁ (row_of m) (drop path_at m) m₁ → k₁.task ≡ Leave → Remembers s.pages c k₁ → Numbered spot₁.number t₁ (tip_root h₁) tips →
                Well s.sum n Stop₁ End₁ (started s.sum k₁ m₁ Leave) h₁ t₁ (last_page h₁) []
            go k₁ m₁ h₁ t₁ spot₁ desk task r (inl (z, q)) =
                subst (λ (x : Asked Control). Well s.sum n Stop₁ End₁ x h₁ t₁ (last_page h₁) [])
                (sym (pick_true (eqb (head_word m₁ 3) 0) (publish k₁ m₁ (head_word m₁ 1) 0 0) (ask_tip k₁ m₁) (eq-eqb (head_word m₁ 3) 0 (word 3 (omega arith) ∙ z))))
                (subst₂ (λ i l. Well s.sum n Stop₁ End₁ (publish k₁ m₁ i 0 l) h₁ t₁ (last_page h₁) []) (sym (word 1 (omega arith))) z (none k₁ m₁ h₁ t₁ task r desk spot₁ q z))
              where
                word : (i : ℕ) → i < 32 → head_word m₁ i ≡ get_or h₁ i 0
                word i lt = head_word_is h₁ (row_of m) (drop path_at m) m₁ i lt desk
            go k₁ m₁ h₁ t₁ spot₁ desk task r (inr (one, kind, q)) =
                subst (λ (x : Asked Control). Well s.sum n Stop₁ End₁ x h₁ t₁ (last_page h₁) [])
                (sym (pick_false (eqb (head_word m₁ 3) 0) (publish k₁ m₁ (head_word m₁ 1) 0 0) (ask_tip k₁ m₁) (ap (λ i. eqb i 0) word ∙ some_root (tip_root h₁) one)))
                (asks_tip Stop₁ End₁ k₁ (row_of m) (drop path_at m) m₁ h₁ t₁ [] desk spot₁ one
                (λ m₂ desk₂.
                subst (λ (x : Task). Well s.sum n Stop₁ End₁ (under_tip s.sum (coming_from (sum_key (id s.sum w.book (spot₁.number (tip_root h₁)))) (at_phase OpeningTip k₁)) m₂ (tree_named (object_at t₁ (tip_root h₁))) (weight_of (tree_of w.book tips)) x) h₁ t₁ (last_page h₁) []) (sym task)
                (some (rooted (tree_named (object_at t₁ (tip_root h₁))) (coming_from (sum_key (id s.sum w.book (spot₁.number (tip_root h₁)))) (at_phase OpeningTip k₁)))
                (over row_at (0 ∷ weight_of (tree_of w.book tips) ∷ []) m₂) (row_of m) h₁ t₁ spot₁ task refl (record { house = r.house; pages_are = r.pages_are })
                (desk_row_front h₁ (row_of m) (drop path_at m) m₂ (0 ∷ weight_of (tree_of w.book tips) ∷ []) (omega arith) desk₂) one)))
              where
                word : head_word m₁ 3 ≡ tip_root h₁
                word = head_word_is h₁ (row_of m) (drop path_at m) m₁ 3 (omega arith) desk

        -- the survey: what the branch's commit comes from, with that commit's tree in place of the one in work
        module _ (k₁ : Control) (m₁ ws₁ h₁ t₁ : List ℕ) (spot₁ : Here h₁ t₁) (task : k₁.task ≡ Leave) (root_is : k₁.root ≡ tree_named (object_at t₁ (tip_root h₁))) (r : Remembers s.pages c k₁)
            (desk : Desk h₁ (over 0 (0 ∷ weight_of (tree_of w.book tips) ∷ []) ws₁) (drop path_at m) m₁) (one : 1 ≤ tip_root h₁) where
          abbrev tip_roots : List ℕ
          tip_roots = tip_root h₁ ∷ zeros 6

          the_tip : (kind_of (object_at t₁ (tip_root h₁)) ≡ 3) × (tips ≡ spot₁.number (tip_root h₁) ∷ [])
          the_tip = numbered_is spot₁.number t₁ (tip_root h₁) tips spot₁.shelf.tip one

          only_tip : (q : ℕ) → 1 ≤ q → has tip_roots q ≡ true → q ≡ tip_root h₁
          only_tip q some i = ⊎_elim (λ (z : tip_root h₁ ≡ q). sym z) (λ z. absurd (no_zeros 6 q some z)) (has_cases (tip_root h₁) q (zeros 6) i)

          tip_roots_live : (q : ℕ) → 1 ≤ q → has tip_roots q ≡ true → Live t₁ (roots_of h₁) q
          tip_roots_live q some i = subst (Live t₁ (roots_of h₁)) (sym (only_tip q some i)) (tip_live s.sum s.pages w.book spot₁.number h₁ t₁ tree tips spot₁.shelf one)

          tip_stored : Stored s.sum w.book spot₁.number t₁ tip_roots
          tip_stored = stored_part s.sum w.book spot₁.number t₁ (roots_of h₁) tip_roots tip_roots_live spot₁.shelf.stored

          tip_among : (q : ℕ) → 1 ≤ q → has tip_roots q ≡ true → Among spot₁.number t₁ tips (each (λ f. f.bytes) (tree_of w.book tips)) q
          tip_among q some i =
              let e : q ≡ tip_root h₁ = only_tip q some i in
              inl (ap (λ x. kind_of (object_at t₁ x)) e ∙ the_tip.0, subst (In (spot₁.number q)) (sym the_tip.1) (inl (ap spot₁.number (sym e))))

          tip_in : (q : ℕ) → In q tips → CommitThere spot₁.number t₁ tip_roots q
          tip_in q i =
              let x = numbered_in spot₁.number t₁ (tip_root h₁) tips spot₁.shelf.tip q i in
              (tip_root h₁, root (tip_root h₁) x.0 (in_has tip_roots (tip_root h₁) (inl refl)), x.1, x.2)

          tree_there : (f : List ℕ) → In f (each (λ x. x.bytes) (tree_of w.book tips)) → FileThere t₁ tip_roots f
          unfolding tree_of
          tree_there f i =
              let q : ℕ = spot₁.number (tip_root h₁) in
              commit_file_there s.sum w.book spot₁.number t₁ tip_roots tips (each (λ x. x.bytes) (tree_of w.book tips)) grown texts tip_stored tip_among tip_in f
              (in_flat (λ k. each (λ x. x.bytes) (nth w.book k).tree) (back w.book tips) q f (back_self w.book tips q grown (subst (In q) (sym the_tip.1) (inl refl)))
              (subst (λ ks. In f (each (λ x. x.bytes) (tree_of w.book ks))) the_tip.1 i))

          left_weighs : (ls : List ℕ) → Lives t₁ tip_roots ls → weight w.book (keeping (tree_of w.book tips) tips) ≡ weights t₁ ls + weight_of (tree_of w.book tips) + 128 * length tips + 0
          left_weighs ls lives =
              let a = keeping_weighs w.book (tree_of w.book tips) tips (few_tips h₁ t₁ spot₁) in
              let b =
              live_weighs s.sum w.book spot₁.number t₁ tip_roots tips (each (λ f. f.bytes) (tree_of w.book tips)) grown texts tip_stored tip_among tip_in
              (tips_once s.sum s.pages w.book spot₁.number h₁ t₁ tree tips spot₁.shelf) ls lives tree_there in
              a ∙ ap (λ x. x + weight_of (tree_of w.book tips) + 128 * length tips) (sym b) ∙ omega arith

          left_roots : take 7 (drop 41155 m₁) ++ references (row_of m₁) ≡ tip_roots
          left_roots =
              row_roots h₁ (over 0 (0 ∷ weight_of (tree_of w.book tips) ∷ []) ws₁) (drop path_at m) m₁ desk spot₁.shelf.others (head_long h₁ spot₁.shelf.others)
              ∙ ap (λ x. (tip_root h₁ ∷ zeros 6) ++ x) (none_named (weight_of (tree_of w.book tips)) (drop (0 + 2) ws₁)) ∙ append-nil (tip_root h₁ ∷ zeros 6)

          surveys_tip : (Stop₁ : List ℕ → List ℕ → Rows → Type 0) (End₁ : Control → List ℕ → List ℕ → List ℕ → ℕ → Rows → ℕ → Type 0) →
              ((w₁ : Walk) (m₂ : List ℕ) → Desk h₁ (over 0 (0 ∷ weight_of (tree_of w.book tips) ∷ []) ws₁) (drop path_at m) m₂ →
              ltb (quarter (min k₁.pages 4294967296)) (kept k₁ w₁ m₂) ≡ ltb (128 * s.pages) (weight w.book (keeping (tree_of w.book tips) tips)) →
              Well s.sum n Stop₁ End₁ (surveyed k₁ w₁ m₂) h₁ t₁ (last_page h₁) []) →
              Well s.sum n Stop₁ End₁ (survey k₁ m₁) h₁ t₁ (last_page h₁) []
          surveys_tip Stop₁ End₁ on =
              surveys s.sum n Stop₁ End₁ k₁ (over 0 (0 ∷ weight_of (tree_of w.book tips) ∷ []) ws₁) (drop path_at m) m₁ h₁ t₁ tip_roots [] desk (ap (λ x. survey_roots x m₁) task ∙ left_roots)
              (inl (ap kind_sought task)) spot₁.shelf.whole (small_spot h₁ t₁ spot₁) spot₁.rises (near h₁ t₁ spot₁)
              (heap_part t₁ (8 * first_page h₁) (8 * last_page h₁) (roots_of h₁) tip_roots tip_roots_live spot₁.shelf.heap)
              (λ w₁ m₂ marked desk₂.
              on w₁ m₂ desk₂
              (kept_is k₁ w₁ m₂ h₁ t₁ (over 0 (0 ∷ weight_of (tree_of w.book tips) ∷ []) ws₁) (drop path_at m) spot₁ r desk₂ (weights t₁ marked.lives) (weight_of (tree_of w.book tips)) 0 marked.weight_is refl
              (ap (λ x. pick (eqb w₁.found 0) (more_kept k₁ m₂ x) 0) task ∙ pick_both (λ x. x ≡ 0) (eqb w₁.found 0) 0 0 (λ _. refl) (λ _. refl)) (ap (named_after m₂) task)
              ∙ ap (ltb (128 * s.pages)) (sym (left_weighs marked.lives marked.are_live))))

        pub leaves : Out
        unfolding fits noting tree_of weight_of added_up
        leaves = go (ltb (128 * s.pages) (weight w.book (keeping (tree_of w.book tips) tips))) refl
          where
            done : ltb (128 * s.pages) (weight w.book (keeping (tree_of w.book tips) tips)) ≡ false → Out
            done light =
                comes_out h t m text leave sp refl refl (yes_with [] w.book w c (keeping (tree_of w.book tips) tips)) turned_left
                (leaves_as (Stop (after_with u) []) (End (after_with u) [] 0) (stops_before (after_with u) [])
                (λ k₁ m₁ h₁ t₁ task r desk spot₁ none z. puts_back k₁ m₁ (row_of m) h₁ t₁ 0 task r desk spot₁ (inl (refl, ap (tree_of w.book) none)) (λ one. absurd (omega arith)) (ltb-false (128 * s.pages) (weight w.book (keeping u tips)) light))
                (λ k₁ m₁ ws₁ h₁ t₁ spot₁ task root_is r desk one.
                surveys_tip k₁ m₁ ws₁ h₁ t₁ spot₁ task root_is r desk one (Stop (after_with u) []) (End (after_with u) [] 0)
                (λ w₁ m₂ desk₂ full_is.
                subst (λ (x : Asked Control). Well s.sum n (Stop (after_with u) []) (End (after_with u) [] 0) x h₁ t₁ (last_page h₁) [])
                (sym (pick_false (ltb (quarter (min k₁.pages 4294967296)) (kept k₁ w₁ m₂)) _ _ (full_is ∙ light) ∙ ap (settled (surveying k₁ w₁) w₁ m₂) task
                ∙ ap₂ (λ i j. publish (surveying k₁ w₁) m₂ i k₁.root j) (head_word_is h₁ _ (drop path_at m) m₂ 1 (omega arith) desk₂) (head_word_is h₁ _ (drop path_at m) m₂ 3 (omega arith) desk₂)
                ∙ ap (λ i. publish (surveying k₁ w₁) m₂ (last_page h₁) i (tip_root h₁)) root_is))
                (puts_back (surveying k₁ w₁) m₂ (over 0 (0 ∷ weight_of u ∷ []) ws₁) h₁ t₁ (tree_named (object_at t₁ (tip_root h₁))) task (record { house = r.house; pages_are = r.pages_are }) desk₂ spot₁ (tip_tree h₁ t₁ spot₁ one)
                (tip_tree_live h₁ t₁ spot₁ one) (ltb-false (128 * s.pages) (weight w.book (keeping u tips)) light)))))

            full : ltb (128 * s.pages) (weight w.book (keeping (tree_of w.book tips) tips)) ≡ true → Out
            full heavy =
                refused_full h t m text leave sp refl refl tree (tree_of w.book tips) spot turned_left heavy
                (leaves_as (Stop w []) (End w [] 8) (stops_before w [])
                (λ k₁ m₁ h₁ t₁ task r desk spot₁ none z. absurd (not_empty none))
                (λ k₁ m₁ ws₁ h₁ t₁ spot₁ task root_is r desk one.
                surveys_tip k₁ m₁ ws₁ h₁ t₁ spot₁ task root_is r desk one (Stop w []) (End w [] 8)
                (λ w₁ m₂ desk₂ full_is.
                subst (λ (x : Asked Control). Well s.sum n (Stop w []) (End w [] 8) x h₁ t₁ (last_page h₁) []) (sym (pick_true (ltb (quarter (min k₁.pages 4294967296)) (kept k₁ w₁ m₂)) _ _ (full_is ∙ heavy)))
                (finishes (asked (surveying k₁ w₁) m₂ (Refuse 8)) h₁ t₁ (last_page h₁) [] 8 refl (omega arith) (ends_before [] 8 (surveying k₁ w₁) m₂ h₁ t₁ (record { house = r.house; pages_are = r.pages_are }) spot₁)))))
              where
                -- the empty tree is not too heavy
                not_empty : tips ≡ [] → ⊥
                not_empty none =
                    let lighter : weight w.book (keeping (tree_of w.book tips) tips) ≤ weight w.book (keeping tree tips) =
                    subst (λ ks. weight w.book (keeping (tree_of w.book ks) tips) ≤ weight w.book (keeping tree tips)) (sym none)
                    (weighs_within w.book tree [] tips (few_tips h t spot) (λ x i. absurd i) (omega arith)) in
                    let more : 128 * s.pages < weight w.book (keeping (tree_of w.book tips) tips) = ltb-true (128 * s.pages) (weight w.book (keeping (tree_of w.book tips) tips)) heavy in
                    omega (arith, lighter, more, spot.shelf.weight)

            go : (b : Bool) → ltb (128 * s.pages) (weight w.book (keeping (tree_of w.book tips) tips)) ≡ b → Out
            go true heavy = full heavy
            go false light = done light

      -- READ
      module _ (p : List ℕ) (good : proper p ≡ true) (e : parsed text ≡ Some (read_file p)) (sp : spelled (read_file p) ≡ text) (ft : fits (read_file p) ≡ true) where
        said : Aside p (path_put p m)
        said = path_aside p m long (and_parts (good_path p) (all_bytes p) good).0

        -- by what is found in work, whatever is shown and however it ends
        reads_as : (f : List (List ℕ)) → found tree p ≡ f →
            ((Stop : List ℕ → List ℕ → Rows → Type 0) (End : Control → List ℕ → List ℕ → List ℕ → ℕ → Rows → ℕ → Type 0) →
            ((h₁ t₁ : List ℕ) → Here h₁ t₁ → Stop h₁ t₁ []) →
            ((k₁ : Control) (ws₁ d m₁ h₁ t₁ : List ℕ) → Remembers s.pages c k₁ → Here h₁ t₁ → Desk h₁ ws₁ d m₁ → references ws₁ ≡ files_named t₁ (work_root h₁) →
            (o : Option ℕ) → find_in p ws₁ ≡ o → each (bytes_at t₁) (listed o) ≡ f → Well s.sum n Stop End (opened k₁ m₁ o) h₁ t₁ (last_page h₁) []) →
            Well s.sum n Stop End (control_hears s.sum k m text) h t (last_page h) [])
        reads_as f is Stop End stop opens =
            subst (λ (x : Asked Control). Well s.sum n Stop End x h t (last_page h) []) (sym (says m text (read_file p) long e))
            (hears Stop End (hearing Read 0 no_sum k) (path_put p m) h t knows.pages_are said.long win spot slack stop
            (λ v m₁ h₁ t₁ spot₁ desk room.
            let k₁ : Control = at_phase Recalling (sweeping (hearing Read 0 no_sum k) v) in
            loads Stop End k₁ (row_of (path_put p m)) (drop path_at (path_put p m)) m₁ h₁ t₁ [] desk spot₁
            (λ q ws₁ m₂ desk₂ row names.
            subst (λ (o : Option ℕ). Well s.sum n Stop End (opened (at_phase q k₁) m₂ o) h₁ t₁ (last_page h₁) [])
            (find_by_key p ws₁ good ∙ sym (ap₂ (λ x y. reference_in (found (entries_of x) y)) desk₂.row (path_key_is h₁ ws₁ (drop path_at (path_put p m)) m₂ desk₂ ∙ said.key)))
            (opens (at_phase q k₁) ws₁ (drop path_at (path_put p m)) m₂ h₁ t₁ (record { house = knows.house; pages_are = knows.pages_are }) spot₁ desk₂ names (find_in p ws₁) refl
            (find_right (bytes_at t₁) ws₁ tree p row good ∙ is)))))

        turned_read : (f : List (List ℕ)) → found tree p ≡ f →
            turn s.sum w c (clone_at w.clones c) (read_file p) ≡ pick (none_of f) (no 3 w) (yes_with f w.book w c (clone_at w.clones c))
        unfolding turn
        turned_read f is =
            ap (λ (x : Clone). pick (none_of (found x.work p)) (no 3 w) (yes_with (found x.work p) w.book w c (clone_at w.clones c))) clone_is
            ∙ ap (λ (x : List (List ℕ)). pick (none_of x) (no 3 w) (yes_with x w.book w c (clone_at w.clones c))) is

        pub reads : (f : List (List ℕ)) → found tree p ≡ f → Out
        unfolding noting StopStands EndStands
        reads [] is =
            comes_out h t m text (read_file p) sp ft refl (no 3 w) (turned_read [] is)
            (reads_as [] is (Stop w []) (End w [] 3) (stops_before w []) opens)
          where
            opens : (k₁ : Control) (ws₁ d m₁ h₁ t₁ : List ℕ) → Remembers s.pages c k₁ → Here h₁ t₁ → Desk h₁ ws₁ d m₁ → references ws₁ ≡ files_named t₁ (work_root h₁) →
                (o : Option ℕ) → find_in p ws₁ ≡ o → each (bytes_at t₁) (listed o) ≡ [] → Well s.sum n (Stop w []) (End w [] 3) (opened k₁ m₁ o) h₁ t₁ (last_page h₁) []
            opens k₁ ws₁ d m₁ h₁ t₁ r spot₁ desk names None fe none = finishes (asked k₁ m₁ (Refuse 3)) h₁ t₁ (last_page h₁) [] 3 refl (omega arith) (ends_before [] 3 k₁ m₁ h₁ t₁ r spot₁)
            opens k₁ ws₁ d m₁ h₁ t₁ r spot₁ desk names (Some q) fe none = absurd (omega (arith, ap length none))
        reads (b ∷ bs) is =
            comes_out h t m text (read_file p) sp ft refl (yes_with (b ∷ bs) w.book w c (clone_at w.clones c)) (turned_read (b ∷ bs) is)
            (reads_as (b ∷ bs) is (Stop same_after (b ∷ bs)) (End same_after (b ∷ bs) 0) (stops_before same_after (b ∷ bs)) opens)
          where
            opens : (k₁ : Control) (ws₁ d m₁ h₁ t₁ : List ℕ) → Remembers s.pages c k₁ → Here h₁ t₁ → Desk h₁ ws₁ d m₁ → references ws₁ ≡ files_named t₁ (work_root h₁) →
                (o : Option ℕ) → find_in p ws₁ ≡ o → each (bytes_at t₁) (listed o) ≡ b ∷ bs → Well s.sum n (Stop same_after (b ∷ bs)) (End same_after (b ∷ bs) 0) (opened k₁ m₁ o) h₁ t₁ (last_page h₁) []
            opens k₁ ws₁ d m₁ h₁ t₁ r spot₁ desk names None fe some = absurd (omega (arith, ap length some))
            opens k₁ ws₁ d m₁ h₁ t₁ r spot₁ desk names (Some q) fe some =
                shows_file s.sum n (Stop same_after (b ∷ bs)) (End same_after (b ∷ bs) 0) k₁ ws₁ d m₁ h₁ t₁ (last_page h₁) q [] desk spot₁.shelf.whole (small_spot h₁ t₁ spot₁) (file_placed h₁ t₁ spot₁ q there)
                (work_file_at s.sum s.pages w.book spot₁.number h₁ t₁ tree tips spot₁.shelf q there)
                (([], append-nil (bytes_at t₁ q ∷ []) ∙ some), (w, inl refl, subst (Stands s.sum s.pages things c w h₁) (sym (all_published h₁ t₁ spot₁.shelf.whole)) (stands_at h₁ t₁ spot₁)))
                (λ z m₂. (some, refl, subst (Stands s.sum s.pages things c same_after h₁) (sym (all_published h₁ t₁ spot₁.shelf.whole)) (stands_same h₁ t₁ spot₁), record { house = r.house; pages_are = r.pages_are }))
              where
                there : has (files_named t₁ (work_root h₁)) q ≡ true
                there = ap (λ x. has x q) (sym names) ∙ find_references p ws₁ q fe

      -- STATUS: what differs from the tree of the branch's commit
      module _ (e : parsed text ≡ Some status) (sp : spelled status ≡ text) where
        abbrev differences : Rows
        differences = flat (mark (tree_of w.book tips) tree) (paths (both (tree_of w.book tips) tree))

        turned_status : turn s.sum w c (clone_at w.clones c) status ≡ yes_with differences w.book w c (clone_at w.clones c)
        unfolding turn
        turned_status =
            ap (λ (x : Clone). yes_with (flat (mark (tree_of w.book (tip x)) x.work) (paths (both (tree_of w.book (tip x)) x.work)) ++ each (λ q. 4 ∷ q) x.unsettled) w.book w c (clone_at w.clones c)) clone_is
            ∙ ap (λ (x : Rows). yes_with x w.book w c (clone_at w.clones c)) (append-nil (flat (mark (tree_of w.book (tip (keeping tree tips))) tree) (paths (both (tree_of w.book (tip (keeping tree tips))) tree))))
            ∙ ap (λ ks. yes_with (flat (mark (tree_of w.book ks) tree) (paths (both (tree_of w.book ks) tree))) w.book w c (clone_at w.clones c)) (tip_is tree tips (few_tips h t spot))

        -- both trees are in their rows: the differences are shown
        shows : (q : Phase) (k₁ : Control) (os ws₁ m₁ h₁ t₁ : List ℕ) → Remembers s.pages c k₁ → (spot₁ : Here h₁ t₁) → Desk h₁ ws₁ (drop path_at m) m₁ → old_row_of m₁ ≡ os →
            RowOf (bytes_at t₁) os (tree_of w.book tips) → RowOf (bytes_at t₁) ws₁ tree → RowApart (bytes_at t₁) os ws₁ →
            Well s.sum n (Stop same_after differences) (End same_after differences 0) (compare (at_phase q (comparing (cursor 0 0) k₁)) m₁) h₁ t₁ (last_page h₁) []
        shows q k₁ os ws₁ m₁ h₁ t₁ r spot₁ desk old_is old_row row apart =
            compares s.sum n (Stop same_after differences) (End same_after differences 0) k₁ ws₁ os (drop path_at m) h₁ t₁ (last_page h₁) differences
            (λ a b is. stops_shown same_after differences a b is h₁ t₁ spot₁)
            (λ z x m₂. ends_same differences 0 (at_phase z (comparing x k₁)) m₂ h₁ t₁ (record { house = r.house; pages_are = r.pages_are }) spot₁)
            (length (tree_of w.book tips) + length tree) q (cursor 0 0) m₁ [] few (all_of (suc (length (tree_of w.book tips) + length tree)) (omega arith)) desk old_is
          where
            all_of : (i : ℕ) → length (tree_of w.book tips) + length tree ≤ i → each (shown os ws₁) (answers i os ws₁ (cursor 0 0)) ≡ differences
            all_of i enough = differ_right (bytes_at t₁) os ws₁ (tree_of w.book tips) tree i old_row row apart enough

            few : length (answers (suc (length (tree_of w.book tips) + length tree)) os ws₁ (cursor 0 0)) ≤ length (tree_of w.book tips) + length tree
            few =
                omega (
                  arith,
                  length_each (shown os ws₁) (answers (suc (length (tree_of w.book tips) + length tree)) os ws₁ (cursor 0 0)),
                  length_each (shown os ws₁) (answers (length (tree_of w.book tips) + length tree) os ws₁ (cursor 0 0)),
                  ap length (all_of (suc (length (tree_of w.book tips) + length tree)) (omega arith)),
                  ap length (all_of (length (tree_of w.book tips) + length tree) (omega arith)),
                  answers_few (length (tree_of w.book tips) + length tree) os ws₁ (cursor 0 0),
                )

        -- the other tree is loaded beside the one in work
        beside : (k₁ : Control) (ws₁ m₁ h₁ t₁ : List ℕ) (r : ℕ) → k₁.task ≡ Status → k₁.cursor ≡ cursor 0 0 → Remembers s.pages c k₁ → (spot₁ : Here h₁ t₁) → Desk h₁ ws₁ (drop path_at m) m₁ →
            RowOf (bytes_at t₁) ws₁ tree → references ws₁ ≡ files_named t₁ (work_root h₁) → WorkAt s.sum t₁ r (tree_of w.book tips) → (1 ≤ r → Live t₁ (roots_of h₁) r) →
            Well s.sum n (Stop same_after differences) (End same_after differences 0) (load_old s.sum k₁ m₁ r) h₁ t₁ (last_page h₁) []
        beside k₁ ws₁ m₁ h₁ t₁ r task at remembers spot₁ desk row names work live =
            loads_tip (Stop same_after differences) (End same_after differences 0) r k₁ ws₁ (drop path_at m) m₁ h₁ t₁ [] desk spot₁ work live
            (λ p os m₂ desk₂ old_is old_row old_names.
            subst (λ (x : Asked Control). Well s.sum n (Stop same_after differences) (End same_after differences 0) x h₁ t₁ (last_page h₁) [])
            (sym (ap (against s.sum (at_phase p k₁) m₂) task ∙ ap (λ x. compare (control k₁.house k₁.houses k₁.pages k₁.task p k₁.bytes k₁.sum k₁.page k₁.root x k₁.version k₁.sweep k₁.walk) m₂) at))
            (shows p k₁ os ws₁ m₂ h₁ t₁ remembers spot₁ desk₂ old_is old_row row (rows_apart h₁ t₁ spot₁ os ws₁ r names old_names work live)))

        pub tells : Out
        unfolding fits noting tree_of
        tells =
            comes_out h t m text status sp refl refl (yes_with differences w.book w c (clone_at w.clones c)) turned_status
            (subst (λ (x : Asked Control). Well s.sum n Stop₁ End₁ x h t (last_page h) []) (sym (says m text status long e))
            (hears Stop₁ End₁ (hearing Status 0 no_sum k) m h t knows.pages_are long win spot slack (stops_before same_after differences)
            (λ v m₁ h₁ t₁ spot₁ desk room.
            let k₁ : Control = at_phase Recalling (sweeping (hearing Status 0 no_sum k) v) in
            loads Stop₁ End₁ k₁ (row_of m) (drop path_at m) m₁ h₁ t₁ [] desk spot₁
            (λ q ws₁ m₂ desk₂ row names. go (at_phase q k₁) ws₁ m₂ h₁ t₁ refl refl (record { house = knows.house; pages_are = knows.pages_are }) spot₁ desk₂ row names spot₁.shelf.tip))))
          where
            Stop₁ : List ℕ → List ℕ → Rows → Type 0
            Stop₁ = Stop same_after differences

            End₁ : Control → List ℕ → List ℕ → List ℕ → ℕ → Rows → ℕ → Type 0
            End₁ = End same_after differences 0

            go : (k₁ : Control) (ws₁ m₁ h₁ t₁ : List ℕ) → k₁.task ≡ Status → k₁.cursor ≡ cursor 0 0 → Remembers s.pages c k₁ → (spot₁ : Here h₁ t₁) → Desk h₁ ws₁ (drop path_at m) m₁ →
                RowOf (bytes_at t₁) ws₁ tree → references ws₁ ≡ files_named t₁ (work_root h₁) → Numbered spot₁.number t₁ (tip_root h₁) tips →
                Well s.sum n Stop₁ End₁ (loaded s.sum k₁ m₁ Status) h₁ t₁ (last_page h₁) []
            go k₁ ws₁ m₁ h₁ t₁ task at r spot₁ desk row names (inl (z, none)) =
                subst (λ (x : Asked Control). Well s.sum n Stop₁ End₁ x h₁ t₁ (last_page h₁) [])
                (sym (pick_true (eqb (head_word m₁ 3) 0) (load_old s.sum k₁ m₁ 0) (ask_tip k₁ m₁) (eq-eqb (head_word m₁ 3) 0 (head_word_is h₁ ws₁ (drop path_at m) m₁ 3 (omega arith) desk ∙ z))))
                (beside k₁ ws₁ m₁ h₁ t₁ 0 task at r spot₁ desk row names (inl (refl, ap (tree_of w.book) none)) (λ one. absurd (omega arith)))
            go k₁ ws₁ m₁ h₁ t₁ task at r spot₁ desk row names (inr (one, kind, e)) =
                subst (λ (x : Asked Control). Well s.sum n Stop₁ End₁ x h₁ t₁ (last_page h₁) [])
                (sym (pick_false (eqb (head_word m₁ 3) 0) (load_old s.sum k₁ m₁ 0) (ask_tip k₁ m₁) (ap (λ i. eqb i 0) (head_word_is h₁ ws₁ (drop path_at m) m₁ 3 (omega arith) desk) ∙ some_root (tip_root h₁) one)))
                (asks_tip Stop₁ End₁ k₁ ws₁ (drop path_at m) m₁ h₁ t₁ [] desk spot₁ one
                (λ m₂ desk₂.
                let k₂ : Control = coming_from (sum_key (id s.sum w.book (spot₁.number (tip_root h₁)))) (at_phase OpeningTip k₁) in
                subst (λ (x : Task). Well s.sum n Stop₁ End₁ (under_tip s.sum k₂ m₂ (tree_named (object_at t₁ (tip_root h₁))) (weight_of (tree_of w.book tips)) x) h₁ t₁ (last_page h₁) []) (sym task)
                (beside k₂ ws₁ m₂ h₁ t₁ (tree_named (object_at t₁ (tip_root h₁))) task at (record { house = r.house; pages_are = r.pages_are }) spot₁ desk₂ row names (tip_tree h₁ t₁ spot₁ one) (tip_tree_live h₁ t₁ spot₁ one))))

      -- DROP
      module _ (p : List ℕ) (good : proper p ≡ true) (e : parsed text ≡ Some (drop_file p)) (sp : spelled (drop_file p) ≡ text) (ft : fits (drop_file p) ≡ true) where
        put_aside : Aside p (path_put p m)
        put_aside = path_aside p m long (and_parts (good_path p) (all_bytes p) good).0

        d : List ℕ
        d = drop path_at (path_put p m)

        -- however it ends, if what comes after loading goes well
        drops_as : (Stop : List ℕ → List ℕ → Rows → Type 0) (End : Control → List ℕ → List ℕ → List ℕ → ℕ → Rows → ℕ → Type 0) →
            ((h₁ t₁ : List ℕ) → Here h₁ t₁ → Stop h₁ t₁ []) →
            ((k₁ : Control) (ws₁ m₁ h₁ t₁ : List ℕ) → k₁.task ≡ Drop → Remembers s.pages c k₁ → Here h₁ t₁ → Desk h₁ ws₁ (drop path_at (path_put p m)) m₁ → RowOf (bytes_at t₁) ws₁ tree →
            references ws₁ ≡ files_named t₁ (work_root h₁) → 2 * reserve s.pages + (last_page h₁ - first_page h₁) ≤ n → Well s.sum n Stop End (loaded s.sum k₁ m₁ Drop) h₁ t₁ (last_page h₁) []) →
            Well s.sum n Stop End (control_hears s.sum k m text) h t (last_page h) []
        drops_as Stop End stop on =
            subst (λ (x : Asked Control). Well s.sum n Stop End x h t (last_page h) []) (sym (says m text (drop_file p) long e))
            (hears Stop End (hearing Drop 0 no_sum k) (path_put p m) h t knows.pages_are put_aside.long win spot slack stop
            (λ v m₁ h₁ t₁ spot₁ desk room.
            let k₁ : Control = at_phase Recalling (sweeping (hearing Drop 0 no_sum k) v) in
            loads Stop End k₁ (row_of (path_put p m)) (drop path_at (path_put p m)) m₁ h₁ t₁ [] desk spot₁
            (λ q ws₁ m₂ desk₂ row names. on (at_phase q k₁) ws₁ m₂ h₁ t₁ refl (record { house = knows.house; pages_are = knows.pages_are }) spot₁ desk₂ row names (room refl))))

        turned_drop : (f : List (List ℕ)) → found tree p ≡ f →
            turn s.sum w c (clone_at w.clones c) (drop_file p) ≡ pick (none_of f) (no 3 w) (yes_with [] w.book w c (keeping (without p tree) tips))
        unfolding turn
        turned_drop f is =
            ap (λ (x : Clone). pick (none_of (found x.work p)) (no 3 w) (yes_with [] w.book w c (with_work x (without p x.work) x.joining (drop_path p x.unsettled)))) clone_is
            ∙ ap (λ (x : List (List ℕ)). pick (none_of x) (no 3 w) (yes_with [] w.book w c (keeping (without p tree) tips))) is

        -- whether it is there, in the row
        there : (ws₁ m₁ h₁ t₁ : List ℕ) (f : List (List ℕ)) → found tree p ≡ f → Desk h₁ ws₁ (drop path_at (path_put p m)) m₁ → RowOf (bytes_at t₁) ws₁ tree → has_key (path_key m₁) (row_of m₁) ≡ not (none_of f)
        there ws₁ m₁ h₁ t₁ f is desk row =
            ap₂ has_key (path_key_is h₁ ws₁ (drop path_at (path_put p m)) m₁ desk ∙ put_aside.key) desk.row ∙ (take_row (bytes_at t₁) ws₁ p tree row good).0
            ∙ ap (λ x. not (none_of x)) is

        pub drops : (f : List (List ℕ)) → found tree p ≡ f → Out
        unfolding noting
        drops [] is =
            comes_out h t m text (drop_file p) sp ft refl (no 3 w) (turned_drop [] is)
            (drops_as (Stop w []) (End w [] 3) (stops_before w [])
            (λ k₁ ws₁ m₁ h₁ t₁ task r spot₁ desk row names room.
            subst (λ (x : Asked Control). Well s.sum n (Stop w []) (End w [] 3) x h₁ t₁ (last_page h₁) []) (sym (pick_false (has_key (path_key m₁) (row_of m₁)) _ _ (there ws₁ m₁ h₁ t₁ [] is desk row)))
            (finishes (asked k₁ m₁ (Refuse 3)) h₁ t₁ (last_page h₁) [] 3 refl (omega arith) (ends_before [] 3 k₁ m₁ h₁ t₁ r spot₁))))
        drops (b ∷ bs) is =
            comes_out h t m text (drop_file p) sp ft refl (yes_with [] w.book w c (keeping (without p tree) tips)) (turned_drop (b ∷ bs) is)
            (drops_as Stop₁ End₁ (stops_before (after_with (without p tree)) [])
            (λ k₁ ws₁ m₁ h₁ t₁ task r spot₁ desk row names room.
            subst (λ (x : Asked Control). Well s.sum n Stop₁ End₁ x h₁ t₁ (last_page h₁) []) (sym (pick_true (has_key (path_key m₁) (row_of m₁)) _ _ (there ws₁ m₁ h₁ t₁ (b ∷ bs) is desk row)))
            (on k₁ ws₁ m₁ h₁ t₁ task r spot₁ desk row names room)))
          where
            Stop₁ : List ℕ → List ℕ → Rows → Type 0
            Stop₁ = Stop (after_with (without p tree)) []

            End₁ : Control → List ℕ → List ℕ → List ℕ → ℕ → Rows → ℕ → Type 0
            End₁ = End (after_with (without p tree)) [] 0

            light : weight w.book (keeping (without p tree) tips) ≤ 128 * s.pages
            light = let x = weighs_less w.book p tree tips (few_tips h t spot) (ap none_of is) in omega (arith, x, spot.shelf.weight)

            on : (k₁ : Control) (ws₁ m₁ h₁ t₁ : List ℕ) → k₁.task ≡ Drop → Remembers s.pages c k₁ → Here h₁ t₁ → Desk h₁ ws₁ (drop path_at (path_put p m)) m₁ → RowOf (bytes_at t₁) ws₁ tree →
                references ws₁ ≡ files_named t₁ (work_root h₁) → 2 * reserve s.pages + (last_page h₁ - first_page h₁) ≤ n →
                Well s.sum n Stop₁ End₁ (lay_tree k₁ (with_row (take_key (path_key m₁) (entry_weight m₁) (row_of m₁)) m₁) (head_word m₁ 1)) h₁ t₁ (last_page h₁) []
            on k₁ ws₁ m₁ h₁ t₁ task r spot₁ desk row names room =
                subst₂ (λ x i. Well s.sum n Stop₁ End₁ (lay_tree k₁ (with_row x m₁) i) h₁ t₁ (last_page h₁) []) (sym taken) (sym (head_word_is h₁ ws₁ (drop path_at (path_put p m)) m₁ 1 (omega arith) desk))
                (lays_work (without p tree) k₁ (with_row ws₂ m₁) ws₂ (drop path_at (path_put p m)) h₁ t₁ (roots_of h₁) (last_page h₁) spot₁.number (λ k₂ m₃. ap (published_by k₂ m₃) task) r
                (desk_row h₁ ws₁ ws₂ (drop path_at (path_put p m)) m₁ (length_take_key (key_of p) ws₁ (64 + length p) ∙ row_long h₁ ws₁ (drop path_at (path_put p m)) m₁ desk) desk)
                spot₁.shelf.others spot₁.shelf.whole spot₁.rises spot₁.shelf.heap spot₁.shelf.stored
                (λ q i. file_live s.sum s.pages w.book spot₁.number h₁ t₁ tree tips spot₁.shelf q (was q i)) (λ q i. work_file_at s.sum s.pages w.book spot₁.number h₁ t₁ tree tips spot₁.shelf q (was q i)) row₂ spot₁.shelf.tip
                (tip_live s.sum s.pages w.book spot₁.number h₁ t₁ tree tips spot₁.shelf) light (omega (arith, few_pages, room, spot₁.rises)) (omega (arith, few_pages, reserve_small s.pages most, spot₁.slack)))
              where
                ws₂ : List ℕ
                ws₂ = take_key (key_of p) (64 + length p) ws₁

                taken : take_key (path_key m₁) (entry_weight m₁) (row_of m₁) ≡ take_key (key_of p) (64 + length p) ws₁
                taken =
                    ap₂ (λ x y. take_key x (entry_weight m₁) y) (path_key_is h₁ ws₁ (drop path_at (path_put p m)) m₁ desk ∙ put_aside.key) desk.row
                    ∙ ap (λ i. take_key (key_of p) i ws₁) (weight_on_desk h₁ ws₁ (drop path_at (path_put p m)) m₁ desk ∙ weight_aside p (path_put p m) put_aside good)

                row₂ : RowOf (bytes_at t₁) (take_key (key_of p) (64 + length p) ws₁) (without p tree)
                row₂ = (take_row (bytes_at t₁) ws₁ p tree row good).1

                was : (q : ℕ) → has (references (take_key (key_of p) (64 + length p) ws₁)) q ≡ true → has (files_named t₁ (work_root h₁)) q ≡ true
                was q i = ap (λ x. has x q) (sym names) ∙ take_references (key_of p) ws₁ (64 + length p) q i

                few_pages : pages_of (length (squeezed (take_key (key_of p) (64 + length p) ws₁))) ≤ reserve s.pages
                few_pages = tree_pages (bytes_at t₁) s.pages ws₂ (without p tree) low row₂ (let x = work_within w.book (without p tree) tips (few_tips h t spot) in omega (arith, x, light))

      -- WRITE
      module _ (still : StillApart s.sum w c text)
          (p b : List ℕ) (good : proper p ≡ true) (short : a_text b ≡ true) (e : parsed text ≡ Some (write_file p b)) (sp : spelled (write_file p b) ≡ text)
          (ft : fits (write_file p b) ≡ true) where
        abbrev kept_back : List ℕ
        kept_back = bytes_put bytes_place b (path_put p m)

        text_short : length b < 65536
        text_short = (text_parts b short).0

        apart_aside : Aside p kept_back × (take (words_for (length b)) (drop 9 (drop path_at kept_back)) ≡ packed_bytes b)
        apart_aside = bytes_aside p b (path_put p m) text_short (path_aside p m long (and_parts (good_path p) (all_bytes p) good).0)

        size_said : weight_said (drop path_at kept_back) ≡ 64 + length p
        size_said = weight_aside p kept_back apart_aside.0 good

        -- what the registers hold of it
        record Writing (k₁ : Control) : Type 0 where
          remembers : Remembers s.pages c k₁
          task_is : k₁.task ≡ Write
          bytes_are : k₁.bytes ≡ length b
          sum_is : k₁.sum ≡ sum_key (s.sum b)

        turned_write : turn s.sum w c (clone_at w.clones c) (write_file p b) ≡ pick (ltb 4096 (length (put p b tree))) (no 10 w) (yes_with [] w.book w c (keeping (put p b tree) tips))
        unfolding turn
        turned_write =
            ap (λ (x : Clone). pick (ltb 4096 (length (put p b x.work))) (no 10 w) (yes_with [] w.book w c (with_work x (put p b x.work) x.joining (drop_path p x.unsettled)))) clone_is

        writes_as : (Stop : List ℕ → List ℕ → Rows → Type 0) (End : Control → List ℕ → List ℕ → List ℕ → ℕ → Rows → ℕ → Type 0) →
            ((h₁ t₁ : List ℕ) → Here h₁ t₁ → Stop h₁ t₁ []) →
            ((k₁ : Control) (ws₁ m₁ h₁ t₁ : List ℕ) → Writing k₁ → Here h₁ t₁ → Desk h₁ ws₁ (drop path_at kept_back) m₁ →
            RowOf (bytes_at t₁) ws₁ tree → references ws₁ ≡ files_named t₁ (work_root h₁) → 2 * reserve s.pages + (last_page h₁ - first_page h₁) ≤ n →
            Well s.sum n Stop End (loaded s.sum k₁ m₁ Write) h₁ t₁ (last_page h₁) []) →
            Well s.sum n Stop End (control_hears s.sum k m text) h t (last_page h) []
        writes_as Stop End stop on =
            subst (λ (x : Asked Control). Well s.sum n Stop End x h t (last_page h) []) (sym (says m text (write_file p b) long e))
            (hears Stop End (hearing Write (length b) (sum_key (s.sum b)) k) kept_back h t knows.pages_are apart_aside.0.long win spot slack stop
            (λ v m₁ h₁ t₁ spot₁ desk room.
            let k₁ : Control = at_phase Recalling (sweeping (hearing Write (length b) (sum_key (s.sum b)) k) v) in
            loads Stop End k₁ (row_of kept_back) (drop path_at kept_back) m₁ h₁ t₁ [] desk spot₁
            (λ q ws₁ m₂ desk₂ row names.
            on (at_phase q k₁) ws₁ m₂ h₁ t₁ (record { remembers = record { house = knows.house; pages_are = knows.pages_are }; task_is = refl; bytes_are = refl; sum_is = refl }) spot₁ desk₂ row names (room refl))))

        -- whether there is room for one file more, in the row
        roomy : (ws₁ m₁ h₁ t₁ : List ℕ) → Desk h₁ ws₁ (drop path_at kept_back) m₁ → RowOf (bytes_at t₁) ws₁ tree →
            room_for (path_key m₁) 0 (row_of m₁) ≡ leb (length (put p b tree)) 4096
        roomy ws₁ m₁ h₁ t₁ desk row =
            ap₂ (λ x y. room_for x 0 y) (path_key_is h₁ ws₁ (drop path_at kept_back) m₁ desk ∙ apart_aside.0.key) desk.row
            ∙ room_right (bytes_at t₁) ws₁ p b tree row good (row_long h₁ ws₁ (drop path_at kept_back) m₁ desk)

        -- too many files
        pub writes_none : ltb 4096 (length (put p b tree)) ≡ true → Out
        unfolding noting
        writes_none many =
            comes_out h t m text (write_file p b) sp ft refl (no 10 w) (turned_write ∙ pick_true (ltb 4096 (length (put p b tree))) _ _ many)
            (writes_as (Stop w []) (End w [] 10) (stops_before w [])
            (λ k₁ ws₁ m₁ h₁ t₁ r spot₁ desk row names room.
            subst (λ (x : Asked Control). Well s.sum n (Stop w []) (End w [] 10) x h₁ t₁ (last_page h₁) [])
            (sym (pick_false (room_for (path_key m₁) 0 (row_of m₁)) _ _ (roomy ws₁ m₁ h₁ t₁ desk row ∙ lt-leb (length (put p b tree)) 4096 (ltb-true 4096 (length (put p b tree)) many))))
            (finishes (asked k₁ m₁ (Refuse 10)) h₁ t₁ (last_page h₁) [] 10 refl (omega arith) (ends_before [] 10 k₁ m₁ h₁ t₁ r.remembers spot₁))))

        module _ (fits_in : ltb 4096 (length (put p b tree)) ≡ false) where
          few_files : length (put p b tree) ≤ 4096
          few_files = ltb-false 4096 (length (put p b tree)) fits_in

          turned_done : turn s.sum w c (clone_at w.clones c) (write_file p b) ≡ yes_with [] w.book w c (keeping (put p b tree) tips)
          turned_done = turned_write ∙ pick_false (ltb 4096 (length (put p b tree))) _ _ fits_in

          apart_files : (x y : List ℕ) → In x (all_files w.book ++ each (λ f. f.bytes) (put p b tree)) → In y (all_files w.book ++ each (λ f. f.bytes) (put p b tree)) → s.sum x ≡ s.sum y → x ≡ y
          unfolding StillApart Said
          apart_files =
              told_by s.sum w.book w.clones c (put p b tree) tips lt (subst (λ (v : Turn). told_apart s.sum v.next ≡ true) turned_done (still (write_file p b) (sp, ft)))

          -- the row in which the file has no reference yet is surveyed
          module _ (k₁ : Control) (ws₁ m₁ h₁ t₁ : List ℕ) (r : Writing k₁) (spot₁ : Here h₁ t₁) (desk : Desk h₁ ws₁ (drop path_at kept_back) m₁) (row : RowOf (bytes_at t₁) ws₁ tree)
              (names : references ws₁ ≡ files_named t₁ (work_root h₁)) where
            abbrev behind : List ℕ
            behind = drop path_at kept_back

            shelf₁ : Shelf s.sum s.pages w.book spot₁.number h₁ t₁ tree tips
            shelf₁ = spot₁.shelf

            few_there : length (put p b tree) ≤ room ws₁
            few_there = subst (λ i. length (put p b tree) ≤ i) (sym (row_room ws₁ (row_long h₁ ws₁ (drop path_at kept_back) m₁ desk))) few_files

            apart_there : (x y : List ℕ) → In x (commits_files w.book tips ++ each (λ f. f.bytes) (put p b tree)) → In y (commits_files w.book tips ++ each (λ f. f.bytes) (put p b tree)) → s.sum x ≡ s.sum y → x ≡ y
            apart_there x y i j = apart_files x y (all x i) (all y j)
              where
                all : (q : List ℕ) → In q (commits_files w.book tips ++ each (λ f. f.bytes) (put p b tree)) → In q (all_files w.book ++ each (λ f. f.bytes) (put p b tree))
                all q k =
                    ⊎_elim (λ v. in_left q (all_files w.book) (each (λ f. f.bytes) (put p b tree)) (reached_files w.book tips grown (tips_noted s.sum s.pages w.book spot₁.number h₁ t₁ tree tips spot₁.shelf) q v))
                    (λ v. in_right q (all_files w.book) (each (λ f. f.bytes) (put p b tree)) v) (in_append q (commits_files w.book tips) (each (λ f. f.bytes) (put p b tree)) k)

            abbrev unnamed_row : List ℕ
            unnamed_row = put_key (key_of p) (64 + length p) 0 ws₁

            abbrev write_roots : List ℕ
            write_roots = (tip_root h₁ ∷ zeros 6) ++ references (put_key (key_of p) (64 + length p) 0 ws₁)

            file_there : (q : ℕ) → has (references ws₁) q ≡ true → FileAt s.sum t₁ q
            file_there q i = work_file_at s.sum s.pages w.book spot₁.number h₁ t₁ tree tips spot₁.shelf q (ap (λ x. has x q) (sym names) ∙ i)

            live_there : (q : ℕ) → has (references ws₁) q ≡ true → Live t₁ (roots_of h₁) q
            live_there q i = file_live s.sum s.pages w.book spot₁.number h₁ t₁ tree tips spot₁.shelf q (ap (λ x. has x q) (sym names) ∙ i)

            all_live : (q : ℕ) → 1 ≤ q → has write_roots q ≡ true → Live t₁ (roots_of h₁) q
            all_live = roots_live s.sum sums s.pages w.book spot₁.number h₁ t₁ tree tips spot₁.shelf grown texts ws₁ p b row names good few_there (key_long p) apart_there

            -- what will be live
            write_stored : Stored s.sum w.book spot₁.number t₁ write_roots
            write_stored = stored_part s.sum w.book spot₁.number t₁ (roots_of h₁) write_roots all_live spot₁.shelf.stored

            write_heap : Heap t₁ (8 * first_page h₁) (8 * last_page h₁) write_roots
            write_heap = heap_part t₁ (8 * first_page h₁) (8 * last_page h₁) (roots_of h₁) write_roots all_live spot₁.shelf.heap

            live_write : (q : ℕ) → 1 ≤ q → has (references (put_key (key_of p) (64 + length p) 0 ws₁)) q ≡ true → Live t₁ write_roots q
            live_write q one i = root q one (in_has write_roots q (in_right q (tip_root h₁ ∷ zeros 6) (references unnamed_row) (has_in (references unnamed_row) q i)))

            tip_write : 1 ≤ tip_root h₁ → Live t₁ write_roots (tip_root h₁)
            tip_write one = root (tip_root h₁) one (in_has write_roots (tip_root h₁) (inl refl))

            -- what another reference for the file leaves named
            still_named : (q x : ℕ) → (q ≡ x → ⊥) → has (references (put_key (key_of p) (64 + length p) x ws₁)) q ≡ true → has (references (put_key (key_of p) (64 + length p) 0 ws₁)) q ≡ true
            still_named q x other i =
                ⊎_elim (λ e. absurd (other e)) (λ e. e)
                (put_references (key_of p) unnamed_row (64 + length p) x q (key_long p) (ap (λ y. has (references y) q) (put_key_again (key_of p) ws₁ (64 + length p) x 0 (key_long p)) ∙ i))

            -- a row with the file named, wherever it stands
            named_in : (x : ℕ) (m₂ ws₂ : List ℕ) → ws₂ ≡ put_key (key_of p) (64 + length p) 0 ws₁ → Desk h₁ ws₂ behind m₂ →
                Desk h₁ (put_key (key_of p) (64 + length p) x ws₁) behind (named_row x m₂)
            named_in x m₂ ws₂ is desk₂ =
                subst (λ y. Desk h₁ y behind (named_row x m₂))
                (ap₂ (λ y z. put_key y z x ws₂) apart_aside.0.key size_said ∙ ap (put_key (key_of p) (64 + length p) x) is ∙ put_key_again (key_of p) ws₁ (64 + length p) x 0 (key_long p))
                (names_file s.sum n (Stop w []) (End w [] 0) h₁ ws₂ behind m₂ x (ap length apart_aside.0.key ∙ key_long p) desk₂).1

            unnamed_desk : Desk h₁ (put_key (key_of p) (64 + length p) 0 ws₁) behind (named_row 0 m₁)
            unnamed_desk =
                subst (λ y. Desk h₁ y behind (named_row 0 m₁)) (ap₂ (λ y z. put_key y z 0 ws₁) apart_aside.0.key size_said)
                (names_file s.sum n (Stop w []) (End w [] 0) h₁ ws₁ behind m₁ 0 (ap length apart_aside.0.key ∙ key_long p) desk).1

            abbrev Surveyed : Walk → List ℕ → Type 0
            Surveyed w₁ m₂ = Marked t₁ write_roots (8 * first_page h₁) 1 (key_words (sum_key (s.sum b))) (named_row 0 m₁) w₁ m₂

            surveys_row : (Stop₁ : List ℕ → List ℕ → Rows → Type 0) (End₁ : Control → List ℕ → List ℕ → List ℕ → ℕ → Rows → ℕ → Type 0) →
                ((w₁ : Walk) (m₂ : List ℕ) → Surveyed w₁ m₂ → Desk h₁ (put_key (key_of p) (64 + length p) 0 ws₁) (drop path_at kept_back) m₂ → Well s.sum n Stop₁ End₁ (surveyed k₁ w₁ m₂) h₁ t₁ (last_page h₁) []) →
                room_for (path_key m₁) 0 (row_of m₁) ≡ true → Well s.sum n Stop₁ End₁ (loaded s.sum k₁ m₁ Write) h₁ t₁ (last_page h₁) []
            surveys_row Stop₁ End₁ on room =
                subst (λ (x : Asked Control). Well s.sum n Stop₁ End₁ x h₁ t₁ (last_page h₁) []) (sym (pick_true (room_for (path_key m₁) 0 (row_of m₁)) _ _ room))
                (surveys s.sum n Stop₁ End₁ k₁ unnamed_row behind (named_row 0 m₁) h₁ t₁ write_roots [] unnamed_desk
                (ap (λ x. survey_roots x (named_row 0 m₁)) r.task_is ∙ row_roots h₁ unnamed_row behind (named_row 0 m₁) unnamed_desk spot₁.shelf.others (head_long h₁ spot₁.shelf.others)) (inl (ap kind_sought r.task_is)) spot₁.shelf.whole
                (small_spot h₁ t₁ spot₁) spot₁.rises (near h₁ t₁ spot₁) (heap_part t₁ (8 * first_page h₁) (8 * last_page h₁) (roots_of h₁) write_roots all_live spot₁.shelf.heap)
                (λ w₁ m₂ marked desk₂.
                on w₁ m₂ (subst₂ (λ i x. Marked t₁ write_roots (8 * first_page h₁) i (key_words x) (named_row 0 m₁) w₁ m₂) (ap kind_sought r.task_is) r.sum_is marked) desk₂))

            -- what the survey says, as the plain weight says it
            module _ (w₁ : Walk) (m₂ : List ℕ) (marked : Surveyed w₁ m₂) (desk₂ : Desk h₁ (put_key (key_of p) (64 + length p) 0 ws₁) (drop path_at kept_back) m₂) where
              weighed : get_or (put_key (key_of p) (64 + length p) 0 ws₁) 1 0 ≡ weight_of (put p b tree)
              weighed = (unnamed_stands s.sum sums s.pages w.book spot₁.number h₁ t₁ tree tips spot₁.shelf grown texts ws₁ p b row names good few_there (key_long p) apart_there).weighed

              -- no file is there with its sum
              none_found : eqb w₁.found 0 ≡ true → (q : ℕ) → Live t₁ write_roots q → key_there 1 (key_words (sum_key (s.sum b))) (object_at t₁ q) ≡ false
              none_found z q l = marked.found_is.nowhere (eqb-true w₁.found 0 z) q l

              -- or one is there, and it has the bytes
              one_found : eqb w₁.found 0 ≡ false → Live t₁ write_roots w₁.found × (key_there 1 (key_words (sum_key (s.sum b))) (object_at t₁ w₁.found) ≡ true)
              one_found z = marked.found_is.there (omega (arith, eqb-false w₁.found 0 z))

              weight_now : (z : Bool) → eqb w₁.found 0 ≡ z → weight w.book (keeping (put p b tree) tips) ≡ weights t₁ marked.lives + weight_of (put p b tree) + 128 * length tips + pick z (64 + length b) 0
              weight_now true z =
                  weighs_more s.sum sums s.pages w.book spot₁.number h₁ t₁ tree tips spot₁.shelf grown texts ws₁ p b row names good few_there (key_long p) apart_there marked.lives marked.are_live (none_found z)
                  ∙ moved (weights t₁ marked.lives) (length b) (weight_of (put p b tree)) (128 * length tips)
                where
                  moved : (a i v u : ℕ) → (a + (64 + i)) + v + u ≡ a + v + u + (64 + i)
                  moved a i v u = omega arith
              weight_now false z =
                  weighs_found s.sum sums s.pages w.book spot₁.number h₁ t₁ tree tips spot₁.shelf grown texts ws₁ p b row names good few_there (key_long p) apart_there marked.lives marked.are_live w₁.found (one_found z).0 (one_found z).1
                  ∙ none_more (weights t₁ marked.lives) (weight_of (put p b tree)) (128 * length tips)
                where
                  none_more : (a v u : ℕ) → a + v + u ≡ a + v + u + 0
                  none_more a v u = omega arith

              full_is : ltb (quarter (min k₁.pages 4294967296)) (kept k₁ w₁ m₂) ≡ ltb (128 * s.pages) (weight w.book (keeping (put p b tree) tips))
              full_is =
                  kept_is k₁ w₁ m₂ h₁ t₁ (put_key (key_of p) (64 + length p) 0 ws₁) (drop path_at kept_back) spot₁ r.remembers desk₂ (weights t₁ marked.lives) (weight_of (put p b tree)) (pick (eqb w₁.found 0) (64 + length b) 0) marked.weight_is
                  weighed (ap (λ x. pick (eqb w₁.found 0) x 0) (ap (more_kept k₁ m₂) r.task_is ∙ ap (λ x. capped (64 + x)) r.bytes_are ∙ uncapped (length b) text_short)) (ap (named_after m₂) r.task_is)
                  ∙ ap (ltb (128 * s.pages)) (sym (weight_now (eqb w₁.found 0) refl))
                where
                  uncapped : (i : ℕ) → i < 65536 → capped (64 + i) ≡ 64 + i
                  uncapped i lt = omega arith

              -- NO ROOM
              refuses_full : (Stop₁ : List ℕ → List ℕ → Rows → Type 0) (End₁ : Control → List ℕ → List ℕ → List ℕ → ℕ → Rows → ℕ → Type 0) → ltb (128 * s.pages) (weight w.book (keeping (put p b tree) tips)) ≡ true →
                  End₁ (surveying k₁ w₁) m₂ h₁ t₁ (last_page h₁) [] 8 → Well s.sum n Stop₁ End₁ (surveyed k₁ w₁ m₂) h₁ t₁ (last_page h₁) []
              refuses_full Stop₁ End₁ full end =
                  subst (λ (x : Asked Control). Well s.sum n Stop₁ End₁ x h₁ t₁ (last_page h₁) []) (sym (pick_true (ltb (quarter (min k₁.pages 4294967296)) (kept k₁ w₁ m₂)) _ _ (full_is ∙ full)))
                  (finishes (asked (surveying k₁ w₁) m₂ (Refuse 8)) h₁ t₁ (last_page h₁) [] 8 refl (omega arith) end)

              -- ROOM: the file is there already, or it is laid
              module _ (light : ltb (128 * s.pages) (weight w.book (keeping (put p b tree) tips)) ≡ false) (roomy_ring : 2 * reserve s.pages + (last_page h₁ - first_page h₁) ≤ n) where
                abbrev Stopping : List ℕ → List ℕ → Rows → Type 0
                Stopping = Stop (after_with (put p b tree)) []

                abbrev Ending : Control → List ℕ → List ℕ → List ℕ → ℕ → Rows → ℕ → Type 0
                Ending = End (after_with (put p b tree)) [] 0

                within : weight w.book (keeping (put p b tree) tips) ≤ 128 * s.pages
                within = ltb-false (128 * s.pages) (weight w.book (keeping (put p b tree) tips)) light

                tree_within : weight_of (put p b tree) ≤ 128 * s.pages
                tree_within = let x = work_within w.book (put p b tree) tips (few_tips h t spot) in omega (arith, x, within)

                holds : Remembers s.pages c (surveying k₁ w₁)
                holds = record { house = r.remembers.house; pages_are = r.remembers.pages_are }

                quiet : Quiet k₁.task
                quiet k₂ m₃ = ap (published_by k₂ m₃) r.task_is

                -- the file is there already
                names_old : eqb w₁.found 0 ≡ false → Well s.sum n Stopping Ending (lay_tree (surveying k₁ w₁) (named_row w₁.found m₂) (last_page h₁)) h₁ t₁ (last_page h₁) []
                names_old z =
                    lays_work (put p b tree) (surveying k₁ w₁) (named_row w₁.found m₂) ws₂ behind h₁ t₁ (roots_of h₁) (last_page h₁) spot₁.number quiet holds (named_in w₁.found m₂ unnamed_row refl desk₂) spot₁.shelf.others
                    spot₁.shelf.whole spot₁.rises spot₁.shelf.heap spot₁.shelf.stored (λ q i. live_now q (cases q i)) (λ q i. file_now q (cases q i)) row₂ spot₁.shelf.tip (tip_live s.sum s.pages w.book spot₁.number h₁ t₁ tree tips spot₁.shelf) within
                    (omega (arith, few_pages, roomy_ring, spot₁.rises)) (omega (arith, few_pages, reserve_small s.pages most, spot₁.slack))
                  where
                    ws₂ : List ℕ
                    ws₂ = put_key (key_of p) (64 + length p) w₁.found ws₁

                    live : Live t₁ write_roots w₁.found × (key_there 1 (key_words (sum_key (s.sum b))) (object_at t₁ w₁.found) ≡ true)
                    live = one_found z

                    found_live : Live t₁ (roots_of h₁) w₁.found
                    found_live = live_part t₁ (roots_of h₁) write_roots all_live w₁.found live.0

                    cases : (q : ℕ) → has (references (put_key (key_of p) (64 + length p) w₁.found ws₁)) q ≡ true → (q ≡ w₁.found) ⊎ (has (references ws₁) q ≡ true)
                    cases q i = put_references (key_of p) ws₁ (64 + length p) w₁.found q (key_long p) i

                    live_now : (q : ℕ) → (q ≡ w₁.found) ⊎ (has (references ws₁) q ≡ true) → Live t₁ (roots_of h₁) q
                    live_now q (inl x) = subst (Live t₁ (roots_of h₁)) (sym x) found_live
                    live_now q (inr x) = live_there q x

                    file_now : (q : ℕ) → (q ≡ w₁.found) ⊎ (has (references ws₁) q ≡ true) → FileAt s.sum t₁ q
                    file_now q (inl x) =
                        subst (FileAt s.sum t₁) (sym x)
                        (found_file s.sum sums s.pages w.book spot₁.number h₁ t₁ tree tips spot₁.shelf grown texts ws₁ p b row names good few_there (key_long p) apart_there marked.lives marked.are_live w₁.found live.0 live.1)
                    file_now q (inr x) = file_there q x

                    row₂ : RowOf (bytes_at t₁) (put_key (key_of p) (64 + length p) w₁.found ws₁) (put p b tree)
                    row₂ =
                        put_row (bytes_at t₁) ws₁ p b tree w₁.found row good
                        (same_bytes s.sum sums s.pages w.book spot₁.number h₁ t₁ tree tips spot₁.shelf grown texts ws₁ p b row names good few_there (key_long p) apart_there marked.lives marked.are_live w₁.found live.0 live.1) few_there

                    few_pages : pages_of (length (squeezed (put_key (key_of p) (64 + length p) w₁.found ws₁))) ≤ reserve s.pages
                    few_pages = tree_pages (bytes_at t₁) s.pages ws₂ (put p b tree) low row₂ tree_within

                -- the file is new
                lays_new : eqb w₁.found 0 ≡ true → Well s.sum n Stopping Ending (lay_file (surveying k₁ w₁) m₂ (last_page h₁)) h₁ t₁ (last_page h₁) []
                lays_new z =
                    lays_file s.sum n Stopping Ending (surveying k₁ w₁) unnamed_row behind m₂ h₁ t₁ b (last_page h₁) [] desk₂ (ap length apart_aside.0.key ∙ key_long p) r.bytes_are r.sum_is text_short apart_aside.1
                    (omega (arith, both, roomy_ring, spot₁.rises)) (omega (arith, both, reserve_small s.pages most, spot₁.slack))
                    (λ x m₃ xl front desk₃. next x m₃ xl front (subst (λ y. Desk h₁ y behind m₃) row_is desk₃))
                  where
                    ws₂ : List ℕ
                    ws₂ = put_key (key_of p) (64 + length p) (8 * last_page h₁ + 1) ws₁

                    row_is : put_key (take 9 behind) (weight_said behind) (8 * last_page h₁ + 1) (put_key (key_of p) (64 + length p) 0 ws₁) ≡ put_key (key_of p) (64 + length p) (8 * last_page h₁ + 1) ws₁
                    row_is =
                        ap₂ (λ y v. put_key y v (8 * last_page h₁ + 1) (put_key (key_of p) (64 + length p) 0 ws₁)) apart_aside.0.key size_said ∙ put_key_again (key_of p) ws₁ (64 + length p) (8 * last_page h₁ + 1) 0 (key_long p)

                    -- no file that will be live has its bytes: it would have been found
                    fresh : (q : ℕ) → Live t₁ write_roots q → kind_of (object_at t₁ q) ≡ 1 → bytes_at t₁ q ≡ b → ⊥
                    fresh q l kind e =
                        absent s.sum sums s.pages w.book spot₁.number h₁ t₁ tree tips spot₁.shelf grown texts ws₁ p b row names good few_there (key_long p) apart_there marked.lives marked.are_live (none_found z) (q, l, kind, e)

                    weighs : weight w.book (keeping (put p b tree) tips) ≡ (weights t₁ marked.lives + 128 * length tips + (64 + length b)) + weight_of (put p b tree)
                    weighs = weight_now true z ∙ moved (weights t₁ marked.lives) (weight_of (put p b tree)) (128 * length tips) (64 + length b)
                      where
                        moved : (a v u i : ℕ) → a + v + u + i ≡ (a + u + i) + v
                        moved a v u i = omega arith

                    -- the row that names it stands for the new tree wherever the file's bytes are at its place
                    stands : ℕ → List ℕ
                    stands q = pick (eqb q (8 * last_page h₁ + 1)) b (bytes_at t₁ q)

                    below : (q : ℕ) → has (references ws₁) q ≡ true → q ≤ 8 * last_page h₁
                    below q i = let g : Placed t₁ (8 * first_page h₁) (8 * last_page h₁) q = spot₁.shelf.heap.placed q (live_there q i) in omega (arith, g.above, g.within, g.whole)

                    below_new : (q : ℕ) → has (references ws₁) q ≡ true → q ≡ 8 * last_page h₁ + 1 → ⊥
                    below_new q i e = let g : q ≤ 8 * last_page h₁ = below q i in absurd (omega (arith, e))

                    row_there : RowOf stands (put_key (key_of p) (64 + length p) (8 * last_page h₁ + 1) ws₁) (put p b tree)
                    row_there =
                        put_row stands ws₁ p b tree (8 * last_page h₁ + 1)
                        (row_stands (bytes_at t₁) stands ws₁ tree
                        (λ q i. sym (pick_false (eqb q (8 * last_page h₁ + 1)) b (bytes_at t₁ q) (ne_eqb q (8 * last_page h₁ + 1) (λ x. let g : q ≤ 8 * last_page h₁ = below q i in omega (arith, x))))) row)
                        good (pick_true (eqb (8 * last_page h₁ + 1) (8 * last_page h₁ + 1)) b (bytes_at t₁ (8 * last_page h₁ + 1)) (eq-eqb (8 * last_page h₁ + 1) (8 * last_page h₁ + 1) refl)) few_there

                    both : pages_of (length (file_of s.sum b)) + pages_of (length (squeezed (put_key (key_of p) (64 + length p) (8 * last_page h₁ + 1) ws₁))) ≤ reserve s.pages
                    both = file_pages stands s.sum s.pages (weights t₁ marked.lives + 128 * length tips) ws₂ b (put p b tree) low row_there text_short (omega (arith, weighs, within))

                    next : (x m₃ : List ℕ) → length x ≡ 64 * pages_of (length (file_of s.sum b)) → take (length (file_of s.sum b)) x ≡ file_of s.sum b →
                        Desk h₁ (put_key (key_of p) (64 + length p) (8 * last_page h₁ + 1) ws₁) behind m₃ →
                        Well s.sum n Stopping Ending
                        (lay_tree (laying LayingFile (last_page h₁ + pages_of (length (file_of s.sum b))) (surveying k₁ w₁).root (surveying k₁ w₁)) m₃ (last_page h₁ + pages_of (length (file_of s.sum b))))
                        h₁ (t₁ ++ x) (last_page h₁ + pages_of (length (file_of s.sum b))) []
                    next x m₃ xl front desk₃ =
                        lays_work (put p b tree) (laying LayingFile (last_page h₁ + pages_of (length (file_of s.sum b))) (surveying k₁ w₁).root (surveying k₁ w₁)) m₃ ws₂ behind h₁ (t₁ ++ x)
                        ((8 * last_page h₁ + 1) ∷ write_roots) (last_page h₁ + pages_of (length (file_of s.sum b))) spot₁.number quiet (record { house = holds.house; pages_are = holds.pages_are }) desk₃ spot₁.shelf.others
                        (omega (arith, length-append t₁ x, xl, spot₁.shelf.whole)) (omega (arith, spot₁.rises)) laid.heap laid.stored live_new file_new row_new (tip_now spot₁.shelf.tip) tip_new within
                        (omega (arith, both, roomy_ring, spot₁.rises)) (omega (arith, both, reserve_small s.pages most, spot₁.slack))
                      where
                        laid : FileLaid s.sum w.book spot₁.number t₁ write_roots b x (8 * first_page h₁) (last_page h₁) (pages_of (length (file_of s.sum b)))
                        laid =
                            file_laid s.sum w.book spot₁.number t₁ write_roots b (file_of s.sum b) x (8 * first_page h₁) (last_page h₁) texts spot₁.shelf.whole (omega (arith, spot₁.rises)) write_heap write_stored fresh short
                            (ap (λ y. file_object y (length b) (packed_bytes b)) (sum_words (s.sum b))) xl front

                        -- what the row names is the new file, or was named before
                        cases : (q : ℕ) → has (references (put_key (key_of p) (64 + length p) (8 * last_page h₁ + 1) ws₁)) q ≡ true → (q ≡ 8 * last_page h₁ + 1) ⊎ (has (references ws₁) q ≡ true)
                        cases q i = put_references (key_of p) ws₁ (64 + length p) (8 * last_page h₁ + 1) q (key_long p) i

                        tip_new : 1 ≤ tip_root h₁ → Live (t₁ ++ x) ((8 * last_page h₁ + 1) ∷ write_roots) (tip_root h₁)
                        tip_new one = laid.kept (tip_root h₁) (tip_write one)

                        tip_now : Numbered spot₁.number t₁ (tip_root h₁) tips → Numbered spot₁.number (t₁ ++ x) (tip_root h₁) tips
                        tip_now (inl q) = inl q
                        tip_now (inr (one, kind, q)) = inr (one, ap kind_of (laid.stays (tip_root h₁) (tip_write one)) ∙ kind, q)

                        live_new : (q : ℕ) → has (references (put_key (key_of p) (64 + length p) (8 * last_page h₁ + 1) ws₁)) q ≡ true → Live (t₁ ++ x) ((8 * last_page h₁ + 1) ∷ write_roots) q
                        live_new q i = go (cases q i)
                          where
                            go : (q ≡ 8 * last_page h₁ + 1) ⊎ (has (references ws₁) q ≡ true) → Live (t₁ ++ x) ((8 * last_page h₁ + 1) ∷ write_roots) q
                            go (inl y) = root q (omega (arith, y)) (or_left (eqb (8 * last_page h₁ + 1) q) (has write_roots q) (eq-eqb (8 * last_page h₁ + 1) q (sym y)))
                            go (inr y) = laid.kept q (live_write q (file_there q y).one (still_named q (8 * last_page h₁ + 1) (below_new q y) i))

                        file_new : (q : ℕ) → has (references (put_key (key_of p) (64 + length p) (8 * last_page h₁ + 1) ws₁)) q ≡ true → FileAt s.sum (t₁ ++ x) q
                        file_new q i = go (cases q i)
                          where
                            go : (q ≡ 8 * last_page h₁ + 1) ⊎ (has (references ws₁) q ≡ true) → FileAt s.sum (t₁ ++ x) q
                            go (inl y) = subst (FileAt s.sum (t₁ ++ x)) (sym y) laid.file
                            go (inr y) = laid.same_file q (live_write q (file_there q y).one (still_named q (8 * last_page h₁ + 1) (below_new q y) i)) (file_there q y)

                        row_new : RowOf (bytes_at (t₁ ++ x)) (put_key (key_of p) (64 + length p) (8 * last_page h₁ + 1) ws₁) (put p b tree)
                        row_new =
                            put_row (bytes_at (t₁ ++ x)) ws₁ p b tree (8 * last_page h₁ + 1)
                            (row_stands (bytes_at t₁) (bytes_at (t₁ ++ x)) ws₁ tree (λ q i. sym (bytes_alike t₁ (t₁ ++ x) q q (object_before t₁ x (8 * first_page h₁) (8 * last_page h₁) q (omega (arith, spot₁.shelf.whole)) (spot₁.shelf.heap.placed q (live_there q i))))) row)
                            good laid.bytes few_there

                settles : Well s.sum n Stopping Ending (surveyed k₁ w₁ m₂) h₁ t₁ (last_page h₁) []
                settles =
                    subst (λ (x : Asked Control). Well s.sum n Stopping Ending x h₁ t₁ (last_page h₁) [])
                    (sym (pick_false (ltb (quarter (min k₁.pages 4294967296)) (kept k₁ w₁ m₂)) _ _ (full_is ∙ light) ∙ ap (settled (surveying k₁ w₁) w₁ m₂) r.task_is))
                    (subst (λ i. Well s.sum n Stopping Ending (pick (eqb w₁.found 0) (lay_file (surveying k₁ w₁) m₂ i) (lay_tree (surveying k₁ w₁) (named_row w₁.found m₂) i)) h₁ t₁ (last_page h₁) [])
                    (sym (head_word_is h₁ unnamed_row behind m₂ 1 (omega arith) desk₂))
                    (pick_both (λ (x : Asked Control). Well s.sum n Stopping Ending x h₁ t₁ (last_page h₁) []) (eqb w₁.found 0) _ _ lays_new names_old))

          -- refused for room
          pub writes_full : ltb (128 * s.pages) (weight w.book (keeping (put p b tree) tips)) ≡ true → Out
          unfolding noting
          writes_full full =
              refused_full h t m text (write_file p b) sp ft refl tree (put p b tree) spot turned_done full
              (writes_as (Stop w []) (End w [] 8) (stops_before w [])
              (λ k₁ ws₁ m₁ h₁ t₁ r spot₁ desk row names room.
              surveys_row k₁ ws₁ m₁ h₁ t₁ r spot₁ desk row names (Stop w []) (End w [] 8)
              (λ w₁ m₂ marked desk₂.
              refuses_full k₁ ws₁ m₁ h₁ t₁ r spot₁ desk row names w₁ m₂ marked desk₂ (Stop w []) (End w [] 8) full
              (ends_before [] 8 (surveying k₁ w₁) m₂ h₁ t₁ (record { house = r.remembers.house; pages_are = r.remembers.pages_are }) spot₁))
              (roomy ws₁ m₁ h₁ t₁ desk row ∙ le-leb (length (put p b tree)) 4096 few_files)))

          -- done: the file is named where it is, or laid first; then the tree
          pub writes_done : ltb (128 * s.pages) (weight w.book (keeping (put p b tree) tips)) ≡ false → Out
          unfolding noting
          writes_done light =
              comes_out h t m text (write_file p b) sp ft refl (yes_with [] w.book w c (keeping (put p b tree) tips)) turned_done
              (writes_as (Stop (after_with (put p b tree)) []) (End (after_with (put p b tree)) [] 0) (stops_before (after_with (put p b tree)) [])
              (λ k₁ ws₁ m₁ h₁ t₁ r spot₁ desk row names room.
              surveys_row k₁ ws₁ m₁ h₁ t₁ r spot₁ desk row names (Stop (after_with (put p b tree)) []) (End (after_with (put p b tree)) [] 0)
              (λ w₁ m₂ marked desk₂. settles k₁ ws₁ m₁ h₁ t₁ r spot₁ desk row names w₁ m₂ marked desk₂ light room) (roomy ws₁ m₁ h₁ t₁ desk row ∙ le-leb (length (put p b tree)) 4096 few_files)))
