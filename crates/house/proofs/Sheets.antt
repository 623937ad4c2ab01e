-- How the house that keeps sheets in work goes on its tape, phase by phase, whatever is asked of stops and of the end. Assumes nothing.
use Rattle.std.proofs.Common.{◌≡◌, ℕ, zero, suc, ◌+◌, ◌-◌, ◌*◌, ◌/◌, ◌<◌, ◌≤◌, min, true, false, ◌&&◌, eqb, ◌⊎◌, ltb, leb, List, [], ◌∷◌, ◌++◌, length, get_or, take, drop, Some, None, Option, sym, refl, ap, ◌∙◌, subst, subst₂, ap₂, inl, inr, arith, append-nil, length-append, length-drop, length-take}
use Rattle.std.proofs.lemmas.List.{take_at, length-take-le, take-append-le, take-take, take-append-drop, drop-append-le, drop-drop, get_or-drop, get_or_append_left, append_assoc}
use Rattle.std.proofs.lemmas.Bool.{le-ltb, eq-eqb, ne_eqb, ltb-true, le-leb, leb-true, and_parts, and_from}
use lib.Seq.{take-append-add}
use Rattle.pages.specs.Lists.{each, zeros, added_up}
use Rattle.pages.specs.Object.{size_in, references_in, references_of, object_at}
use Rattle.pages.specs.Bytes.{all_bytes}
use Rattle.pages.specs.Words.{over, bytes_of, words}
use Rattle.pages.specs.Crash.{Rows}
use Rattle.pages.specs.Engine.{bulk_cells}
use Rattle.pages.specs.Machine.{Asked, asked, capped, buffer_words, wanted}
use Rattle.pages.specs.Tape.{first_page, last_page, published, Window, Does, recalls, opens, lays, publishes, rows, finishes}
use Rattle.pages.specs.declared.machine.Request.TheVariants.{Recall, Object, Lay, Publish, Show, Done, Refuse}
use Rattle.pages.proofs.ListLaws.{pick_true, pick_false, pick_both}
use Rattle.pages.proofs.WordLaws.{length_over, length_words, length_bytes_of, bytes_of_append, all_bytes_of}
use Rattle.pages.proofs.BytesLaws.{all_bytes_take}
use Rattle.objects.specs.Plan.{head_at, plan_end, rest_at}
use Rattle.objects.specs.Heap.{Heap, Lives, Placed, units_at, heading_at, keyed}
use Rattle.objects.specs.Marking.{key_words, walk, begun, sought, went_on, walked, Marked, Marks}
use Rattle.objects.specs.declared.mark.Walk.{Walk}
use Rattle.objects.proofs.MarkLaws.{marks}
use Rattle.objects.proofs.PartLaws.{part_before, part_inside, parts_stay}
use Rattle.objects.specs.Layouts.{words_for, words_at, packed_bytes, bytes_stand, file_object, file_read, bytes_put}
use Rattle.objects.proofs.LayoutLaws.{reads_back, bytes_back, put_all}
use Rattle.objects.specs.Sweeping.{roots_of, swung, sweep_went_on, Swept, Sweeps}
use Rattle.objects.specs.declared.sweep.Sweep.{Sweep}
use Rattle.objects.proofs.SweepLaws.{sweeps}
use Rattle.objects.proofs.PlanLaws.{part_of_append}
use Rattle.objects.proofs.RoomLaws.{object_heading}
use Rattle.trees.specs.Tree.{Tree}
use Rattle.trees.specs.Row.{room, held, cut, entries_of, reference_of, references, put_key}
use Rattle.trees.specs.RowOf.{RowOf}
use Rattle.trees.specs.Packed.{files_in, spread_fits, spread_into, squeezed, squeeze_into, squeeze_answer, packed_all}
use Rattle.trees.specs.StoredPromises.{TreeObject}
use Rattle.trees.proofs.ObjectLaws.{stored_objects}
use Rattle.trees.proofs.StoredLaws.{length_squeezed}
use Rattle.trees.proofs.RowParts.{length_spread_into, spread_references, length_put_key}
use Rattle.trees.specs.RowPromises.{EmptyRight}
use Rattle.trees.proofs.RowOfLaws.{empty_right}
use Rattle.trees.specs.Row.{path_of}
use Rattle.trees.specs.Differ.{difference_from, answers, shown}
use Rattle.trees.specs.declared.differences.Cursor.{Cursor}
use Rattle.trees.specs.declared.differences.Difference.{Difference}
use Rattle.trees.specs.declared.differences.Place.{Place}
use Rattle.trees.specs.declared.differences.Place.TheVariants.{New, Changed, Gone}
use Rattle.history.specs.Book.{Sum}
use Rattle.commands.specs.Command.{a_text}
use Rattle.house.specs.Control.{against, load_old, published_by, with_old_row, kind_sought, row_at, row_words, path_at, desk_end, row_of, with_row, emptied, head_word, at_phase, controlling, control_resumes, resumed, recalled, started, lays as lays_any, tight, sweeping, again, load, loaded, publish, new_head, pages_of, laid_from, laying, reference_at, squeezed_in, tree_put, lay_tree, named, file_in, lay_file, entry_weight, survey, survey_roots, surveyed, surveying, window_of, bytes_at as bytes_place, old_row_at, old_row_of, compare, compared, comparing, opened, file_came, sum_key}
use Rattle.house.specs.Shelf.{bytes_at, FileAt, TreeAt, WorkAt, tip_root, files_named}
use Rattle.house.specs.declared.control.Control.{Control}
use Rattle.house.specs.declared.control.Phase.{Phase}
use Rattle.house.specs.declared.control.Phase.TheVariants.{Recalling, Loading, LayingFile, LayingTree, Publishing, Opening, Showing, Comparing, LoadingOld}
use Rattle.house.proofs.DeskLaws.{part_alike, rest_alike, part_front, Desk, desk_front, desk_head, desk_map, desk_row, desk_row_front, desk_kept, row_long, head_word_is, path_key_is}

-- an object that stands in its place is as long as it says
pub object_long : (t : List ℕ) (lo hi r : ℕ) → 8 * hi ≤ length t → Placed t lo hi r → length (object_at t r) ≡ size_in (heading_at t r)
unfolding object_at
object_long t lo hi r fits q =
    length-take-le (size_in (heading_at t r)) (drop (8 * (r - 1)) t) (omega (arith, q.within, length-drop (8 * (r - 1)) t))

-- a text's length and bytes
pub text_parts : (b : List ℕ) → a_text b ≡ true → (length b < 65536) × (all_bytes b ≡ true)
text_parts b e = (ltb-true (length b) 65536 (and_parts (ltb (length b) 65536) (all_bytes b) e).0, (and_parts (ltb (length b) 65536) (all_bytes b) e).1)

-- bytes of a text have room behind the buffer
pub stands_there : (bytes : ℕ) (m : List ℕ) → bytes < 65536 → length m ≡ bulk_cells → bytes_stand 65535 bytes bytes_place m ≡ true
stands_there bytes m short long =
    and_from (leb plan_end (length m)) (leb bytes 65535 && (leb rest_at bytes_place && leb (bytes_place + words_for bytes) (length m)))
    (le-leb plan_end (length m) (omega arith))
    (and_from (leb bytes 65535) (leb rest_at bytes_place && leb (bytes_place + words_for bytes) (length m)) (le-leb bytes 65535 (omega arith))
    (le-leb (bytes_place + words_for bytes) (length m) (omega arith)))

pub some_root : (r : ℕ) → 1 ≤ r → eqb r 0 ≡ false
some_root r one = ne_eqb r 0 (λ z. omega arith)

-- what the head names beside the tree in work: the tip
tip_and_none : (h : List ℕ) → drop 4 h ≡ zeros 28 → length h ≡ 32 → take 7 (drop 3 h) ≡ tip_root h ∷ zeros 6
unfolding zeros
tip_and_none [] e l = absurd (omega arith)
tip_and_none (a ∷ []) e l = absurd (omega arith)
tip_and_none (a ∷ b ∷ []) e l = absurd (omega arith)
tip_and_none (a ∷ b ∷ c ∷ []) e l = absurd (omega arith)
tip_and_none (a ∷ b ∷ c ∷ d ∷ r) e l = ap (λ x. d ∷ take 6 x) e

-- what is shown of a difference
path_fits : (k : List ℕ) → (length (path_of k) ≤ 64) × (all_bytes (path_of k) ≡ true)
unfolding path_of
path_fits k = (
  omega (arith, length-take (get_or k 8 0) (bytes_of (take 8 k)), length_bytes_of (take 8 k), length-take 8 k),
  all_bytes_take (get_or k 8 0) (bytes_of (take 8 k)) (all_bytes_of (take 8 k)),
)

pub shown_fits : (xs ys : List ℕ) (v : Place) → (length (shown xs ys v) ≤ 65) × (all_bytes (shown xs ys v) ≡ true)
unfolding all_bytes
shown_fits xs ys (New j) = (omega (arith, (path_fits (take 9 (drop (10 * j + 2) ys))).0), (path_fits (take 9 (drop (10 * j + 2) ys))).1)
shown_fits xs ys (Changed j) = (omega (arith, (path_fits (take 9 (drop (10 * j + 2) ys))).0), (path_fits (take 9 (drop (10 * j + 2) ys))).1)
shown_fits xs ys (Gone i) = (omega (arith, (path_fits (take 9 (drop (10 * i + 2) xs))).0), (path_fits (take 9 (drop (10 * i + 2) xs))).1)

-- the answers, by the first one
unfoldable pub after : ℕ → List ℕ → List ℕ → Option Difference → List Place
after i xs ys o = elim o [ None ↦ [] | Some v ↦ v.place ∷ answers i xs ys v.next ]

pub answers_by : (i : ℕ) (xs ys : List ℕ) (c : Cursor) (o : Option Difference) → difference_from xs ys c ≡ o → answers (suc i) xs ys c ≡ after i xs ys o
unfolding answers after
answers_by i xs ys c o e = ap (after i xs ys) e

none_left : (i : ℕ) (xs ys : List ℕ) (c : Cursor) → difference_from xs ys c ≡ None → answers (suc i) xs ys c ≡ []
unfolding after
none_left i xs ys c e = answers_by i xs ys c None e

one_first : (i : ℕ) (xs ys : List ℕ) (c : Cursor) (v : Difference) → difference_from xs ys c ≡ Some v → answers (suc i) xs ys c ≡ v.place ∷ answers i xs ys v.next
unfolding after
one_first i xs ys c v e = answers_by i xs ys c (Some v) e

-- a file, as it is laid
abbrev pub file_of : Sum → List ℕ → List ℕ
file_of sum b = file_object (key_words (sum_key (sum b))) (length b) (packed_bytes b)

-- what an entry weighs at the path that was said
abbrev pub weight_said : List ℕ → ℕ
weight_said d = capped (64 + get_or d 8 0)

-- a row that says that it has no files names none
pub empty_names : (rest : List ℕ) → references (0 ∷ 0 ∷ rest) ≡ []
unfolding cut
empty_names rest = let e : held (0 ∷ 0 ∷ rest) ≡ 0 = omega arith in ap (λ i. each reference_of (cut i rest)) e

-- what an object names, whatever lies behind it
pub first_names : (o z : List ℕ) → 2 + references_in (get_or o 0 0) ≤ length o → references_of (o ++ z) ≡ references_of o
first_names o z whole =
    ap (λ x. take (references_in x) (drop 2 (o ++ z))) (get_or_append_left o z 0 0 (omega (arith, whole)))
    ∙ part_of_append (references_in (get_or o 0 0)) 2 o z whole

-- a row of the house's own length has room for 4,096 files
pub row_two : (ws : List ℕ) → length ws ≡ row_words → 2 ≤ length ws
row_two ws l = omega (arith, l)

pub row_room : (ws : List ℕ) → length ws ≡ row_words → room ws ≡ 4096
row_room ws l = omega (arith, l)

-- bytes that stand packed in front of the buffer are shown as they were
pub shown_bytes : (b m : List ℕ) → all_bytes b ≡ true → length b ≤ 131072 → take (length b) (bytes_of (take 16384 (over 0 (packed_bytes b) m))) ≡ b
shown_bytes b m ok few =
    ap (λ x. take (length b) (bytes_of x)) front
    ∙ ap (take (length b)) (bytes_of_append (packed_bytes b) (take (16384 - length (packed_bytes b)) (drop (0 + length (packed_bytes b)) m)))
    ∙ take-append-le (length b) (bytes_of (packed_bytes b)) (bytes_of (take (16384 - length (packed_bytes b)) (drop (0 + length (packed_bytes b)) m)))
    (omega (arith, length_bytes_of (packed_bytes b), long))
    ∙ bytes_back b ok
  where
    long : length (packed_bytes b) ≡ words_for (length b)
    long = length_words (words_for (length b)) (b ++ zeros 7)

    e : 16384 ≡ length (packed_bytes b) + (16384 - length (packed_bytes b))
    e = omega (arith, long)

    front : take 16384 (over 0 (packed_bytes b) m) ≡ packed_bytes b ++ take (16384 - length (packed_bytes b)) (drop (0 + length (packed_bytes b)) m)
    front =
        ap (λ i. take i (packed_bytes b ++ drop (0 + length (packed_bytes b)) m)) e
        ∙ take-append-add (packed_bytes b) (drop (0 + length (packed_bytes b)) m) (16384 - length (packed_bytes b))

-- four words of a sum, as a key
pub sum_words : (bs : List ℕ) → key_words (sum_key bs) ≡ words 4 bs
unfolding words
sum_words bs = refl

-- the row is stored in front of the buffer
squeeze_fits : (ws m : List ℕ) → length m ≡ bulk_cells → leb (length (squeezed ws)) (length (take buffer_words m)) ≡ true
squeeze_fits ws m l = le-leb (length (squeezed ws)) (length (take buffer_words m)) (omega (arith, length-take-le buffer_words m (omega (arith, l)), tree.most))
  where
    tree : TreeObject ws
    tree = stored_objects ws

squeeze_answers : (ws m : List ℕ) → row_of m ≡ ws → length m ≡ bulk_cells → squeeze_answer (row_of m) (take buffer_words m) ≡ Some (length (squeezed ws))
unfolding squeeze_answer
squeeze_answers ws m e l =
    ap (λ x. squeeze_answer x (take buffer_words m)) e
    ∙ pick_true (leb (length (squeezed ws)) (length (take buffer_words m))) (Some (length (squeezed ws))) None (squeeze_fits ws m l)

squeezes_front : (ws m : List ℕ) → row_of m ≡ ws → length m ≡ bulk_cells → squeezed_in m ≡ over 0 (squeezed ws) m
unfolding squeeze_into
squeezes_front ws m e l =
    ap (λ x. squeeze_into x (take buffer_words m) ++ drop buffer_words m) e
    ∙ ap (λ x. x ++ drop buffer_words m) (pick_true (leb (length (squeezed ws)) (length (take buffer_words m))) (squeezed ws ++ drop (length (squeezed ws)) (take buffer_words m)) (take buffer_words m) (squeeze_fits ws m l))
    ∙ append_assoc (squeezed ws) (drop (length (squeezed ws)) (take buffer_words m)) (drop buffer_words m)
    ∙ ap (λ x. squeezed ws ++ x) (sym (drop-append-le (length (squeezed ws)) (take buffer_words m) (drop buffer_words m) (leb-true (length (squeezed ws)) (length (take buffer_words m)) (squeeze_fits ws m l)))
    ∙ ap (drop (length (squeezed ws))) (take-append-drop buffer_words m) ∙ ap (λ i. drop i m) none)
  where
    none : length (squeezed ws) ≡ 0 + length (squeezed ws)
    none = omega arith

-- the roots of a write: what the head names but for the tree in work, and the row
pub row_roots : (h ws d m : List ℕ) → Desk h ws d m → drop 4 h ≡ zeros 28 → length h ≡ 32 → take 7 (drop 41155 m) ++ references (row_of m) ≡ (tip_root h ∷ zeros 6) ++ references ws
row_roots h ws d m desk others hl =
    ap₂ (λ x y. x ++ references y)
    (sym (part_inside head_at 32 7 3 m (omega arith)) ∙ ap (λ x. take 7 (drop 3 x)) desk.head ∙ tip_and_none h others hl) desk.row

module _ (sum : Sum) (n : ℕ) (Stop : List ℕ → List ℕ → Rows → Type 0) (End : Control → List ℕ → List ℕ → List ℕ → ℕ → Rows → ℕ → Type 0) where
  abbrev pub Well : Asked Control → List ℕ → List ℕ → ℕ → Rows → Type 0
  Well a h t laid ss = Does (controlling sum) n Stop End a h t laid ss

  pub goes_on : (k : Control) (m h t : List ℕ) (laid : ℕ) (ss : Rows) → length m ≡ bulk_cells → Well (resumed sum k m k.phase) h t laid ss → Well (control_resumes sum k m) h t laid ss
  goes_on k m h t laid ss l d =
      subst (λ (x : Asked Control). Well x h t laid ss) (sym (pick_false (ltb (length m) desk_end) (asked k m (Refuse 2)) (resumed sum k m k.phase) (le-ltb (length m) desk_end (omega arith)))) d

  -- the head is recalled
  pub recalls_head : (k : Control) (h₀ ws d m h t : List ℕ) (laid : ℕ) (ss : Rows) → Desk h₀ ws d m →
      ((m₁ : List ℕ) → Desk h ws d m₁ → Well (recalled sum (at_phase Recalling k) m₁) h t laid ss) → Well (asked (at_phase Recalling k) m Recall) h t laid ss
  recalls_head k h₀ ws d m h t laid ss desk on =
      recalls (asked (at_phase Recalling k) m Recall) h t laid ss refl
      (λ hl hs.
      let front : Desk h₀ ws d (over 0 h m) = desk_front h₀ ws d m h (omega (arith, hl)) desk in
      goes_on (at_phase Recalling k) (over 0 h m) h t laid ss front.long
      (subst (λ (x : List ℕ). Well (recalled sum (at_phase Recalling k) (over head_at x (over 0 h m))) h t laid ss) (sym (take_at h (drop (0 + length h) m) 32 hl))
      (on (over head_at h (over 0 h m)) (desk_head h₀ h ws d (over 0 h m) hl front))))

  -- an object is asked for
  pub opens_object : (k : Control) (m h t : List ℕ) (laid r : ℕ) (ss : Rows) → length t ≡ 64 * laid → 64 * laid < 18446744073709551616 →
      Placed t (8 * first_page h) (8 * laid) r → Well (control_resumes sum k (over 0 (object_at t r) m)) h t laid ss →
      Well (asked k m (Object (capped (8 * (r - 1))) buffer_words)) h t laid ss
  unfolding object_at
  opens_object k m h t laid r ss tl small_tape q on =
      subst (λ (a : ℕ). Does (controlling sum) n Stop End (asked k m (Object a buffer_words)) h t laid ss) (sym at_is)
      (opens (asked k m (Object (8 * (r - 1)) buffer_words)) h t laid ss (8 * (r - 1)) buffer_words refl (omega (arith, q.above)) (omega (arith, q.within, size_is))
      (λ s. subst (λ (x : ℕ). Does (controlling sum) n Stop End (control_resumes sum k (over 0 (take x (drop (8 * (r - 1)) t)) m)) h t laid ss) (sym size_is) on))
    where
      size_is : wanted buffer_words (get_or t (8 * (r - 1)) 0) ≡ size_in (heading_at t r)
      size_is = omega (arith, q.whole, q.short)

      at_is : capped (8 * (r - 1)) ≡ 8 * (r - 1)
      at_is = omega (arith, q.within)

  -- where the ring is tight it is swept, and the task begins anew; then, or at once, it starts
  pub begins : (k : Control) (ws d m h t : List ℕ) (ss : Rows) (ls : List ℕ) → n < 1048576 → Desk h ws d m → Window n h t (last_page h) →
      Heap t (8 * first_page h) (8 * last_page h) (roots_of h) → Lives t (roots_of h) ls →
      last_page h + (added_up (units_at t) ls + 7) / 8 ≤ first_page h + n → 64 * (last_page h + (added_up (units_at t) ls + 7) / 8 + 1) < 18446744073709551616 →
      ((t₁ h₁ : List ℕ) → Swept t h t₁ h₁ ls → Stop h₁ t₁ ss) →
      (lays_any k.task && tight k.pages m ≡ false → Well (started sum k m k.task) h t (last_page h) ss) →
      ((t₁ h₁ m₁ : List ℕ) (v : Sweep) → Swept t h t₁ h₁ ls → Desk h₁ ws d m₁ → Well (recalled sum (at_phase Recalling (sweeping k v)) m₁) h₁ t₁ (last_page h₁) ss) →
      Well (recalled sum k m) h t (last_page h) ss
  unfolding Sweeps
  begins k ws d m h t ss ls few desk win heap lives fits bound stop now then =
      pick_both (λ x. Well x h t (last_page h) ss) (lays_any k.task && tight k.pages m) _ _
      (λ y. sweeps Stop End (controlling sum) n (sweeping k) (again k) sweeps_in h t ss m ls k.sweep win few desk.long desk.head heap lives fits bound stop
      (λ t₁ h₁ v m₁ swept long behind.
      recalls_head (sweeping k v) (take 32 (drop head_at m₁)) ws d m₁ h₁ t₁ (last_page h₁) ss (again_desk m₁ long behind)
      (λ m₂ desk₂. then t₁ h₁ m₂ v swept desk₂)))
      now
    where
      sweeps_in : (v : Sweep) (m : List ℕ) → length m ≡ bulk_cells → control_resumes sum (sweeping k v) m ≡ swung (sweeping k) (again k) (sweep_went_on v m)
      sweeps_in v m l = pick_false (ltb (length m) desk_end) _ _ (le-ltb (length m) desk_end (omega arith))

      again_desk : (m₁ : List ℕ) → length m₁ ≡ bulk_cells → ((i : ℕ) → plan_end ≤ i → get_or m₁ i 0 ≡ get_or m i 0) → Desk (take 32 (drop head_at m₁)) ws d m₁
      again_desk m₁ long behind =
          record {
            long = long;
            head = refl;
            row = part_alike row_at row_words m₁ m (long ∙ sym desk.long) (λ i a b. behind i (omega arith)) ∙ desk.row;
            said = rest_alike path_at m₁ m (long ∙ sym desk.long) (λ i a. behind i (omega arith)) ∙ desk.said;
          }

  -- a tree is loaded, into its row
  module _ (k : Control) (ws d m h t : List ℕ) (laid root : ℕ) (ss : Rows) (tree : Tree) (desk : Desk h ws d m) (tl : length t ≡ 64 * laid)
      (small_tape : 64 * laid < 18446744073709551616) (work : WorkAt sum t root tree) (placed : 1 ≤ root → Placed t (8 * first_page h) (8 * laid) root)
      (few : length tree ≤ 4096) where
    -- what comes of an object: whatever lies in a row of the house's length, the tree is spread into it
    module _ (kept : TreeAt sum t root tree) where
      q : Placed t (8 * first_page h) (8 * laid) root
      q = placed kept.one

      abbrev o : List ℕ
      o = object_at t root

      abbrev m₁ : List ℕ
      m₁ = over 0 (object_at t root) m

      o_long : length (object_at t root) ≡ size_in (heading_at t root)
      o_long = object_long t (8 * first_page h) (8 * laid) root (omega (arith, tl)) q

      desk₁ : Desk h ws d (over 0 (object_at t root) m)
      desk₁ = desk_front h ws d m (object_at t root) (omega (arith, o_long, q.short)) desk

      abbrev z : List ℕ
      z = take (buffer_words - length (object_at t root)) (drop (0 + length (object_at t root)) m)

      e : buffer_words ≡ length (object_at t root) + (buffer_words - length (object_at t root))
      e = omega (arith, o_long, q.short)

      front : take buffer_words (over 0 (object_at t root) m) ≡ object_at t root ++ take (buffer_words - length (object_at t root)) (drop (0 + length (object_at t root)) m)
      front =
          ap (λ i. take i (object_at t root ++ drop (0 + length (object_at t root)) m)) e
          ∙ take-append-add (object_at t root) (drop (0 + length (object_at t root)) m) (buffer_words - length (object_at t root))

      spread : (rs : List ℕ) → length rs ≡ row_words →
          RowOf (bytes_at t) (spread_into (take buffer_words (over 0 (object_at t root) m)) rs) tree × (references (spread_into (take buffer_words (over 0 (object_at t root) m)) rs) ≡ files_named t root)
      spread rs rl = (subst (λ (x : List ℕ). RowOf (bytes_at t) (spread_into x rs) tree) (sym front) (fits.1), names)
        where
          fits : (spread_fits (object_at t root ++ z) rs ≡ true) × RowOf (bytes_at t) (spread_into (object_at t root ++ z) rs) tree
          fits = kept.spreads z rs (row_two rs rl) (subst (λ i. length tree ≤ i) (sym (row_room rs rl)) few)

          first : get_or (object_at t root) 0 0 ≡ heading_at t root
          first = object_heading t root (omega (arith, q.whole))

          long_enough : 2 + references_in (get_or (object_at t root) 0 0) ≤ length (object_at t root)
          long_enough = subst₂ (λ x y. 2 + references_in x ≤ y) (sym first) (sym o_long) q.whole

          whole : 2 + files_in (object_at t root ++ z) ≤ length (object_at t root ++ z)
          whole =
              let e : get_or (o ++ z) 0 0 ≡ get_or o 0 0 = get_or_append_left o z 0 0 (omega (arith, long_enough)) in
              subst (λ x. 2 + references_in x ≤ length (o ++ z)) (sym e) (omega (arith, long_enough, length-append o z))

          names : references (spread_into (take buffer_words (over 0 (object_at t root) m)) rs) ≡ files_named t root
          names =
              ap (λ x. references (spread_into x rs)) front ∙ spread_references (object_at t root ++ z) rs whole fits.0
              ∙ first_names (object_at t root) z long_enough ∙ sym (pick_false (eqb root 0) [] (references_of (object_at t root)) (ne_eqb root 0 (λ e. omega (arith, kept.one))))

    -- the empty one
    empty_row_is : (rs : List ℕ) → length rs ≡ row_words → root ≡ 0 → tree ≡ [] → RowOf (bytes_at t) (over 0 (0 ∷ 0 ∷ []) rs) tree × (references (over 0 (0 ∷ 0 ∷ []) rs) ≡ files_named t root)
    unfolding EmptyRight
    empty_row_is rs rl none empty = (
      subst (RowOf (bytes_at t) (over 0 (0 ∷ 0 ∷ []) rs)) (sym empty) (empty_right (bytes_at t) (over 0 (0 ∷ 0 ∷ []) rs) (omega arith) refl refl),
      empty_names (drop (0 + 2) rs) ∙ sym (pick_true (eqb root 0) [] (references_of (object_at t root)) (eq-eqb root 0 none)),
    )

    pub loads_tree : ((p : Phase) (ws₁ m₁ : List ℕ) → Desk h ws₁ d m₁ → RowOf (bytes_at t) ws₁ tree → references ws₁ ≡ files_named t root → Well (loaded sum (at_phase p k) m₁ k.task) h t laid ss) →
        Well (load sum k m root) h t laid ss
    loads_tree on = go work
      where
        rl : length (row_of m) ≡ row_words
        rl = ap length desk.row ∙ row_long h ws d m desk

        go : WorkAt sum t root tree → Well (load sum k m root) h t laid ss
        go (inl (none, empty)) =
            let r = empty_row_is ws (row_long h ws d m desk) none empty in
            subst (λ (x : Asked Control). Well x h t laid ss) (sym (pick_true (eqb root 0) _ _ (eq-eqb root 0 none)))
            (on k.phase (over 0 (0 ∷ 0 ∷ []) ws) (emptied row_at m) (desk_row_front h ws d m (0 ∷ 0 ∷ []) (omega arith) desk) r.0 r.1)
        go (inr kept) =
            let y : length (row_of (m₁ kept)) ≡ row_words = ap length (desk₁ kept).row ∙ row_long h ws d (m₁ kept) (desk₁ kept) in
            let r = spread kept (row_of (m₁ kept)) y in
            subst (λ (x : Asked Control). Well x h t laid ss) (sym (pick_false (eqb root 0) _ _ (some_root root kept.one)))
            (opens_object (at_phase Loading k) m h t laid root ss tl small_tape (q kept)
            (goes_on (at_phase Loading k) (m₁ kept) h t laid ss (desk₁ kept).long
            (on Loading (spread_into (take buffer_words (m₁ kept)) (row_of (m₁ kept))) (with_row (spread_into (take buffer_words (m₁ kept)) (row_of (m₁ kept))) (m₁ kept))
            (desk_row h ws (spread_into (take buffer_words (m₁ kept)) (row_of (m₁ kept))) d (m₁ kept) (length_spread_into (take buffer_words (m₁ kept)) (row_of (m₁ kept)) ∙ y) (desk₁ kept))
            r.0 r.1)))

    -- or into the row of what is compared to
    pub loads_old : ((p : Phase) (os m₁ : List ℕ) → Desk h ws d m₁ → old_row_of m₁ ≡ os → RowOf (bytes_at t) os tree → references os ≡ files_named t root →
        Well (against sum (at_phase p k) m₁ k.task) h t laid ss) → Well (load_old sum k m root) h t laid ss
    loads_old on = go work
      where
        old_long : (x : List ℕ) → Desk h ws d x → length (old_row_of x) ≡ row_words
        old_long x dx = length-take-le row_words (drop old_row_at x) (omega (arith, dx.long, length-drop old_row_at x))

        go : WorkAt sum t root tree → Well (load_old sum k m root) h t laid ss
        go (inl (none, empty)) =
            let r = empty_row_is (old_row_of m) (old_long m desk) none empty in
            subst (λ (x : Asked Control). Well x h t laid ss) (sym (pick_true (eqb root 0) _ _ (eq-eqb root 0 none)))
            (on k.phase (over 0 (0 ∷ 0 ∷ []) (old_row_of m)) (emptied old_row_at m) (desk_map h ws d m (0 ∷ 0 ∷ []) old_row_at (omega arith) (omega arith) desk)
            (part_front old_row_at row_words (0 ∷ 0 ∷ []) m (omega arith) (omega (arith, desk.long))) r.0 r.1)
        go (inr kept) =
            let y : length (old_row_of (m₁ kept)) ≡ row_words = old_long (m₁ kept) (desk₁ kept) in
            let r = spread kept (old_row_of (m₁ kept)) y in
            let l : length (spread_into (take buffer_words (m₁ kept)) (old_row_of (m₁ kept))) ≡ row_words = length_spread_into (take buffer_words (m₁ kept)) (old_row_of (m₁ kept)) ∙ y in
            subst (λ (x : Asked Control). Well x h t laid ss) (sym (pick_false (eqb root 0) _ _ (some_root root kept.one)))
            (opens_object (at_phase LoadingOld k) m h t laid root ss tl small_tape (q kept)
            (goes_on (at_phase LoadingOld k) (m₁ kept) h t laid ss (desk₁ kept).long
            (on LoadingOld (spread_into (take buffer_words (m₁ kept)) (old_row_of (m₁ kept))) (with_old_row (spread_into (take buffer_words (m₁ kept)) (old_row_of (m₁ kept))) (m₁ kept))
            (desk_map h ws d (m₁ kept) (spread_into (take buffer_words (m₁ kept)) (old_row_of (m₁ kept))) old_row_at (omega arith) (omega (arith, l)) (desk₁ kept))
            (ap (λ i. take i (drop old_row_at (with_old_row (spread_into (take buffer_words (m₁ kept)) (old_row_of (m₁ kept))) (m₁ kept)))) (sym l)
            ∙ parts_stay.here old_row_at (spread_into (take buffer_words (m₁ kept)) (old_row_of (m₁ kept))) (m₁ kept) (omega (arith, l, (desk₁ kept).long)))
            r.0 r.1)))

  -- a file is asked for, and its bytes are shown
  pub shows_file : (k : Control) (ws d m h t : List ℕ) (laid r : ℕ) (ss : Rows) → Desk h ws d m → length t ≡ 64 * laid → 64 * laid < 18446744073709551616 →
      Placed t (8 * first_page h) (8 * laid) r → FileAt sum t r → Stop h (published h t) (ss ++ bytes_at t r ∷ []) →
      ((p : Phase) (m₁ : List ℕ) → End (at_phase p k) m₁ h t laid (ss ++ bytes_at t r ∷ []) 0) → Well (opened k m (Some r)) h t laid ss
  shows_file k ws d m h t laid r ss desk tl small_tape q f stop end =
      opens_object (at_phase Opening k) m h t laid r ss tl small_tape q
      (goes_on (at_phase Opening k) m₁ h t laid ss desk₁.long
      (subst (λ (x : Option ℕ). Well (file_came (at_phase Opening k) m₁ x) h t laid ss) (sym came)
      (subst (λ (x : Asked Control). Well x h t laid ss) (sym asked_is)
      (rows (asked (at_phase Showing k) m₂ (Show (length b))) h t laid ss (length b) refl (omega (arith, short))
      (subst (λ (x : List ℕ). Stop h (published h t) (ss ++ x ∷ [])) (sym shown) stop)
      (goes_on (at_phase Showing k) m₂ h t laid _ desk₂.long
      (finishes (asked (at_phase Showing k) m₂ Done) h t laid _ 0 refl (omega arith)
      (subst (λ (x : List ℕ). End (at_phase Showing k) m₂ h t laid (ss ++ x ∷ []) 0) (sym shown) (end Showing m₂))))))))
    where
      b : List ℕ
      b = bytes_at t r

      ok : (length (bytes_at t r) < 65536) × (all_bytes (bytes_at t r) ≡ true)
      ok = text_parts (bytes_at t r) f.text

      short : length (bytes_at t r) < 65536
      short = ok.0

      file : List ℕ
      file = file_object (key_words (sum_key (sum (bytes_at t r)))) (length (bytes_at t r)) (packed_bytes (bytes_at t r))

      is : object_at t r ≡ file_object (key_words (sum_key (sum (bytes_at t r)))) (length (bytes_at t r)) (packed_bytes (bytes_at t r))
      is = f.is ∙ ap (λ x. file_object x (length (bytes_at t r)) (packed_bytes (bytes_at t r))) (sym (sum_words (sum (bytes_at t r))))

      packed_long : length (packed_bytes (bytes_at t r)) ≡ words_for (length (bytes_at t r))
      packed_long = length_words (words_for (length (bytes_at t r))) (bytes_at t r ++ zeros 7)

      m₁ : List ℕ
      m₁ = over 0 (object_at t r) m

      desk₁ : Desk h ws d (over 0 (object_at t r) m)
      desk₁ = desk_front h ws d m (object_at t r) (omega (arith, object_long t (8 * first_page h) (8 * laid) r (omega (arith, tl)) q, q.short)) desk

      rest : List ℕ
      rest = drop (0 + length (object_at t r)) m

      m₁_is : over 0 (object_at t r) m ≡ file ++ rest
      m₁_is = ap (λ x. x ++ drop (0 + length (object_at t r)) m) is

      came : file_read (over 0 (object_at t r) m) ≡ Some (length (bytes_at t r))
      came =
          ap file_read m₁_is
          ∙ reads_back.file (sum_key (sum (bytes_at t r))) (length (bytes_at t r)) (packed_bytes (bytes_at t r)) rest (omega (arith, packed_long, short))
          (omega (arith, ap length m₁_is, desk₁.long))

      m₂ : List ℕ
      m₂ = over 0 (packed_bytes (bytes_at t r)) (over 0 (object_at t r) m)

      desk₂ : Desk h ws d (over 0 (packed_bytes (bytes_at t r)) (over 0 (object_at t r) m))
      desk₂ = desk_front h ws d m₁ (packed_bytes (bytes_at t r)) (omega (arith, packed_long, short)) desk₁

      least : min (length (bytes_at t r)) 65535 ≡ length (bytes_at t r)
      least = omega (arith, short)

      moved : take (words_for (min (length (bytes_at t r)) 65535)) (drop 6 (over 0 (object_at t r) m)) ≡ packed_bytes (bytes_at t r)
      moved =
          ap (λ i. take (words_for i) (drop 6 m₁)) least ∙ ap (λ i. take i (drop 6 m₁)) (sym packed_long) ∙ ap (λ x. take (length (packed_bytes (bytes_at t r))) (drop 6 x)) m₁_is
          ∙ reads_back.file_words (sum_key (sum (bytes_at t r))) (length (bytes_at t r)) (packed_bytes (bytes_at t r)) rest

      asked_is : file_came (at_phase Opening k) m₁ (Some (length b)) ≡ asked (at_phase Showing k) m₂ (Show (length b))
      asked_is = ap₂ (λ x i. asked (at_phase Showing k) (over 0 x m₁) (Show i)) moved least

      shown : take (length (bytes_at t r)) (bytes_of (take 16384 m₂)) ≡ bytes_at t r
      shown = shown_bytes (bytes_at t r) m₁ ok.1 (omega (arith, short))

  -- the new head is published
  pub publishes_head : (k : Control) (ws d m h t : List ℕ) (laid page root tip : ℕ) (ss : Rows) → Desk h ws d m → length h ≡ 32 → first_page h ≤ page → page ≤ laid →
      Stop (first_page h ∷ page ∷ root ∷ tip ∷ drop 4 h) (published (first_page h ∷ page ∷ root ∷ tip ∷ drop 4 h) t) ss →
      ((m₁ : List ℕ) → length m₁ ≡ bulk_cells → Well (published_by (at_phase Publishing k) m₁ k.task) (first_page h ∷ page ∷ root ∷ tip ∷ drop 4 h) t laid ss) → Well (publish k m page root tip) h t laid ss
  publishes_head k ws d m h t laid page root tip ss desk hl from to stop on =
      publishes (asked (at_phase Publishing k) m₁ Publish) h t laid ss refl (omega (arith, first_is)) (omega (arith, first_is, last_is)) (omega (arith, last_is))
      (subst (λ (x : List ℕ). Stop x (published x t) ss) (sym front) stop)
      (subst (λ (x : List ℕ). Well (control_resumes sum (at_phase Publishing k) m₁) x t laid ss) (sym front)
      (goes_on (at_phase Publishing k) m₁ h₁ t laid ss m₁_long (on m₁ m₁_long)))
    where
      h₁ : List ℕ
      h₁ = first_page h ∷ page ∷ root ∷ tip ∷ drop 4 h

      m₁ : List ℕ
      m₁ = over 0 (new_head page root tip m) m

      is : new_head page root tip m ≡ first_page h ∷ page ∷ root ∷ tip ∷ drop 4 h
      is = ap₂ (λ x ys. x ∷ page ∷ root ∷ tip ∷ drop 4 ys) (head_word_is h ws d m 0 (omega arith) desk) desk.head

      long : length (new_head page root tip m) ≡ 32
      long = ap length is ∙ omega (arith, length-drop 4 h, hl)

      m₁_long : length (over 0 (new_head page root tip m) m) ≡ bulk_cells
      m₁_long = length_over 0 (new_head page root tip m) m (omega (arith, long, desk.long)) ∙ desk.long

      front : take 32 (over 0 (new_head page root tip m) m) ≡ first_page h ∷ page ∷ root ∷ tip ∷ drop 4 h
      front = take_at (new_head page root tip m) (drop (0 + length (new_head page root tip m)) m) 32 long ∙ is

      first_is : first_page (take 32 (over 0 (new_head page root tip m) m)) ≡ first_page h
      first_is = ap first_page front

      last_is : last_page (take 32 (over 0 (new_head page root tip m) m)) ≡ page
      last_is = ap last_page front

  -- what stands in front of the buffer is laid on fresh pages
  pub lays_object : (p : Phase) (k : Control) (m h t o : List ℕ) (laid root : ℕ) (ss : Rows) → length m ≡ bulk_cells → 1 ≤ length o → length o ≤ 41088 →
      take (length o) m ≡ o → laid + pages_of (length o) ≤ first_page h + n → 64 * (laid + pages_of (length o)) < 18446744073709551616 →
      ((x : List ℕ) → length x ≡ 64 * pages_of (length o) → take (length o) x ≡ o →
      Well (control_resumes sum (laying p (laid + pages_of (length o)) root k) m) h (t ++ x) (laid + pages_of (length o)) ss) →
      Well (laid_from p k m laid (length o) root) h t laid ss
  lays_object p k m h t o laid root ss long some most front fits small_tape on =
      lays (asked (laying p (capped (laid + pages_of (length o))) root k) m (Lay laid (pages_of (length o)))) h t laid ss (pages_of (length o)) refl (omega arith)
      (omega arith) fits small_tape
      (subst (λ (x : ℕ). Well (control_resumes sum (laying p x root k) m) h (t ++ take (64 * pages_of (length o)) m) (laid + pages_of (length o)) ss) (sym page_is)
      (on (take (64 * pages_of (length o)) m) (length-take-le (64 * pages_of (length o)) m (omega (arith, long)))
      (take-take (length o) (64 * pages_of (length o)) m (omega arith) ∙ front)))
    where
      page_is : capped (laid + pages_of (length o)) ≡ laid + pages_of (length o)
      page_is = omega arith

  -- the head under which a tree is published that was laid from a page on
  abbrev pub head_with : List ℕ → ℕ → List ℕ → List ℕ
  head_with h page o = first_page h ∷ (page + pages_of (length o)) ∷ (8 * page + 1) ∷ tip_root h ∷ drop 4 h

  -- the tree in work is laid and published
  pub lays_tree : (k : Control) (ws d m h t : List ℕ) (laid : ℕ) (ss : Rows) → Desk h ws d m → length h ≡ 32 → first_page h ≤ laid →
      laid + pages_of (length (squeezed ws)) ≤ first_page h + n → 64 * (laid + pages_of (length (squeezed ws))) < 18446744073709551616 →
      ((x : List ℕ) → length x ≡ 64 * pages_of (length (squeezed ws)) → take (length (squeezed ws)) x ≡ squeezed ws →
      Stop (head_with h laid (squeezed ws)) (published (head_with h laid (squeezed ws)) (t ++ x)) ss
      × ((p : Phase) (page root : ℕ) (m₁ : List ℕ) → length m₁ ≡ bulk_cells →
      Well (published_by (laying p page root k) m₁ k.task) (head_with h laid (squeezed ws)) (t ++ x) (laid + pages_of (length (squeezed ws))) ss)) →
      Well (lay_tree k m laid) h t laid ss
  lays_tree k ws d m h t laid ss desk hl from fits small_tape on =
      subst (λ (x : Option ℕ). Well (tree_put k m laid x) h t laid ss) (sym (squeeze_answers ws m desk.row desk.long))
      (subst (λ (x : List ℕ). Well (laid_from LayingTree k x laid (length o) (reference_at laid)) h t laid ss) (sym (squeezes_front ws m desk.row desk.long))
      (subst (λ (r : ℕ). Well (laid_from LayingTree k m₁ laid (length o) r) h t laid ss) (sym root_is)
      (lays_object LayingTree k m₁ h t o laid (8 * laid + 1) ss desk₁.long (omega (arith, sized)) (omega (arith, tree.most)) (take_at o (drop (0 + length o) m) (length o) refl) fits
      small_tape
      (λ x xl front.
      goes_on k₁ m₁ h (t ++ x) (laid + pages_of (length o)) ss desk₁.long
      (subst (λ (i : ℕ). Well (publish k₁ m₁ (laid + pages_of (length o)) (8 * laid + 1) i) h (t ++ x) (laid + pages_of (length o)) ss) (sym (head_word_is h ws d m₁ 3 (omega arith) desk₁))
      (publishes_head k₁ ws d m₁ h (t ++ x) (laid + pages_of (length o)) (laid + pages_of (length o)) (8 * laid + 1) (tip_root h) ss desk₁ hl (omega arith) (omega arith)
      (on x xl front).0 (λ m₂ l₂. (on x xl front).1 Publishing (laid + pages_of (length o)) (8 * laid + 1) m₂ l₂)))))))
    where
      o : List ℕ
      o = squeezed ws

      tree : TreeObject ws
      tree = stored_objects ws

      sized : length (squeezed ws) ≡ 3 + held ws + length (packed_all (entries_of ws))
      sized = length_squeezed ws

      m₁ : List ℕ
      m₁ = over 0 (squeezed ws) m

      desk₁ : Desk h ws d (over 0 (squeezed ws) m)
      desk₁ = desk_front h ws d m (squeezed ws) (omega (arith, tree.most)) desk

      k₁ : Control
      k₁ = laying LayingTree (laid + pages_of (length (squeezed ws))) (8 * laid + 1) k

      root_is : reference_at laid ≡ 8 * laid + 1
      root_is = omega arith

  -- the file is laid, and named in the row
  -- the file's reference in the row
  pub names_file : (h ws d m : List ℕ) (r : ℕ) → length (take 9 d) ≡ 9 → Desk h ws d m →
      (named r m ≡ with_row (put_key (take 9 d) (weight_said d) r ws) m) × Desk h (put_key (take 9 d) (weight_said d) r ws) d (named r m)
  names_file h ws d m r nine desk = (is, subst (Desk h ws₁ d) (sym is) (desk_row h ws ws₁ d m (length_put_key (take 9 d) ws (weight_said d) r nine ∙ row_long h ws d m desk) desk))
    where
      ws₁ : List ℕ
      ws₁ = put_key (take 9 d) (weight_said d) r ws

      size : entry_weight m ≡ weight_said d
      size = ap (λ x. capped (64 + x)) (sym (get_or-drop path_at m 8 0) ∙ ap (λ x. get_or x 8 0) desk.said)

      is : named r m ≡ with_row (put_key (take 9 d) (weight_said d) r ws) m
      is =
          ap (λ x. with_row (put_key x (entry_weight m) r (row_of m)) m) (path_key_is h ws d m desk)
          ∙ ap (λ x. with_row (put_key (take 9 d) x r (row_of m)) m) size ∙ ap (λ x. with_row (put_key (take 9 d) (weight_said d) r x) m) desk.row

  pub lays_file : (k : Control) (ws d m h t b : List ℕ) (laid : ℕ) (ss : Rows) → Desk h ws d m → length (take 9 d) ≡ 9 → k.bytes ≡ length b → k.sum ≡ sum_key (sum b) →
      length b < 65536 → take (words_for (length b)) (drop 9 d) ≡ packed_bytes b →
      laid + pages_of (length (file_of sum b)) ≤ first_page h + n → 64 * (laid + pages_of (length (file_of sum b))) < 18446744073709551616 →
      ((x m₁ : List ℕ) → length x ≡ 64 * pages_of (length (file_of sum b)) → take (length (file_of sum b)) x ≡ file_of sum b →
      Desk h (put_key (take 9 d) (weight_said d) (8 * laid + 1) ws) d m₁ →
      Well (lay_tree (laying LayingFile (laid + pages_of (length (file_of sum b))) k.root k) m₁ (laid + pages_of (length (file_of sum b)))) h (t ++ x)
      (laid + pages_of (length (file_of sum b))) ss) →
      Well (lay_file k m laid) h t laid ss
  lays_file k ws d m h t b laid ss desk nine bytes_are sum_is short packed fits small_tape on =
      subst (λ (x : Asked Control). Well x h t laid ss) (sym (pick_true (bytes_stand 65535 k.bytes bytes_place m) _ _ stands))
      (subst (λ (x : List ℕ). Well (laid_from LayingFile k (named (reference_at laid) (over 0 x m)) laid (length x) k.root) h t laid ss) (sym file_is)
      (subst (λ (r : ℕ). Well (laid_from LayingFile k (named r (over 0 o m)) laid (length o) k.root) h t laid ss) (sym root_is)
      (lays_object LayingFile k m₂ h t o laid k.root ss desk₂.long (omega (arith, o_long)) (omega (arith, o_long, short)) front fits small_tape
      (λ x xl xf. goes_on (laying LayingFile (laid + pages_of (length o)) k.root k) m₂ h (t ++ x) (laid + pages_of (length o)) ss desk₂.long (on x m₂ xl xf desk₂)))))
    where
      o : List ℕ
      o = file_of sum b

      packed_long : length (packed_bytes b) ≡ words_for (length b)
      packed_long = length_words (words_for (length b)) (b ++ zeros 7)

      o_long : length (file_of sum b) ≡ 6 + words_for (length b)
      o_long = omega (arith, packed_long)

      here : 229611 + words_for (length b) ≤ length m
      here = omega (arith, desk.long, short)

      stands : bytes_stand 65535 k.bytes bytes_place m ≡ true
      stands = ap (λ i. bytes_stand 65535 i bytes_place m) bytes_are ∙ stands_there (length b) m short desk.long

      place_is : drop bytes_place m ≡ drop 9 d
      place_is = sym (drop-drop 9 path_at m) ∙ ap (drop 9) desk.said

      file_is : file_in k m ≡ file_of sum b
      file_is =
          ap (λ x. file_object (key_words x) k.bytes (words_at k.bytes bytes_place m)) sum_is
          ∙ ap (λ i. file_object (key_words (sum_key (sum b))) i (words_at i bytes_place m)) bytes_are
          ∙ ap (λ x. file_object (key_words (sum_key (sum b))) (length b) (take (words_for (length b)) x)) place_is
          ∙ ap (file_object (key_words (sum_key (sum b))) (length b)) packed

      root_is : reference_at laid ≡ 8 * laid + 1
      root_is = omega arith

      m₁ : List ℕ
      m₁ = over 0 (file_of sum b) m

      desk₁ : Desk h ws d (over 0 (file_of sum b) m)
      desk₁ = desk_front h ws d m (file_of sum b) (omega (arith, o_long, short)) desk

      m₂ : List ℕ
      m₂ = named (8 * laid + 1) (over 0 (file_of sum b) m)

      put : (named (8 * laid + 1) m₁ ≡ with_row (put_key (take 9 d) (weight_said d) (8 * laid + 1) ws) m₁) × Desk h (put_key (take 9 d) (weight_said d) (8 * laid + 1) ws) d (named (8 * laid + 1) m₁)
      put = names_file h ws d m₁ (8 * laid + 1) nine desk₁

      desk₂ : Desk h (put_key (take 9 d) (weight_said d) (8 * laid + 1) ws) d m₂
      desk₂ = put.1

      front : take (length o) m₂ ≡ o
      front =
          ap (take (length o)) put.0
          ∙ part_before 0 (length o) row_at (put_key (take 9 d) (weight_said d) (8 * laid + 1) ws ++ drop (row_at + length (put_key (take 9 d) (weight_said d) (8 * laid + 1) ws)) m₁) m₁ (omega (arith, o_long, short)) (omega (arith, desk₁.long))
          ∙ take_at o (drop (0 + length o) m) (length o) refl

  -- what will be live is surveyed: the roots are those that the task names
  pub surveys : (k : Control) (ws d m h t roots : List ℕ) (ss : Rows) → Desk h ws d m → survey_roots k.task m ≡ roots → (kind_sought k.task ≡ 1) ⊎ (kind_sought k.task ≡ 3) → length t ≡ 64 * last_page h →
      64 * last_page h < 18446744073709551616 → first_page h ≤ last_page h → last_page h - first_page h ≤ 1048576 →
      Heap t (8 * first_page h) (8 * last_page h) roots →
      ((w₁ : Walk) (m₁ : List ℕ) → Marked t roots (8 * first_page h) (kind_sought k.task) (key_words k.sum) m w₁ m₁ → Desk h ws d m₁ →
      Well (surveyed k w₁ m₁) h t (last_page h) ss) →
      Well (survey k m) h t (last_page h) ss
  unfolding Marks
  surveys k ws d m h t roots ss desk roots_are kinds tl small_tape rises near heap on =
      subst (λ (x : List ℕ). Well (walked (surveying k) (surveyed k) (sought (window_of k m) (begun (capped (8 * head_word m 0)) x m))) h t (last_page h) ss) (sym roots_are)
      (subst₂ (λ (f b : ℕ). Well (walked (surveying k) (surveyed k) (sought (walk f b 0 (kind_sought k.task) k.sum 0) (begun f roots m))) h t (last_page h) ss) (sym first_is) (sym below_is)
      (marks Stop End (controlling sum) n (surveying k) (surveyed k) walks h t (last_page h) ss roots m (8 * last_page h - 8 * first_page h) (kind_sought k.task) k.sum tl small_tape (omega arith)
      (omega (arith, near)) desk.long (heap_to heap) (inr (keyed_kind (kind_sought k.task) kinds))
      (λ w₁ m₁ marked. on w₁ m₁ marked (desk_kept h ws d m m₁ marked.keeps desk))))
    where
      keyed_kind : (i : ℕ) → (i ≡ 1) ⊎ (i ≡ 3) → keyed i ≡ true
      keyed_kind i (inl e) = ap keyed e
      keyed_kind i (inr e) = ap keyed e

      head_is : (i : ℕ) → i < 32 → head_word m i ≡ get_or h i 0
      head_is i lt = head_word_is h ws d m i lt desk

      first_is : capped (8 * head_word m 0) ≡ 8 * first_page h
      first_is = omega (arith, head_is 0 (omega arith))

      below_is : capped (8 * (head_word m 1 - head_word m 0)) ≡ 8 * last_page h - 8 * first_page h
      below_is = omega (arith, head_is 0 (omega arith), head_is 1 (omega arith), near)

      heap_to : Heap t (8 * first_page h) (8 * last_page h) roots → Heap t (8 * first_page h) (8 * first_page h + (8 * last_page h - 8 * first_page h)) roots
      heap_to g = let e : 8 * last_page h ≡ 8 * first_page h + (8 * last_page h - 8 * first_page h) = omega arith in subst (λ x. Heap t (8 * first_page h) x roots) e g

      walks : (w : Walk) (x : List ℕ) → length x ≡ bulk_cells → control_resumes sum (surveying k w) x ≡ walked (surveying k) (surveyed k) (went_on w x)
      walks w x l = pick_false (ltb (length x) desk_end) _ _ (le-ltb (length x) desk_end (omega arith))

  -- the roots of a commit: all that the head names
  pub head_roots_in : (h ws d m : List ℕ) → Desk h ws d m → take 8 (drop 41154 m) ≡ roots_of h
  head_roots_in h ws d m desk = sym (part_inside head_at 32 8 2 m (omega arith)) ∙ ap (λ x. take 8 (drop 2 x)) desk.head

  -- differences are shown one after another, until there are no more
  module _ (k : Control) (ws os d h t : List ℕ) (laid : ℕ) (all : Rows) (stop : (a b : Rows) → a ++ b ≡ all → Stop h (published h t) a)
      (end : (p : Phase) (c : Cursor) (m₁ : List ℕ) → End (at_phase p (comparing c k)) m₁ h t laid all 0) where
    next : (i : ℕ) (p : Phase) (c : Cursor) (m : List ℕ) (ss : Rows) (o : Option Difference) → difference_from os ws c ≡ o →
        length (answers (suc i) os ws c) ≤ i → ss ++ each (shown os ws) (answers (suc i) os ws c) ≡ all → Desk h ws d m → old_row_of m ≡ os →
        ((c₁ : Cursor) (i₁ : ℕ) (m₁ : List ℕ) (ss₁ : Rows) → i ≡ suc i₁ → length (answers (suc i₁) os ws c₁) ≤ i₁ → ss₁ ++ each (shown os ws) (answers (suc i₁) os ws c₁) ≡ all →
        Desk h ws d m₁ → old_row_of m₁ ≡ os → Well (compare (at_phase Comparing (comparing c₁ k)) m₁) h t laid ss₁) →
        Well (compared (at_phase p (comparing c k)) m o) h t laid ss
    next i p c m ss None e few so_far desk old more =
        subst (λ (x : Rows). Well (asked (at_phase p (comparing c k)) m Done) h t laid x) (sym all_is)
        (finishes (asked (at_phase p (comparing c k)) m Done) h t laid all 0 refl (omega arith) (end p c m))
      where
        all_is : ss ≡ all
        all_is = sym (append-nil ss) ∙ ap (λ x. ss ++ each (shown os ws) x) (sym (none_left i os ws c e)) ∙ so_far
    next i p c m ss (Some v) e few so_far desk old more =
        subst₂ (λ x y. Well (asked (at_phase Comparing (comparing v.next k)) (bytes_put 0 (shown x y v.place) m) (Show (length (shown x y v.place)))) h t laid ss) (sym old) (sym desk.row)
        (subst (λ (x : List ℕ). Well (asked (at_phase Comparing (comparing v.next k)) x (Show (length sh))) h t laid ss) (put_all sh m 0 (omega (arith, fit.0, desk.long)))
        (rows (asked (at_phase Comparing (comparing v.next k)) m₁ (Show (length sh))) h t laid ss (length sh) refl (omega (arith, fit.0))
        (subst (λ (x : List ℕ). Stop h (published h t) (ss ++ x ∷ [])) (sym row) (stop (ss ++ sh ∷ []) (each (shown os ws) (answers i os ws v.next)) on_all))
        (goes_on (at_phase Comparing (comparing v.next k)) m₁ h t laid _ desk₁.long
        (more v.next (i - 1) m₁ _ one (subst (λ j. length (answers j os ws v.next) ≤ i - 1) one (omega (arith, ap length first, few)))
        (ap (λ x. (ss ++ x ∷ []) ++ each (shown os ws) (answers (suc (i - 1)) os ws v.next)) row ∙ ap (λ j. (ss ++ sh ∷ []) ++ each (shown os ws) (answers j os ws v.next)) (sym one) ∙ on_all) desk₁
        (parts_stay.beside 0 (packed_bytes sh) m old_row_at row_words (omega (arith, packed_long, fit.0, desk.long)) (inr (omega (arith, packed_long, fit.0))) ∙ old)))))
      where
        sh : List ℕ
        sh = shown os ws v.place

        fit : (length (shown os ws v.place) ≤ 65) × (all_bytes (shown os ws v.place) ≡ true)
        fit = shown_fits os ws v.place

        packed_long : length (packed_bytes (shown os ws v.place)) ≡ words_for (length (shown os ws v.place))
        packed_long = length_words (words_for (length (shown os ws v.place))) (shown os ws v.place ++ zeros 7)

        m₁ : List ℕ
        m₁ = over 0 (packed_bytes (shown os ws v.place)) m

        desk₁ : Desk h ws d (over 0 (packed_bytes (shown os ws v.place)) m)
        desk₁ = desk_front h ws d m (packed_bytes (shown os ws v.place)) (omega (arith, packed_long, fit.0)) desk

        first : answers (suc i) os ws c ≡ v.place ∷ answers i os ws v.next
        first = one_first i os ws c v e

        one : i ≡ suc (i - 1)
        one = omega (arith, ap length first, few)

        row : take (length (shown os ws v.place)) (bytes_of (take 16384 m₁)) ≡ shown os ws v.place
        row = shown_bytes (shown os ws v.place) m fit.1 (omega (arith, fit.0))

        on_all : (ss ++ sh ∷ []) ++ each (shown os ws) (answers i os ws v.next) ≡ all
        on_all = append_assoc ss (sh ∷ []) (each (shown os ws) (answers i os ws v.next)) ∙ ap (λ x. ss ++ each (shown os ws) x) (sym first) ∙ so_far

    begin : (i : ℕ) (p : Phase) (c : Cursor) (m : List ℕ) (ss : Rows) → length (answers (suc i) os ws c) ≤ i → ss ++ each (shown os ws) (answers (suc i) os ws c) ≡ all →
        Desk h ws d m → old_row_of m ≡ os →
        ((c₁ : Cursor) (i₁ : ℕ) (m₁ : List ℕ) (ss₁ : Rows) → i ≡ suc i₁ → length (answers (suc i₁) os ws c₁) ≤ i₁ → ss₁ ++ each (shown os ws) (answers (suc i₁) os ws c₁) ≡ all →
        Desk h ws d m₁ → old_row_of m₁ ≡ os → Well (compare (at_phase Comparing (comparing c₁ k)) m₁) h t laid ss₁) →
        Well (compare (at_phase p (comparing c k)) m) h t laid ss
    begin i p c m ss few so_far desk old more =
        subst₂ (λ x y. Well (compared (at_phase p (comparing c k)) m (difference_from x y c)) h t laid ss) (sym old) (sym desk.row) (next i p c m ss (difference_from os ws c) refl few so_far desk old more)

    pub compares : (i : ℕ) (p : Phase) (c : Cursor) (m : List ℕ) (ss : Rows) → length (answers (suc i) os ws c) ≤ i → ss ++ each (shown os ws) (answers (suc i) os ws c) ≡ all →
        Desk h ws d m → old_row_of m ≡ os → Well (compare (at_phase p (comparing c k)) m) h t laid ss
    compares zero p c m ss few so_far desk old = begin zero p c m ss few so_far desk old (λ c₁ i₁ m₁ ss₁ e. absurd (omega arith))
    compares (suc i) p c m ss few so_far desk old =
        begin (suc i) p c m ss few so_far desk old
        (λ c₁ i₁ m₁ ss₁ e few₁ so_far₁ desk₁ old₁.
        let same_i : i₁ ≡ i = omega arith in
        compares i Comparing c₁ m₁ ss₁ (subst (λ j. length (answers (suc j) os ws c₁) ≤ j) same_i few₁)
        (subst (λ j. ss₁ ++ each (shown os ws) (answers (suc j) os ws c₁) ≡ all) same_i so_far₁) desk₁ old₁)
