-- The house that keeps sheets in work and notes versions of them, as a client of the tape: its cells hold it, memory keeps its length, numbers stay below 2^64. Assumes nothing.
use Rattle.std.proofs.Common.{◌≡◌, ℕ, suc, ◌+◌, ◌-◌, ◌*◌, ◌^◌, ◌<◌, ◌≤◌, min, Bool, true, false, ◌&&◌, eqb, ltb, leb, List, [], ◌∷◌, ◌++◌, length, get_or, take, drop, set, Some, None, Option, sym, refl, ap, ap₂, ◌∙◌, subst₂, arith, length-append, length-drop, length-take}
use Rattle.std.proofs.lemmas.Bool.{ltb-false, ltb-true, leb-true, and_parts}
use Rattle.std.proofs.lemmas.List.{length-take-le, take-append-drop}
use Rattle.pages.specs.Bytes.{all_bytes}
use Rattle.pages.specs.Lists.{pick, every, same, earlier, zeros}
use Rattle.pages.specs.Words.{over, small, words}
use Rattle.pages.specs.Engine.{Small, Lawful, request_cells}
use Rattle.pages.specs.Machine.{Asked, asked, capped, buffer_words}
use Rattle.pages.specs.Object.{heading}
use Rattle.pages.specs.declared.machine.Request.{Request}
use Rattle.pages.specs.declared.machine.Request.TheVariants.{Recall, Object, Lay, Publish, Show, Done, Refuse}
use Rattle.pages.proofs.BytesLaws.{all_bytes_append}
use Rattle.pages.proofs.ListLaws.{pick_both}
use Rattle.pages.proofs.WordLaws.{small_append, small_take, small_drop, small_zeros, small_over, small_from, small_get_or, length_words, length_zeros, words_small}
use Rattle.store.proofs.BitLaws.{small_set}
use Rattle.objects.specs.Plan.{head_at}
use Rattle.objects.specs.Layouts.{words_for, words_at, answered, in_front, packed_bytes, bytes_put, bytes_stand, commit_fits, commit_in as commit_at, commit_read, file_read, of_kind}
use Rattle.objects.specs.declared.layouts.Commit.{Commit as Layout}
use Rattle.objects.specs.Marking.{Turn, asked_on, begun, key_words, sought, went_on}
use Rattle.objects.specs.Sweeping.{sweep_begun, sweep_went_on}
use Rattle.objects.specs.Cells.{sweep_cells, sweep_in, walk_cells, walk_in, asked_cells}
use Rattle.objects.specs.Room.{quarter}
use Rattle.objects.specs.declared.mark.Key.{Key}
use Rattle.objects.specs.declared.mark.Walk.{Walk}
use Rattle.objects.specs.declared.sweep.Sweep.{Sweep}
use Rattle.objects.proofs.LayoutLaws.{as_many, at_most}
use Rattle.objects.proofs.SmallLaws.{SmallTurn, Bounded, bounded, bounded_over, bounded_begun, sweep_kept, small_walk_in, small_sweep_in, sought_length, sought_small, went_on_length, went_on_small, sweep_begun_length, sweep_begun_small, sweep_went_on_length, sweep_went_on_small}
use Rattle.trees.specs.Tree.{Tree, found, same_tree}
use Rattle.trees.specs.Row.{room, good_path, held, key_of, entries_of, has_key, put_key, reference_in, room_for, take_key}
use Rattle.trees.specs.Packed.{spread_into, squeezed, squeeze_answer, squeeze_into}
use Rattle.trees.specs.Differ.{difference_here, first_difference, difference_from, meets, differs, shown}
use Rattle.trees.specs.declared.differences.Cursor.{Cursor}
use Rattle.trees.specs.declared.differences.Difference.{Difference}
use Rattle.trees.specs.declared.differences.Place.TheVariants.{New, Changed, Gone}
use Rattle.trees.proofs.PackLaws.{bytes_zeros, length_key, proper_parts}
use Rattle.trees.proofs.RowLaws.{length_cut}
use Rattle.trees.proofs.RowParts.{length_put_key, length_take_key, length_spread_into, length_squeeze_into, small_put_key, small_take_key, small_spread_into, small_squeeze_into}
use Rattle.history.specs.Book.{Sum}
use Rattle.commands.specs.Command.{Command, write_file, drop_file, commit, branch, go_to, history, show_file, status, read_file, join, settle, leave, move_onto, carry, forget, tag, who, sweep as sweep_command, fetch, fits, a_name, a_ref, a_text}
use Rattle.commands.specs.Parse.{parsed, Answers}
use Rattle.commands.proofs.ParseLaws.{answered as parse_answered}
use Rattle.house.specs.Control.{row_at, row_words, path_at, bytes_at, desk_end, old_row_at, row_of, with_row, old_row_of, with_old_row, path_key, entry_weight, emptied, head_word, kept, control, at_phase, sweeping, surveying, laying, comparing, hearing, version, stamped, coming_from, identified, counted, logging, task_code, task_in, phase_code, phase_in, control_loads, control_saves, sum_key, no_sum, the_branch, path_put, said_of, heard_of, control_hears, control_wakes, new_head, publish, published_by, pages_of, laid_from, reference_at, squeezed_in, tree_put, lay_tree, named, file_in, lay_file, layout_in, commit_in, commit_put, lay_commit, kind_sought, survey_roots, settled, surveyed, window_of, survey, rooted, sum_at, spelled_in, summed, sum_next, sum_came, compared, compare, changed, against, load_old, opened, found_file, ask_tip, loaded, load, under_tip, tip_came, log_from, logged, lays, tight, again, started, recalled, file_came, resumed, control_resumes, control_client}
use Rattle.house.specs.declared.control.Control.{Control}
use Rattle.house.specs.declared.control.Phase.{Phase}
use Rattle.house.specs.declared.control.Phase.TheVariants.{Resting, Recalling, Sweeping, Loading, Surveying, LayingFile, LayingTree, Publishing, Opening, Showing, Comparing, OpeningTip, LoadingOld, Summing, LayingCommit, OpeningLogged, ShowingLogged}
use Rattle.house.specs.declared.control.Task.{Task}
use Rattle.house.specs.declared.control.Task.TheVariants.{Nothing, Write, Drop, Read, Status, Leave, Note, Log, View}
use Rattle.house.proofs.Sheets.{shown_fits, text_parts}

-- CELLS
Few : Control → Type 0
Few k = small (control_saves k) ≡ true

-- a code stands for what it was made of, and is small
task_kept : (t : Task) → (task_in (task_code t) ≡ t) × (task_code t < 2 ^ 64)
task_kept Nothing = (refl, omega arith)
task_kept Write = (refl, omega arith)
task_kept Drop = (refl, omega arith)
task_kept Read = (refl, omega arith)
task_kept Status = (refl, omega arith)
task_kept Leave = (refl, omega arith)
task_kept Note = (refl, omega arith)
task_kept Log = (refl, omega arith)
task_kept View = (refl, omega arith)

phase_kept : (p : Phase) → (phase_in (phase_code p) ≡ p) × (phase_code p < 2 ^ 64)
phase_kept Resting = (refl, omega arith)
phase_kept Recalling = (refl, omega arith)
phase_kept Sweeping = (refl, omega arith)
phase_kept Loading = (refl, omega arith)
phase_kept Surveying = (refl, omega arith)
phase_kept LayingFile = (refl, omega arith)
phase_kept LayingTree = (refl, omega arith)
phase_kept Publishing = (refl, omega arith)
phase_kept Opening = (refl, omega arith)
phase_kept Showing = (refl, omega arith)
phase_kept Comparing = (refl, omega arith)
phase_kept OpeningTip = (refl, omega arith)
phase_kept LoadingOld = (refl, omega arith)
phase_kept Summing = (refl, omega arith)
phase_kept LayingCommit = (refl, omega arith)
phase_kept OpeningLogged = (refl, omega arith)
phase_kept ShowingLogged = (refl, omega arith)

kind_small : (t : Task) → kind_sought t < 2 ^ 64
kind_small Nothing = omega arith
kind_small Write = omega arith
kind_small Drop = omega arith
kind_small Read = omega arith
kind_small Status = omega arith
kind_small Leave = omega arith
kind_small Note = omega arith
kind_small Log = omega arith
kind_small View = omega arith

control_kept : (k : Control) → control_loads (control_saves k) ≡ k
unfolding control_saves
control_kept k =
    ap (λ t. control k.house k.houses k.pages t (phase_in (phase_code k.phase)) k.bytes k.sum k.page k.root k.cursor k.version (sweep_in (sweep_cells k.sweep)) k.walk) (task_kept k.task).0
    ∙ ap (λ p. control k.house k.houses k.pages k.task p k.bytes k.sum k.page k.root k.cursor k.version (sweep_in (sweep_cells k.sweep)) k.walk) (phase_kept k.phase).0
    ∙ ap (λ s. control k.house k.houses k.pages k.task k.phase k.bytes k.sum k.page k.root k.cursor k.version s k.walk) (sweep_kept k.sweep)

control_long : (k : Control) → length (control_saves k) ≡ 120
unfolding control_saves
control_long k = omega (arith, length_zeros 78)

loads_few : (cs : List ℕ) → small cs ≡ true → Few (control_loads cs)
unfolding Few control_saves
loads_few cs h =
    small_from _ _ (at 0) (small_from _ _ (at 1) (small_from _ _ (at 2) (small_from _ _ (task_kept (task_in (get_or cs 3 0))).1 (small_from _ _ (phase_kept (phase_in (get_or cs 4 0))).1
    (small_from _ _ (at 5) (small_from _ _ (at 6) (small_from _ _ (at 7) (small_from _ _ (at 8) (small_from _ _ (at 9)
    (small_from _ _ (at 10) (small_from _ _ (at 11) (small_from _ _ (at 12) (small_from _ _ (at 13)
    (small_append (sweep_cells s) (walk_cells w ++ noted) (small_sweep_in (take 14 (drop 14 cs)) (small_take 14 (drop 14 cs) (small_drop 14 cs h)))
    (small_append (walk_cells w) noted (small_walk_in (take 9 (drop 28 cs)) (small_take 9 (drop 28 cs) (small_drop 28 cs h)))
    (small_from _ _ (at 37) (small_from _ _ (at 38) (small_from _ _ (at 39) (small_from _ _ (at 40) (small_from _ _ (at 41) (small_zeros 78)))))))))))))))))))))
  where
    at : (i : ℕ) → get_or cs i 0 < 2 ^ 64
    at i = small_get_or cs i h

    s : Sweep
    s = sweep_in (take 14 (drop 14 cs))

    w : Walk
    w = walk_in (take 9 (drop 28 cs))

    noted : List ℕ
    noted = get_or cs 37 0 ∷ get_or cs 38 0 ∷ get_or cs 39 0 ∷ get_or cs 40 0 ∷ get_or cs 41 0 ∷ zeros 78

noted_few : (k : Control) (stamp : ℕ) (parent : Key) → stamp < 2 ^ 64 → small (key_words parent) ≡ true → Few k →
    Few (control k.house k.houses k.pages k.task k.phase k.bytes k.sum k.page k.root k.cursor (version stamp parent) k.sweep k.walk)
unfolding Few control_saves
noted_few k stamp parent s p h = small_over 37 (stamp ∷ key_words parent) (control_saves k) (small_from stamp (key_words parent) s p) h

wakes_few : (k : Control) (c hs ps : ℕ) → Few k → Few (control_wakes k c hs ps)
unfolding Few control_saves small
wakes_few k c hs ps h =
    small_from (capped c) (capped hs ∷ capped ps ∷ others) (omega arith) (small_from (capped hs) (capped ps ∷ others) (omega arith)
    (small_from (capped ps) others (omega arith) (small_drop 14 (control_saves (stamped 0 k)) (noted_few k 0 no_sum (omega arith) refl h))))
  where
    others : List ℕ
    others = 0 ∷ 0 ∷ 0 ∷ 0 ∷ 0 ∷ 0 ∷ 0 ∷ 0 ∷ 0 ∷ 0 ∷ 0 ∷ drop 14 (control_saves (stamped 0 k))

module _ (k : Control) (h : Few k) where
  phase_few : (p : Phase) → Few (at_phase p k)
  unfolding Few control_saves
  phase_few p = small_set (control_saves k) 4 (phase_code p) h (phase_kept p).1

  sweeping_few : (s : Sweep) → small (sweep_cells s) ≡ true → Few (sweeping k s)
  unfolding Few control_saves
  sweeping_few s c = small_over 14 (sweep_cells s) (control_saves (at_phase Sweeping k)) c (phase_few Sweeping)

  surveying_few : (w : Walk) → small (walk_cells w) ≡ true → Few (surveying k w)
  unfolding Few control_saves
  surveying_few w c = small_over 28 (walk_cells w) (control_saves (at_phase Surveying k)) c (phase_few Surveying)

  laying_few : (p : Phase) (page root : ℕ) → page < 2 ^ 64 → root < 2 ^ 64 → Few (laying p page root k)
  unfolding Few control_saves
  laying_few p page root a b = small_set (set (control_saves (at_phase p k)) 6 page) 7 root (small_set (control_saves (at_phase p k)) 6 page (phase_few p) a) b

  comparing_few : (c : Cursor) → c.old < 2 ^ 64 → c.new < 2 ^ 64 → Few (comparing c k)
  unfolding Few control_saves
  comparing_few c a b =
      small_set (set (control_saves (at_phase Comparing k)) 8 c.old) 9 c.new (small_set (control_saves (at_phase Comparing k)) 8 c.old (phase_few Comparing) a) b

  hearing_few : (t : Task) (bytes : ℕ) (s : Key) → bytes < 2 ^ 64 → small (key_words s) ≡ true → Few (hearing t bytes s k)
  unfolding Few control_saves small
  hearing_few t bytes s b c =
      small_over 8 (0 ∷ 0 ∷ key_words s) (set (set (control_saves (at_phase Recalling k)) 3 (task_code t)) 5 bytes) c
      (small_set (set (control_saves (at_phase Recalling k)) 3 (task_code t)) 5 bytes
      (small_set (control_saves (at_phase Recalling k)) 3 (task_code t) (phase_few Recalling) (task_kept t).1) b)

  identified_few : (id : Key) → small (key_words id) ≡ true → Few (identified id k)
  unfolding Few control_saves
  identified_few id c = small_over 10 (key_words id) (control_saves k) c h

  counted_few : (i : ℕ) → i < 2 ^ 64 → Few (counted i k)
  unfolding Few control_saves
  counted_few i a = small_set (set (control_saves (at_phase Summing k)) 8 i) 9 0 (small_set (control_saves (at_phase Summing k)) 8 i (phase_few Summing) a) (omega arith)

  logging_few : (next : ℕ) → next < 2 ^ 64 → Few (logging next k)
  unfolding Few control_saves
  logging_few next a = small_set (control_saves (at_phase ShowingLogged k)) 7 next (phase_few ShowingLogged) a

  stamp_few : k.version.stamp < 2 ^ 64
  unfolding Few control_saves
  stamp_few = small_get_or (control_saves k) 37 h

  sum_few : small (key_words k.sum) ≡ true
  unfolding Few control_saves
  sum_few = small_take 4 (drop 10 (control_saves k)) (small_drop 10 (control_saves k) h)

  page_few : k.page < 2 ^ 64
  unfolding Few control_saves
  page_few = small_get_or (control_saves k) 6 h

  root_few : k.root < 2 ^ 64
  unfolding Few control_saves
  root_few = small_get_or (control_saves k) 7 h

  rooted_few : (root : ℕ) → root < 2 ^ 64 → Few (rooted root k)
  unfolding Few control_saves
  rooted_few root l = small_set (control_saves k) 7 root h l

  cursor_few : (k.cursor.old < 2 ^ 64) × (k.cursor.new < 2 ^ 64)
  unfolding Few control_saves
  cursor_few = (small_get_or (control_saves k) 8 h, small_get_or (control_saves k) 9 h)

  sweep_few : small (sweep_cells k.sweep) ≡ true
  unfolding Few control_saves
  sweep_few = small_take 14 (drop 14 (control_saves k)) (small_drop 14 (control_saves k) h)

  walk_few : small (walk_cells k.walk) ≡ true
  unfolding Few control_saves
  walk_few = small_take 9 (drop 28 (control_saves k)) (small_drop 28 (control_saves k) h)

-- PARTS
part_long : (g k : ℕ) (m : List ℕ) → g + k ≤ length m → length (take k (drop g m)) ≡ k
part_long g k m fits = length-take-le k (drop g m) (omega (arith, length-drop g m))

part_short : (g k : ℕ) (m : List ℕ) → length (take k (drop g m)) ≤ k
part_short g k m = omega (arith, length-take k (drop g m))

part_few : (g k : ℕ) (m : List ℕ) → small m ≡ true → small (take k (drop g m)) ≡ true
part_few g k m h = small_take k (drop g m) (small_drop g m h)

-- bytes with zeros behind them
padded_few : (n i : ℕ) (bs : List ℕ) → all_bytes bs ≡ true → small (words n (bs ++ zeros i)) ≡ true
padded_few n i bs h = words_small n (bs ++ zeros i) (all_bytes_append bs (zeros i) ∙ ap₂ ◌&&◌ h (bytes_zeros i))

key_few : (q : List ℕ) → a_name q ≡ true → small (key_of q) ≡ true
unfolding key_of small
key_few q h =
    small_append (words 8 (q ++ zeros (64 - length q))) (length q ∷ []) (padded_few 8 (64 - length q) q (proper_parts q h).1)
    (small_from (length q) [] (omega (arith, (proper_parts q h).0)) refl)

-- a difference is within the rows, or where it was looked for from on
abbrev Within : ℕ → ℕ → Option Difference → Type 0
Within a b None = Unit {0}
Within a b (Some d) = (d.next.old ≤ a) × (d.next.new ≤ b)

difference_within : (fs gs : Tree) (i j : ℕ) → Within (i + length fs) (j + length gs) (first_difference fs gs i j)
unfolding first_difference
difference_within [] [] i j = tt
difference_within [] (g ∷ gs) i j = (omega arith, omega arith)
difference_within (f ∷ fs) [] i j = (omega arith, omega arith)
difference_within (f ∷ fs) (g ∷ gs) i j =
    pick_both (Within (i + suc (length fs)) (j + suc (length gs))) (meets (f ∷ fs) (g ∷ gs)) (first_difference fs gs (i + 1) (j + 1)) (difference_here (f ∷ fs) (g ∷ gs) i j)
    (λ _. subst₂ (λ a b. Within a b (first_difference fs gs (i + 1) (j + 1))) (omega arith) (omega arith) (difference_within fs gs (i + 1) (j + 1)))
    (λ _. pick_both (Within (i + suc (length fs)) (j + suc (length gs))) (same f.path g.path) (differs (Changed j) (i + 1) (j + 1))
    (pick (earlier f.path g.path) (differs (Gone i) (i + 1) j) (differs (New j) i (j + 1))) (λ _. (omega arith, omega arith))
    (λ _. pick_both (Within (i + suc (length fs)) (j + suc (length gs))) (earlier f.path g.path) (differs (Gone i) (i + 1) j) (differs (New j) i (j + 1))
    (λ _. (omega arith, omega arith)) (λ _. (omega arith, omega arith))))

left_short : (i : ℕ) (ws : List ℕ) → i < 2 ^ 64 → i + length (drop i (entries_of ws)) < 2 ^ 64
left_short i ws l = omega (arith, length-drop i (entries_of ws), length_cut (min (get_or ws 0 0) (room ws)) (drop 2 ws))

-- an answer of a row that is squeezed is no more than there is room for
Answered : ℕ → Option ℕ → Type 0
Answered n None = Unit {0}
Answered n (Some words) = words ≤ n

answer_fits : (ws out : List ℕ) → Answered (length out) (squeeze_answer ws out)
unfolding squeeze_answer Answered
answer_fits ws out =
    pick_both (Answered (length out)) (leb (length (squeezed ws)) (length out)) (Some (length (squeezed ws))) None (λ f. leb-true (length (squeezed ws)) (length out) f) (λ _. tt)

-- the file that is laid
module _ (k : Control) (m : List ℕ) (stand : bytes_stand 65535 k.bytes bytes_at m ≡ true) where
  file_short : length (file_in k m) ≤ 8198
  file_short = omega (arith, as_many 65535 k.bytes bytes_at m stand, at_most 65535 k.bytes bytes_at m stand)

  file_few : Few k → small m ≡ true → small (file_in k m) ≡ true
  file_few h hm =
      small_from (heading 1 0 (6 + length (words_at k.bytes bytes_at m))) ((64 + k.bytes) ∷ (key_words k.sum ++ words_at k.bytes bytes_at m)) (omega (arith, file_short))
      (small_from (64 + k.bytes) (key_words k.sum ++ words_at k.bytes bytes_at m) (omega (arith, at_most 65535 k.bytes bytes_at m stand))
      (small_append (key_words k.sum) (words_at k.bytes bytes_at m) (sum_few k h) (part_few bytes_at (words_for k.bytes) m hm)))

-- the commit that is laid
module _ (k : Control) (m : List ℕ) (fit : commit_fits (layout_in k m) bytes_at m ≡ true) where
  words_stand : bytes_stand 65535 k.bytes bytes_at m ≡ true
  words_stand = (and_parts (bytes_stand 65535 k.bytes bytes_at m) (leb (256 + k.bytes + get_or (row_of m) 1 0) 9223372036854775808) fit).0

  commit_short : length (commit_in k m) ≤ 8203
  commit_short = omega (arith, as_many 65535 k.bytes bytes_at m words_stand, at_most 65535 k.bytes bytes_at m words_stand)

  commit_weighs : 256 + k.bytes + get_or (row_of m) 1 0 ≤ 9223372036854775808
  commit_weighs =
      leb-true (256 + k.bytes + get_or (row_of m) 1 0) 9223372036854775808
      (and_parts (bytes_stand 65535 k.bytes bytes_at m) (leb (256 + k.bytes + get_or (row_of m) 1 0) 9223372036854775808) fit).1

  commit_few : Few k → small m ≡ true → small (commit_in k m) ≡ true
  commit_few h hm =
      small_from (heading 3 3 (11 + length ws)) _ (omega (arith, commit_short))
      (small_from (256 + k.bytes + get_or (row_of m) 1 0) _ (omega (arith, commit_weighs))
      (small_from (head_word m 2) _ (small_get_or m (head_at + 2) hm) (small_from (head_word m 3) _ (small_get_or m (head_at + 3) hm) (small_from 0 _ (omega arith)
      (small_append (key_words k.sum) (k.version.stamp ∷ get_or (row_of m) 1 0 ∷ ws) (sum_few k h)
      (small_from k.version.stamp _ (stamp_few k h) (small_from (get_or (row_of m) 1 0) ws (small_get_or (row_of m) 1 (part_few row_at row_words m hm)) (part_few bytes_at (words_for k.bytes) m hm))))))))
    where
      ws : List ℕ
      ws = words_at k.bytes bytes_at m

-- what is read of a commit
ReadFew : Option Layout → Type 0
ReadFew None = Unit {0}
ReadFew (Some o) = (small (key_words o.id) ≡ true) × (o.tree < 2 ^ 64) × (o.one < 2 ^ 64) × (o.tree_weight < 2 ^ 64)

read_few : (m : List ℕ) → small m ≡ true → ReadFew (commit_read m)
unfolding ReadFew small
read_few m h =
    pick_both ReadFew (of_kind 3 m) (Some (commit_at m)) None
    (λ _. (
      small_from (get_or m 5 0) (get_or m 6 0 ∷ get_or m 7 0 ∷ get_or m 8 0 ∷ []) (small_get_or m 5 h)
          (small_from (get_or m 6 0) (get_or m 7 0 ∷ get_or m 8 0 ∷ []) (small_get_or m 6 h)
          (small_from (get_or m 7 0) (get_or m 8 0 ∷ []) (small_get_or m 7 h) (small_from (get_or m 8 0) [] (small_get_or m 8 h) refl))),
      small_get_or m 2 h,
      small_get_or m 3 h,
      small_get_or m 10 h,
    ))
    (λ _. tt)

window_few : (k : Control) (m : List ℕ) → Few k → small (walk_cells (window_of k m)) ≡ true
unfolding small
window_few k m h =
    small_from (capped (8 * head_word m 0)) (capped (8 * (head_word m 1 - head_word m 0)) ∷ 0 ∷ kind_sought k.task ∷ sought_for) (omega arith)
    (small_from (capped (8 * (head_word m 1 - head_word m 0))) (0 ∷ kind_sought k.task ∷ sought_for) (omega arith)
    (small_from (kind_sought k.task) sought_for (kind_small k.task) (small_append (key_words k.sum) (0 ∷ []) (sum_few k h) refl)))
  where
    sought_for : List ℕ
    sought_for = key_words k.sum ++ 0 ∷ []

module _ (sum : Sum) (P : Type 0) (n : ℕ) where
  -- so many words of memory, and numbers below 2^64 if something holds
  record Fits (a : Asked Control) : Type 0 where
    long : length a.memory ≡ n
    few : P → Small (control_client sum) a

  asks : (k : Control) (m : List ℕ) (q : Request) → (P → Few k) → Bounded P n m → (P → small (request_cells q) ≡ true) → Fits (asked k m q)
  unfolding Few
  asks k m q c b r = record { long = b.long; few = λ p. record { state = c p; memory = b.few p; request = r p } }

  refuses : (k : Control) (m : List ℕ) (i : ℕ) → i < 2 ^ 64 → (P → Few k) → Bounded P n m → Fits (asked k m (Refuse i))
  unfolding small
  refuses k m i l c b = asks k m (Refuse i) c b (λ _. small_from i [] l refl)

  -- marking and sweeping, in this client
  fits_on : {S : Type 0} (cells : S → List ℕ) (put : S → Control) (back : S → List ℕ → Asked Control) (v : Turn S) → length v.memory ≡ n → (P → SmallTurn cells v) →
      ((s : S) → P → small (cells s) ≡ true → Few (put s)) →
      ((s : S) (m : List ℕ) → (P → small (cells s) ≡ true) → Bounded P n m → Fits (back s m)) →
      Fits (asked_on put back v.state v.memory v.request)
  fits_on cells put back v l t saves goes = go v.request (λ p. (t p).request)
    where
      here : Bounded P n v.memory
      here = record { long = l; few = λ p. (t p).memory }

      go : (q : Option Request) → (P → small (asked_cells q) ≡ true) → Fits (asked_on put back v.state v.memory q)
      go None h = goes v.state v.memory (λ p. (t p).state) here
      go (Some q) h = asks (put v.state) v.memory q (λ p. saves v.state p (t p).state) here h

  -- MEMORY is long enough
  module _ (room : desk_end ≤ n) where
    bounded_row : (ws m : List ℕ) → length ws ≡ length (row_of m) → (P → small ws ≡ true) → Bounded P n m → Bounded P n (with_row ws m)
    bounded_row ws m e few b = bounded_over P n row_at ws m (omega (arith, e, part_short row_at row_words m)) few b

    key_is_long : (m : List ℕ) → Bounded P n m → length (path_key m) ≡ 9
    key_is_long m b = part_long path_at 9 m (omega (arith, b.long))

    bounded_named : (r : ℕ) (m : List ℕ) → (P → r < 2 ^ 64) → Bounded P n m → Bounded P n (named r m)
    bounded_named r m l b =
        bounded_row (put_key (path_key m) (entry_weight m) r (row_of m)) m (length_put_key (path_key m) (row_of m) (entry_weight m) r (key_is_long m b))
        (λ p. small_put_key (path_key m) (row_of m) (entry_weight m) r (key_is_long m b) (part_few path_at 9 m (b.few p)) (part_few row_at row_words m (b.few p)) (l p)) b

    bounded_bytes : (at : ℕ) (bs m : List ℕ) → (P → all_bytes bs ≡ true) → Bounded P n m → Bounded P n (bytes_put at bs m)
    bounded_bytes at bs m h b =
        pick_both (Bounded P n) (leb (at + words_for (length bs)) (length m)) (over at (packed_bytes bs) m) m
        (λ f. bounded_over P n at (packed_bytes bs) m
        (omega (arith, leb-true (at + words_for (length bs)) (length m) f, b.long, length_words (words_for (length bs)) (bs ++ zeros 7)))
        (λ p. padded_few (words_for (length bs)) 7 bs (h p)) b)
        (λ _. b)

    bounded_emptied : (m : List ℕ) (at : ℕ) → at ≤ row_at → Bounded P n m → Bounded P n (emptied at m)
    unfolding small
    bounded_emptied m at le b = bounded_over P n at (0 ∷ 0 ∷ []) m (omega arith) (λ _. refl) b

    bounded_squeezed : (m : List ℕ) → Bounded P n m → Bounded P n (squeezed_in m)
    bounded_squeezed m b =
        record {
          long =
              length-append (squeeze_into (row_of m) (take buffer_words m)) (drop buffer_words m) ∙ ap (λ i. i + length (drop buffer_words m)) (length_squeeze_into (row_of m) (take buffer_words m))
              ∙ sym (length-append (take buffer_words m) (drop buffer_words m)) ∙ ap length (take-append-drop buffer_words m) ∙ b.long;
          few =
              λ p. small_append (squeeze_into (row_of m) (take buffer_words m)) (drop buffer_words m)
              (small_squeeze_into (row_of m) (take buffer_words m) (part_few row_at row_words m (b.few p)) (small_take buffer_words m (b.few p))) (small_drop buffer_words m (b.few p));
        }

    -- LAYING AND PUBLISHING
    module _ (k : Control) (c : P → Few k) where
      finishes : (m : List ℕ) → Bounded P n m → Fits (asked k m Done)
      unfolding small
      finishes m b = asks k m Done c b (λ _. refl)

      publishes : (m : List ℕ) (page root tip : ℕ) → (P → page < 2 ^ 64) → (P → root < 2 ^ 64) → (P → tip < 2 ^ 64) → Bounded P n m → Fits (publish k m page root tip)
      unfolding small
      publishes m page root tip pc rc tc b =
          asks (at_phase Publishing k) (over 0 (new_head page root tip m) m) Publish (λ p. phase_few k (c p) Publishing)
          (bounded_over P n 0 (new_head page root tip m) m (omega (arith, length-drop 4 (take 32 (drop head_at m)), part_short head_at 32 m))
          (λ p. small_from (head_word m 0) (page ∷ root ∷ tip ∷ others) (small_get_or m head_at (b.few p))
          (small_from page (root ∷ tip ∷ others) (pc p) (small_from root (tip ∷ others) (rc p)
          (small_from tip others (tc p) (small_drop 4 (take 32 (drop head_at m)) (part_few head_at 32 m (b.few p))))))) b)
          (λ _. refl)
        where
          others : List ℕ
          others = drop 4 (take 32 (drop head_at m))

      -- a word of the head
      word_few : (m : List ℕ) (i : ℕ) → Bounded P n m → P → head_word m i < 2 ^ 64
      word_few m i b p = small_get_or m (head_at + i) (b.few p)

      published_fits : (m : List ℕ) (t : Task) → Bounded P n m → Fits (published_by k m t)
      unfolding small
      published_fits m Nothing b = finishes m b
      published_fits m Write b = finishes m b
      published_fits m Drop b = finishes m b
      published_fits m Read b = finishes m b
      published_fits m Status b = finishes m b
      published_fits m Leave b = finishes m b
      published_fits m Note b =
          asks (at_phase Showing k) (over 0 (key_words k.sum) m) (Show 32) (λ p. phase_few k (c p) Showing)
          (bounded_over P n 0 (key_words k.sum) m (omega arith) (λ p. sum_few k (c p)) b) (λ _. small_from 32 [] (omega arith) refl)
      published_fits m Log b = finishes m b
      published_fits m View b = finishes m b

      lays_from : (f : Phase) (m : List ℕ) (page words root : ℕ) → (P → page < 2 ^ 64) → words ≤ buffer_words → (P → root < 2 ^ 64) → Bounded P n m →
          Fits (laid_from f k m page words root)
      unfolding small
      lays_from f m page words root pc few rc b =
          asks (laying f (capped (page + pages_of words)) root k) m (Lay page (pages_of words)) (λ p. laying_few k (c p) f (capped (page + pages_of words)) root (omega arith) (rc p)) b
          (λ p. small_from page (pages_of words ∷ []) (pc p) (small_from (pages_of words) [] (omega arith) refl))

      puts_tree : (m : List ℕ) (page : ℕ) (o : Option ℕ) → (P → page < 2 ^ 64) → Answered (length (take buffer_words m)) o → Bounded P n m →
          Fits (tree_put k m page o)
      unfolding Answered
      puts_tree m page None pc few b = refuses k (squeezed_in m) 2 (omega arith) c (bounded_squeezed m b)
      puts_tree m page (Some words) pc few b =
          lays_from LayingTree (squeezed_in m) page words (reference_at page) pc (omega (arith, few, part_short 0 buffer_words m)) (λ _. omega arith) (bounded_squeezed m b)

      lays_tree : (m : List ℕ) (page : ℕ) → (P → page < 2 ^ 64) → Bounded P n m → Fits (lay_tree k m page)
      lays_tree m page pc b = puts_tree m page (squeeze_answer (row_of m) (take buffer_words m)) pc (answer_fits (row_of m) (take buffer_words m)) b

      lays_file : (m : List ℕ) (page : ℕ) → (P → page < 2 ^ 64) → Bounded P n m → Fits (lay_file k m page)
      lays_file m page pc b =
          pick_both Fits (bytes_stand 65535 k.bytes bytes_at m)
          (laid_from LayingFile k (named (reference_at page) (over 0 (file_in k m) m)) page (length (file_in k m)) k.root) (asked k m (Refuse 2))
          (λ f. lays_from LayingFile (named (reference_at page) (over 0 (file_in k m) m)) page (length (file_in k m)) k.root pc (omega (arith, file_short k m f)) (λ p. root_few k (c p))
          (bounded_named (reference_at page) (over 0 (file_in k m) m) (λ _. omega arith)
          (bounded_over P n 0 (file_in k m) m (omega (arith, file_short k m f)) (λ p. file_few k m f (c p) (b.few p)) b)))
          (λ _. refuses k m 2 (omega arith) c b)

      lays_commit : (m : List ℕ) (page : ℕ) → (P → page < 2 ^ 64) → Bounded P n m → Fits (lay_commit k m page)
      lays_commit m page pc b = go (commit_fits (layout_in k m) bytes_at m) refl
        where
          go : (f : Bool) → commit_fits (layout_in k m) bytes_at m ≡ f → Fits (commit_put k (in_front f (commit_in k m) m) page (answered f (commit_in k m)))
          go true f =
              lays_from LayingCommit (over 0 (commit_in k m) m) page (length (commit_in k m)) (reference_at page) pc (omega (arith, commit_short k m f)) (λ _. omega arith)
              (bounded_over P n 0 (commit_in k m) m (omega (arith, commit_short k m f)) (λ p. commit_few k m f (c p) (b.few p)) b)
          go false f = refuses k m 2 (omega arith) c b

    -- THE SURVEY
    module _ (k : Control) (c : P → Few k) where
      settles : (w : Walk) (m : List ℕ) (t : Task) → (P → small (walk_cells w) ≡ true) → Bounded P n m → Fits (settled k w m t)
      settles w m Nothing wc b = finishes k c m b
      settles w m Write wc b =
          pick_both Fits (eqb w.found 0) (lay_file k m (head_word m 1)) (lay_tree k (named w.found m) (head_word m 1))
          (λ _. lays_file k c m (head_word m 1) (word_few k c m 1 b) b)
          (λ _. lays_tree k c (named w.found m) (head_word m 1) (word_few k c m 1 b) (bounded_named w.found m (λ p. small_get_or (walk_cells w) 8 (wc p)) b))
      settles w m Drop wc b = finishes k c m b
      settles w m Read wc b = finishes k c m b
      settles w m Status wc b = finishes k c m b
      settles w m Leave wc b = publishes k c m (head_word m 1) k.root (head_word m 3) (word_few k c m 1 b) (λ p. root_few k (c p)) (word_few k c m 3 b) b
      settles w m Note wc b =
          pick_both Fits (eqb w.found 0) (lay_commit k m (head_word m 1)) (publish k m (head_word m 1) (head_word m 2) w.found)
          (λ _. lays_commit k c m (head_word m 1) (word_few k c m 1 b) b)
          (λ _. publishes k c m (head_word m 1) (head_word m 2) w.found (word_few k c m 1 b) (word_few k c m 2 b) (λ p. small_get_or (walk_cells w) 8 (wc p)) b)
      settles w m Log wc b = finishes k c m b
      settles w m View wc b = finishes k c m b

    module _ (k : Control) (c : P → Few k) where
      survey_done : (w : Walk) (m : List ℕ) → (P → small (walk_cells w) ≡ true) → Bounded P n m → Fits (surveyed k w m)
      survey_done w m wc b =
          pick_both Fits (ltb (quarter (min k.pages 4294967296)) (kept k w m)) (asked (surveying k w) m (Refuse 8)) (settled (surveying k w) w m k.task)
          (λ _. refuses (surveying k w) m 8 (omega arith) on b) (λ _. settles (surveying k w) on w m k.task wc b)
        where
          on : P → Few (surveying k w)
          on p = surveying_few k (c p) w (wc p)

      walks : (v : Turn Walk) → length v.memory ≡ n → (P → SmallTurn walk_cells v) → Fits (asked_on (surveying k) (surveyed k) v.state v.memory v.request)
      walks v l t = fits_on walk_cells (surveying k) (surveyed k) v l t (λ w p h. surveying_few k (c p) w h) survey_done

      surveys : (m : List ℕ) → Bounded P n m → Fits (survey k m)
      surveys m b =
          walks (sought (window_of k m) m₁) (sought_length (window_of k m) m₁ ∙ b₁.long) (λ p. sought_small (window_of k m) m₁ (window_few k m (c p)) (b₁.few p))
        where
          m₁ : List ℕ
          m₁ = begun (capped (8 * head_word m 0)) (survey_roots k.task m) m

          b₁ : Bounded P n (begun (capped (8 * head_word m 0)) (survey_roots k.task m) m)
          b₁ = bounded_begun P n (capped (8 * head_word m 0)) (survey_roots k.task m) m (omega arith) b

      -- WHAT IS ASKED FOR, and shown
      objects : (f : Phase) (m : List ℕ) (r : ℕ) → Bounded P n m → Fits (asked (at_phase f k) m (Object (capped (8 * (r - 1))) buffer_words))
      unfolding small
      objects f m r b =
          asks (at_phase f k) m (Object (capped (8 * (r - 1))) buffer_words) (λ p. phase_few k (c p) f) b
          (λ _. small_from (capped (8 * (r - 1))) (buffer_words ∷ []) (omega arith) refl)

      compares_by : (m : List ℕ) (x y : ℕ) (o : Option Difference) → (P → x < 2 ^ 64) → (P → y < 2 ^ 64) → Within x y o → Bounded P n m → Fits (compared k m o)
      unfolding small
      compares_by m x y None xc yc w b = asks k m Done c b (λ _. refl)
      compares_by m x y (Some d) xc yc w b =
          asks (comparing d.next k) (bytes_put 0 text m) (Show (length text)) (λ p. comparing_few k (c p) d.next (omega (arith, xc p, w.0)) (omega (arith, yc p, w.1)))
          (bounded_bytes 0 text m (λ _. (shown_fits (old_row_of m) (row_of m) d.place).1) b)
          (λ _. small_from (length text) [] (omega (arith, (shown_fits (old_row_of m) (row_of m) d.place).0)) refl)
        where
          text : List ℕ
          text = shown (old_row_of m) (row_of m) d.place

      compares : (m : List ℕ) → Bounded P n m → Fits (compare k m)
      unfolding difference_from
      compares m b =
          compares_by m (k.cursor.old + length (drop k.cursor.old (entries_of (old_row_of m)))) (k.cursor.new + length (drop k.cursor.new (entries_of (row_of m))))
          (difference_from (old_row_of m) (row_of m) k.cursor)
          (λ p. left_short k.cursor.old (old_row_of m) (cursor_few k (c p)).0) (λ p. left_short k.cursor.new (row_of m) (cursor_few k (c p)).1)
          (difference_within (drop k.cursor.old (entries_of (old_row_of m))) (drop k.cursor.new (entries_of (row_of m))) k.cursor.old k.cursor.new) b

      opens : (m : List ℕ) (o : Option ℕ) → Bounded P n m → Fits (opened k m o)
      opens m None b = refuses k m 3 (omega arith) c b
      opens m (Some r) b = objects Opening m r b

      finds : (m : List ℕ) → Bounded P n m → Fits (found_file k m)
      finds m b = opens m (reference_in (found (entries_of (row_of m)) (path_key m))) b

      shows : (m : List ℕ) (o : Option ℕ) → Bounded P n m → Fits (file_came k m o)
      unfolding small
      shows m None b = refuses k m 2 (omega arith) c b
      shows m (Some bytes) b =
          asks (at_phase Showing k) (over 0 (take (words_for (min bytes 65535)) (drop 6 m)) m) (Show (min bytes 65535)) (λ p. phase_few k (c p) Showing)
          (bounded_over P n 0 (take (words_for (min bytes 65535)) (drop 6 m)) m (omega (arith, part_short 6 (words_for (min bytes 65535)) m))
          (λ p. part_few 6 (words_for (min bytes 65535)) m (b.few p)) b)
          (λ _. small_from (min bytes 65535) [] (omega arith) refl)

      -- the log
      logs : (m : List ℕ) (r : ℕ) → Bounded P n m → Fits (log_from k m r)
      logs m r b =
          pick_both Fits (eqb r 0) (asked k m Done) (asked (at_phase OpeningLogged k) m (Object (capped (8 * (r - 1))) buffer_words))
          (λ _. finishes k c m b) (λ _. objects OpeningLogged m r b)

      shows_commit : (m : List ℕ) (o : Option Layout) → (P → ReadFew o) → Bounded P n m → Fits (logged k m o)
      unfolding ReadFew small
      shows_commit m None oc b = refuses k m 2 (omega arith) c b
      shows_commit m (Some o) oc b =
          asks (logging o.one k) (over 0 (key_words o.id ++ ws) m) (Show (32 + min o.bytes 65535)) (λ p. logging_few k (c p) o.one (oc p).2)
          (bounded_over P n 0 (key_words o.id ++ ws) m (omega (arith, part_short 11 (words_for (min o.bytes 65535)) m))
          (λ p. small_append (key_words o.id) ws (oc p).0 (part_few 11 (words_for (min o.bytes 65535)) m (b.few p))) b)
          (λ _. small_from (32 + min o.bytes 65535) [] (omega arith) refl)
        where
          ws : List ℕ
          ws = take (words_for (min o.bytes 65535)) (drop 11 m)

    -- WHAT IS NOTED, and what comes before
    module _ (sums : (bs : List ℕ) → every (λ b. ltb b 256) (sum bs) ≡ true) where
      module _ (k : Control) (c : P → Few k) where
        sums_all : (m : List ℕ) → Bounded P n m → Fits (summed sum k m)
        unfolding words all_bytes
        sums_all m b =
            surveys (identified (sum_key (sum (spelled_in k m))) k)
            (λ p. identified_few k (c p) (sum_key (sum (spelled_in k m))) (words_small 4 (sum (spelled_in k m)) (sums (spelled_in k m)))) m b

        sums_next : (m : List ℕ) (i : ℕ) → i < 2 ^ 64 → Bounded P n m → Fits (sum_next sum k m i)
        unfolding small
        sums_next m i l b =
            pick_both Fits (ltb i (held (row_of m))) (asked (counted i k) m (Object (capped (8 * (get_or (row_of m) (10 * i + 11) 0 - 1))) 6)) (summed sum k m)
            (λ _. asks (counted i k) m (Object (capped (8 * (get_or (row_of m) (10 * i + 11) 0 - 1))) 6) (λ p. counted_few k (c p) i l) b
            (λ _. small_from (capped (8 * (get_or (row_of m) (10 * i + 11) 0 - 1))) (6 ∷ []) (omega arith) refl))
            (λ _. sums_all m b)

        sum_comes : (m : List ℕ) → Bounded P n m → Fits (sum_came sum k m)
        sum_comes m b =
            sums_next (over (sum_at k.cursor.old) (take 4 (drop 2 m)) m) (capped (k.cursor.old + 1)) (omega arith)
            (bounded_over P n (sum_at k.cursor.old) (take 4 (drop 2 m)) m (omega (arith, part_short 2 4 m)) (λ p. part_few 2 4 m (b.few p)) b)

        changes : (m : List ℕ) → Bounded P n m → Fits (changed sum k m)
        changes m b =
            pick_both Fits (same_tree (entries_of (old_row_of m)) (entries_of (row_of m))) (asked k m (Refuse 7)) (sum_next sum k m 0)
            (λ _. refuses k m 7 (omega arith) c b) (λ _. sums_next m 0 (omega arith) b)

        against_fits : (m : List ℕ) (t : Task) → Bounded P n m → Fits (against sum k m t)
        against_fits m Nothing b = finishes k c m b
        against_fits m Write b = finishes k c m b
        against_fits m Drop b = finishes k c m b
        against_fits m Read b = finishes k c m b
        against_fits m Status b = compares k c m b
        against_fits m Leave b = finishes k c m b
        against_fits m Note b = changes m b
        against_fits m Log b = finishes k c m b
        against_fits m View b = finishes k c m b

        loads_old : (m : List ℕ) (root : ℕ) → Bounded P n m → Fits (load_old sum k m root)
        loads_old m root b =
            pick_both Fits (eqb root 0) (against sum k (emptied old_row_at m) k.task) (asked (at_phase LoadingOld k) m (Object (capped (8 * (root - 1))) buffer_words))
            (λ _. against_fits (emptied old_row_at m) k.task (bounded_emptied m old_row_at (omega arith) b)) (λ _. objects k c LoadingOld m root b)

        asks_tip : (m : List ℕ) → Bounded P n m → Fits (ask_tip k m)
        asks_tip m b = objects k c OpeningTip m (head_word m 3) b

        loads_last : (m : List ℕ) → Bounded P n m → Fits (loaded sum k m Note)
        loads_last m b = pick_both Fits (eqb (head_word m 3) 0) (load_old sum k m 0) (ask_tip k m) (λ _. loads_old m 0 b) (λ _. asks_tip m b)

        loads_by : (m : List ℕ) (t : Task) → Bounded P n m → Fits (loaded sum k m t)
        loads_by m Nothing b = finishes k c m b
        loads_by m Write b =
            pick_both Fits (room_for (path_key m) 0 (row_of m)) (survey k (named 0 m)) (asked k m (Refuse 10))
            (λ _. surveys k c (named 0 m) (bounded_named 0 m (λ _. omega arith) b)) (λ _. refuses k m 10 (omega arith) c b)
        loads_by m Drop b =
            pick_both Fits (has_key (path_key m) (row_of m))
            (lay_tree k (with_row (take_key (path_key m) (entry_weight m) (row_of m)) m) (head_word m 1)) (asked k m (Refuse 3))
            (λ _. lays_tree k c (with_row (take_key (path_key m) (entry_weight m) (row_of m)) m) (head_word m 1) (word_few k c m 1 b)
            (bounded_row (take_key (path_key m) (entry_weight m) (row_of m)) m (length_take_key (path_key m) (row_of m) (entry_weight m))
            (λ p. small_take_key (path_key m) (row_of m) (entry_weight m) (part_few row_at row_words m (b.few p))) b))
            (λ _. refuses k m 3 (omega arith) c b)
        loads_by m Read b = finds k c m b
        loads_by m Status b = loads_last m b
        loads_by m Leave b = finishes k c m b
        loads_by m Note b = loads_last m b
        loads_by m Log b = finishes k c m b
        loads_by m View b = finds k c m b

        loads : (m : List ℕ) (root : ℕ) → Bounded P n m → Fits (load sum k m root)
        loads m root b =
            pick_both Fits (eqb root 0) (loaded sum k (emptied row_at m) k.task) (asked (at_phase Loading k) m (Object (capped (8 * (root - 1))) buffer_words))
            (λ _. loads_by (emptied row_at m) k.task (bounded_emptied m row_at (omega arith) b)) (λ _. objects k c Loading m root b)

        puts_back : (m : List ℕ) (root weight : ℕ) → (P → root < 2 ^ 64) → (P → weight < 2 ^ 64) → Bounded P n m → Fits (survey (rooted root k) (over row_at (0 ∷ weight ∷ []) m))
        unfolding small
        puts_back m root weight rc wc b =
            surveys (rooted root k) (λ p. rooted_few k (c p) root (rc p)) (over row_at (0 ∷ weight ∷ []) m)
            (bounded_over P n row_at (0 ∷ weight ∷ []) m (omega arith) (λ p. small_from 0 (weight ∷ []) (omega arith) (small_from weight [] (wc p) refl)) b)

        unders : (m : List ℕ) (root weight : ℕ) (t : Task) → (P → root < 2 ^ 64) → (P → weight < 2 ^ 64) → Bounded P n m → Fits (under_tip sum k m root weight t)
        unders m root weight Nothing rc wc b = finishes k c m b
        unders m root weight Write rc wc b = finishes k c m b
        unders m root weight Drop rc wc b = finishes k c m b
        unders m root weight Read rc wc b = finishes k c m b
        unders m root weight Status rc wc b = loads_old m root b
        unders m root weight Leave rc wc b = puts_back m root weight rc wc b
        unders m root weight Note rc wc b = loads_old m root b
        unders m root weight Log rc wc b = finishes k c m b
        unders m root weight View rc wc b = loads m root b

      module _ (k : Control) (c : P → Few k) where
        tip_comes : (m : List ℕ) (o : Option Layout) → (P → ReadFew o) → Bounded P n m → Fits (tip_came sum k m o)
        unfolding ReadFew
        tip_comes m None oc b = refuses k m 2 (omega arith) c b
        tip_comes m (Some o) oc b =
            unders (coming_from o.id k) (λ p. noted_few k k.version.stamp o.id (stamp_few k (c p)) (oc p).0 (c p)) m o.tree o.tree_weight k.task (λ p. (oc p).1) (λ p. (oc p).3) b

        starts : (m : List ℕ) (t : Task) → Bounded P n m → Fits (started sum k m t)
        starts m Nothing b = finishes k c m b
        starts m Write b = loads k c m (head_word m 2) b
        starts m Drop b = loads k c m (head_word m 2) b
        starts m Read b = loads k c m (head_word m 2) b
        starts m Status b = loads k c m (head_word m 2) b
        starts m Leave b =
            pick_both Fits (eqb (head_word m 3) 0) (publish k m (head_word m 1) 0 0) (ask_tip k m)
            (λ _. publishes k c m (head_word m 1) 0 0 (word_few k c m 1 b) (λ _. omega arith) (λ _. omega arith) b) (λ _. asks_tip k c m b)
        starts m Note b = loads k c m (head_word m 2) b
        starts m Log b = logs k c m (head_word m 3) b
        starts m View b = pick_both Fits (eqb (head_word m 3) 0) (asked k m (Refuse 3)) (ask_tip k m) (λ _. refuses k m 3 (omega arith) c b) (λ _. asks_tip k c m b)

        sweeps : (v : Turn Sweep) → length v.memory ≡ n → (P → SmallTurn sweep_cells v) → Fits (asked_on (sweeping k) (again k) v.state v.memory v.request)
        unfolding small
        sweeps v l t =
            fits_on sweep_cells (sweeping k) (again k) v l t (λ s p h. sweeping_few k (c p) s h)
            (λ s m h b. asks (at_phase Recalling (sweeping k s)) m Recall (λ p. phase_few (sweeping k s) (sweeping_few k (c p) s (h p)) Recalling) b (λ _. refl))

        begins : (m : List ℕ) → Bounded P n m → Fits (recalled sum k m)
        begins m b =
            pick_both Fits (lays k.task && tight k.pages m) (asked_on (sweeping k) (again k) v.state v.memory v.request) (started sum k m k.task)
            (λ _. sweeps v (sweep_begun_length k.sweep m ∙ b.long) (λ p. sweep_begun_small k.sweep m (sweep_few k (c p)) (b.few p))) (λ _. starts m k.task b)
          where
            v : Turn Sweep
            v = sweep_begun k.sweep m

        resumes_by : (m : List ℕ) (f : Phase) → Bounded P n m → Fits (resumed sum k m f)
        resumes_by m Resting b = finishes k c m b
        resumes_by m Recalling b =
            begins (over head_at (take 32 m) m) (bounded_over P n head_at (take 32 m) m (omega (arith, part_short 0 32 m)) (λ p. small_take 32 m (b.few p)) b)
        resumes_by m Sweeping b = sweeps (sweep_went_on k.sweep m) (sweep_went_on_length k.sweep m ∙ b.long) (λ p. sweep_went_on_small k.sweep m (sweep_few k (c p)) (b.few p))
        resumes_by m Loading b =
            loads_by k c (with_row (spread_into (take buffer_words m) (row_of m)) m) k.task
            (bounded_row (spread_into (take buffer_words m) (row_of m)) m (length_spread_into (take buffer_words m) (row_of m))
            (λ p. small_spread_into (take buffer_words m) (row_of m) (small_take buffer_words m (b.few p)) (part_few row_at row_words m (b.few p))) b)
        resumes_by m Surveying b = walks k c (went_on k.walk m) (went_on_length k.walk m ∙ b.long) (λ p. went_on_small k.walk m (walk_few k (c p)) (b.few p))
        resumes_by m LayingFile b = lays_tree k c m k.page (λ p. page_few k (c p)) b
        resumes_by m LayingTree b = publishes k c m k.page k.root (head_word m 3) (λ p. page_few k (c p)) (λ p. root_few k (c p)) (word_few k c m 3 b) b
        resumes_by m Publishing b = published_fits k c m k.task b
        resumes_by m Opening b = shows k c m (file_read m) b
        resumes_by m Showing b = finishes k c m b
        resumes_by m Comparing b = compares k c m b
        resumes_by m OpeningTip b = tip_comes m (commit_read m) (λ p. read_few m (b.few p)) b
        resumes_by m LoadingOld b =
            against_fits k c (with_old_row (spread_into (take buffer_words m) (old_row_of m)) m) k.task
            (bounded_over P n old_row_at (spread_into (take buffer_words m) (old_row_of m)) m (omega (arith, length_spread_into (take buffer_words m) (old_row_of m), part_short old_row_at row_words m))
            (λ p. small_spread_into (take buffer_words m) (old_row_of m) (small_take buffer_words m (b.few p)) (part_few old_row_at row_words m (b.few p))) b)
        resumes_by m Summing b = sum_comes k c m b
        resumes_by m LayingCommit b = publishes k c m k.page (head_word m 2) k.root (λ p. page_few k (c p)) (word_few k c m 2 b) (λ p. root_few k (c p)) b
        resumes_by m OpeningLogged b = shows_commit k c m (commit_read m) (λ p. read_few m (b.few p)) b
        resumes_by m ShowingLogged b = logs k c m k.root b

        -- WHAT IS SAID
        bounded_path : (q m : List ℕ) → a_name q ≡ true → Bounded P n m → Bounded P n (path_put q m)
        bounded_path q m h b =
            pick_both (Bounded P n) (good_path q) (over path_at (key_of q) m) m
            (λ _. bounded_over P n path_at (key_of q) m (omega (arith, length_key q)) (λ _. key_few q h) b) (λ _. b)

        recalls : (t : Task) (bytes : ℕ) (s : Key) (m : List ℕ) → bytes < 2 ^ 64 → small (key_words s) ≡ true → Bounded P n m →
            Fits (asked (hearing t bytes s k) m Recall)
        unfolding small
        recalls t bytes s m l h b = asks (hearing t bytes s k) m Recall (λ p. hearing_few k (c p) t bytes s l h) b (λ _. refl)

        recalls_path : (t : Task) (q m : List ℕ) → a_name q ≡ true → Bounded P n m → Fits (asked (hearing t 0 no_sum k) (path_put q m) Recall)
        unfolding small
        recalls_path t q m h b = recalls t 0 no_sum (path_put q m) (omega arith) refl (bounded_path q m h b)

        -- only what this house knows asks for the head
        hears_said : (m : List ℕ) (a : Command) → fits a ≡ true → Bounded P n m → Fits (said_of sum k m a)
        unfolding fits all_bytes small words
        hears_said m (write_file q d) h b =
            let e = and_parts (a_name q) (a_text d) h in
            let text = text_parts d e.1 in
            recalls Write (length d) (sum_key (sum d)) (bytes_put bytes_at d (path_put q m)) (omega (arith, text.0)) (words_small 4 (sum d) (sums d))
            (bounded_bytes bytes_at d (path_put q m) (λ _. text.1) (bounded_path q m e.0 b))
        hears_said m (drop_file q) h b = recalls_path Drop q m h b
        hears_said m (commit s d) h b =
            let e = and_parts (ltb s 18446744073709551616) (a_text d) h in
            let text = text_parts d e.1 in
            asks (hearing Note (length d) no_sum (stamped s k)) (bytes_put bytes_at d m) Recall
            (λ p. hearing_few (stamped s k) (noted_few k s no_sum (ltb-true s 18446744073709551616 e.0) refl (c p)) Note (length d) no_sum (omega (arith, text.0)) refl)
            (bounded_bytes bytes_at d m (λ _. text.1) b) (λ _. refl)
        hears_said m (branch q) h b = refuses k m 2 (omega arith) c b
        hears_said m (go_to q) h b = refuses k m 2 (omega arith) c b
        hears_said m history h b = recalls Log 0 no_sum m (omega arith) refl b
        hears_said m (show_file q d) h b =
            pick_both Fits (same the_branch q) (asked (hearing View 0 no_sum k) (path_put d m) Recall) (asked k m (Refuse 3))
            (λ _. recalls_path View d m (and_parts (a_ref q) (a_name d) h).1 b) (λ _. refuses k m 3 (omega arith) c b)
        hears_said m status h b = recalls Status 0 no_sum m (omega arith) refl b
        hears_said m (read_file q) h b = recalls_path Read q m h b
        hears_said m (join q) h b = refuses k m 2 (omega arith) c b
        hears_said m (settle q) h b = refuses k m 2 (omega arith) c b
        hears_said m leave h b = recalls Leave 0 no_sum m (omega arith) refl b
        hears_said m (move_onto q) h b = refuses k m 2 (omega arith) c b
        hears_said m (carry q) h b = refuses k m 2 (omega arith) c b
        hears_said m (forget q) h b = refuses k m 2 (omega arith) c b
        hears_said m (tag q) h b = refuses k m 2 (omega arith) c b
        hears_said m (who q) h b = refuses k m 2 (omega arith) c b
        hears_said m sweep_command h b = refuses k m 2 (omega arith) c b
        hears_said m (fetch d) h b = refuses k m 2 (omega arith) c b

        hears_by : (m text : List ℕ) (o : Option Command) → Answers text o → Bounded P n m → Fits (heard_of sum k m o)
        hears_by m text None h b = refuses k m 1 (omega arith) c b
        hears_by m text (Some a) h b = hears_said m a h.1 b

  -- a memory that is too short is left alone
  guarded : (k : Control) (m : List ℕ) (a : Asked Control) → (P → Few k) → Bounded P n m → (desk_end ≤ n → Fits a) →
      Fits (pick (ltb (length m) desk_end) (asked k m (Refuse 2)) a)
  guarded k m a c b on =
      pick_both Fits (ltb (length m) desk_end) (asked k m (Refuse 2)) a (λ _. refuses k m 2 (omega arith) c b)
      (λ e. let r : desk_end ≤ length m = ltb-false (length m) desk_end e in on (omega (arith, b.long)))

-- THE CLIENT
module _ (sum : Sum) (sums : (bs : List ℕ) → (length (sum bs) ≡ 32) × (every (λ b. ltb b 256) (sum bs) ≡ true)) where
  fits_hears : (P : Type 0) (n : ℕ) (k : Control) (m text : List ℕ) → (P → Few k) → Bounded P n m → Fits sum P n (control_hears sum k m text)
  fits_hears P n k m text c b =
      guarded sum P n k m (heard_of sum k m (parsed text)) c b (λ room. hears_by sum P n room (λ bs. (sums bs).1) k c m text (parsed text) (parse_answered text) b)

  fits_resumes : (P : Type 0) (n : ℕ) (k : Control) (m : List ℕ) → (P → Few k) → Bounded P n m → Fits sum P n (control_resumes sum k m)
  fits_resumes P n k m c b = guarded sum P n k m (resumed sum k m k.phase) c b (λ room. resumes_by sum P n room (λ bs. (sums bs).1) k c m k.phase b)

  nothing_known : (m : List ℕ) → Bounded ⊥ (length m) m
  nothing_known m = record { long = refl; few = λ p. absurd p }

  pub lawful : Lawful (control_client sum)
  unfolding Few
  lawful =
      record {
        load_save = control_kept;
        save_length = control_long;
        load_small = loads_few;
        wakes_small = wakes_few;
        hears_length = λ k m text. (fits_hears ⊥ (length m) k m text (λ p. absurd p) (nothing_known m)).long;
        hears_small = λ k m text h hm. (fits_hears (small m ≡ true) (length m) k m text (λ _. h) (bounded m)).few hm;
        resumes_length = λ k m. (fits_resumes ⊥ (length m) k m (λ p. absurd p) (nothing_known m)).long;
        resumes_small = λ k m h hm. (fits_resumes (small m ≡ true) (length m) k m (λ _. h) (bounded m)).few hm;
      }
