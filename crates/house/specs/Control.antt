-- The house as a client of the tape, for the commands that keep sheets in work and note versions of them: write, drop, read, status, leave, commit, history and
-- show. A command recalls the head; where it lays anything and the ring is tight it first sweeps, and begins anew; it loads the tree in work or the last
-- commit's, does its part, surveys where what is to be kept may grow, lays, and publishes the new head. Nothing is kept in memory from one command to the next but the house's number, the number of houses and of pages.
-- Assumes nothing: these are definitions.
use Rattle.std.specs.Prelude.{ℕ, ◌+◌, ◌-◌, ◌*◌, ◌/◌, min, Bool, true, false, not, ◌&&◌, List, [], ◌∷◌, ◌++◌, length, take, drop, Some, None, Option, ◌==◌, nat_lt, slice_index}
use Rattle.pages.specs.Lists.{pick, same, zeros}
use Rattle.pages.specs.Bytes.{eight, with_length}
use Rattle.pages.specs.Words.{over, words, bytes_of}
use Rattle.pages.specs.Machine.{Asked, asked, Program, program, capped, buffer_words}
use Rattle.pages.specs.Engine.{Housed, housed}
use Rattle.pages.specs.declared.machine.Request.TheVariants.{Recall, Object, Lay, Publish, Show, Done, Refuse}
use Rattle.objects.specs.Plan.{head_at, map_at, counts_at, counts_of}
use Rattle.objects.specs.Layouts.{words_for, answered, bytes_put, bytes_stand, commit_fits, commit_of, commit_read, file_object, file_read, in_front, words_at}
use Rattle.objects.specs.declared.layouts.Commit.{Commit as Layout}
use Rattle.objects.specs.Marking.{begun, key, key_words, sought, walk, walked, went_on}
use Rattle.objects.specs.Sweeping.{sweep_begun, sweep_went_on, swung}
use Rattle.objects.specs.Cells.{sweep_cells, sweep_in, walk_cells, walk_in}
use Rattle.objects.specs.Room.{quarter, reserve}
use Rattle.objects.specs.declared.mark.Key.{Key}
use Rattle.objects.specs.declared.mark.Walk.{Walk}
use Rattle.objects.specs.declared.sweep.Sweep.{Sweep}
use Rattle.trees.specs.Tree.{Tree, found, same_tree}
use Rattle.trees.specs.Row.{good_path, key_of, path_of, held, entries_of, has_key, put_key, reference_in, references, room_for, take_key}
use Rattle.trees.specs.Packed.{spread_into, squeeze_answer, squeeze_into}
use Rattle.trees.specs.Differ.{difference_from, shown}
use Rattle.trees.specs.declared.differences.Cursor.{Cursor}
use Rattle.trees.specs.declared.differences.Difference.{Difference}
use Rattle.history.specs.Book.{Sum}
use Rattle.commands.specs.Command.{Command, write_file, drop_file, commit, branch, go_to, history, show_file, status, read_file, join, settle, leave, move_onto, carry, forget, tag, who, sweep as sweep_command, fetch}
use Rattle.commands.specs.Parse.{parsed}
use Rattle.house.specs.declared.control.Task.{Task}
use Rattle.house.specs.declared.control.Task.TheVariants.{Nothing, Write, Drop, Read, Status, Leave, Note, Log, View}
use Rattle.house.specs.declared.control.Phase.{Phase}
use Rattle.house.specs.declared.control.Phase.TheVariants.{Resting, Recalling, Sweeping, Loading, Surveying, LayingFile, LayingTree, Publishing, Opening, Showing, Comparing, OpeningTip, LoadingOld, Summing, LayingCommit, OpeningLogged, ShowingLogged}
use Rattle.house.specs.declared.control.Version.{Version}
use Rattle.house.specs.declared.control.Control.{Control}

-- what a house that notes versions knows
unfoldable pub noting : Command → Bool
noting (write_file p b) = true
noting (drop_file p) = true
noting (commit s w) = true
noting (branch n) = false
noting (go_to n) = false
noting history = true
noting (show_file n p) = true
noting status = true
noting (read_file p) = true
noting (join n) = false
noting (settle p) = false
noting leave = true
noting (move_onto n) = false
noting (carry i) = false
noting (forget n) = false
noting (tag n) = false
noting (who p) = false
noting sweep_command = false
noting (fetch d) = false

-- MEMORY, behind what marking and sweeping need: the row of the tree in work; the key of the command's path; its bytes. The row of the tree that it is compared to
-- stands in place of the map.
abbrev pub row_at : ℕ
row_at = 188640

abbrev pub row_words : ℕ
row_words = 40962

abbrev pub path_at : ℕ
path_at = 229602

abbrev pub bytes_at : ℕ
bytes_at = 229611

abbrev pub desk_end : ℕ
desk_end = 237803

abbrev pub old_row_at : ℕ
old_row_at = map_at

abbrev pub row_of : List ℕ → List ℕ
row_of m = take row_words (drop row_at m)

abbrev pub with_row : List ℕ → List ℕ → List ℕ
with_row ws m = over row_at ws m

abbrev pub old_row_of : List ℕ → List ℕ
old_row_of m = take row_words (drop old_row_at m)

abbrev pub path_key : List ℕ → List ℕ
path_key m = take 9 (drop path_at m)

-- what an entry at that path weighs
abbrev pub entry_weight : List ℕ → ℕ
entry_weight m = capped (64 + slice_index m 229610)

-- an empty tree's row
abbrev pub emptied : ℕ → List ℕ → List ℕ
emptied at m = over at (0 ∷ 0 ∷ []) m

-- the row of the tree that it is compared to
abbrev pub with_old_row : List ℕ → List ℕ → List ℕ
with_old_row ws m = over old_row_at ws m

-- the head's words, as they were recalled
abbrev pub head_word : List ℕ → ℕ → ℕ
head_word m i = slice_index m (head_at + i)

-- REGISTERS

abbrev pub no_sum : Key
no_sum = key 0 0 0 0

abbrev pub control : ℕ → ℕ → ℕ → Task → Phase → ℕ → Key → ℕ → ℕ → Cursor → Version → Sweep → Walk → Control
control c hs ps t p bytes sum page root cursor v s w =
    record { house = c; houses = hs; pages = ps; task = t; phase = p; bytes = bytes; sum = sum; page = page; root = root; cursor = cursor; version = v; sweep = s; walk = w }

abbrev pub version : ℕ → Key → Version
version stamp parent = record { stamp = stamp; parent = parent }

abbrev pub cursor : ℕ → ℕ → Cursor
cursor i j = record { old = i; new = j }

abbrev pub at_phase : Phase → Control → Control
at_phase p k = control k.house k.houses k.pages k.task p k.bytes k.sum k.page k.root k.cursor k.version k.sweep k.walk

abbrev pub sweeping : Control → Sweep → Control
sweeping k s = control k.house k.houses k.pages k.task Sweeping k.bytes k.sum k.page k.root k.cursor k.version s k.walk

abbrev pub surveying : Control → Walk → Control
surveying k w = control k.house k.houses k.pages k.task Surveying k.bytes k.sum k.page k.root k.cursor k.version k.sweep w

abbrev pub laying : Phase → ℕ → ℕ → Control → Control
laying p page root k = control k.house k.houses k.pages k.task p k.bytes k.sum page root k.cursor k.version k.sweep k.walk

abbrev pub comparing : Cursor → Control → Control
comparing c k = control k.house k.houses k.pages k.task Comparing k.bytes k.sum k.page k.root c k.version k.sweep k.walk

abbrev pub hearing : Task → ℕ → Key → Control → Control
hearing t bytes sum k = control k.house k.houses k.pages t Recalling bytes sum k.page k.root (cursor 0 0) k.version k.sweep k.walk

-- what is noted: its stamp, and the id of the commit from which it comes
abbrev pub stamped : ℕ → Control → Control
stamped stamp k = control k.house k.houses k.pages k.task k.phase k.bytes k.sum k.page k.root k.cursor (version stamp no_sum) k.sweep k.walk

abbrev pub coming_from : Key → Control → Control
coming_from parent k = control k.house k.houses k.pages k.task k.phase k.bytes k.sum k.page k.root k.cursor (version k.version.stamp parent) k.sweep k.walk

abbrev pub identified : Key → Control → Control
identified id k = control k.house k.houses k.pages k.task k.phase k.bytes id k.page k.root k.cursor k.version k.sweep k.walk

-- the tree that comes in place of the one in work
abbrev pub rooted : ℕ → Control → Control
rooted root k = control k.house k.houses k.pages k.task k.phase k.bytes k.sum k.page root k.cursor k.version k.sweep k.walk

abbrev pub counted : ℕ → Control → Control
counted i k = control k.house k.houses k.pages k.task Summing k.bytes k.sum k.page k.root (cursor i 0) k.version k.sweep k.walk

-- the commit that is shown, and the next one
abbrev pub logging : ℕ → Control → Control
logging next k = control k.house k.houses k.pages k.task ShowingLogged k.bytes k.sum k.page next k.cursor k.version k.sweep k.walk

-- cells
abbrev pub task_code : Task → ℕ
task_code Nothing = 0
task_code Write = 1
task_code Drop = 2
task_code Read = 3
task_code Status = 4
task_code Leave = 5
task_code Note = 6
task_code Log = 7
task_code View = 8

abbrev pub task_in : ℕ → Task
task_in c = pick (c == 1) Write (pick (c == 2) Drop (pick (c == 3) Read (pick (c == 4) Status (pick (c == 5) Leave (pick (c == 6) Note (pick (c == 7) Log (pick (c == 8) View Nothing)))))))

abbrev pub phase_code : Phase → ℕ
phase_code Resting = 0
phase_code Recalling = 1
phase_code Sweeping = 2
phase_code Loading = 3
phase_code Surveying = 4
phase_code LayingFile = 5
phase_code LayingTree = 6
phase_code Publishing = 7
phase_code Opening = 8
phase_code Showing = 9
phase_code Comparing = 10
phase_code OpeningTip = 11
phase_code LoadingOld = 12
phase_code Summing = 13
phase_code LayingCommit = 14
phase_code OpeningLogged = 15
phase_code ShowingLogged = 16

abbrev pub phase_in : ℕ → Phase
phase_in c =
    pick (c == 1) Recalling
    (pick (c == 2) Sweeping
    (pick (c == 3) Loading
    (pick (c == 4) Surveying
    (pick (c == 5) LayingFile
    (pick (c == 6) LayingTree (pick (c == 7) Publishing (pick (c == 8) Opening (pick (c == 9) Showing (pick (c == 10) Comparing
    (pick (c == 11) OpeningTip (pick (c == 12) LoadingOld (pick (c == 13) Summing (pick (c == 14) LayingCommit (pick (c == 15) OpeningLogged (pick (c == 16) ShowingLogged Resting)))))))))))))))

abbrev pub control_loads : List ℕ → Control
control_loads cs =
    control (slice_index cs 0) (slice_index cs 1) (slice_index cs 2) (task_in (slice_index cs 3)) (phase_in (slice_index cs 4)) (slice_index cs 5)
    (key (slice_index cs 10) (slice_index cs 11) (slice_index cs 12) (slice_index cs 13)) (slice_index cs 6) (slice_index cs 7)
    (cursor (slice_index cs 8) (slice_index cs 9)) (version (slice_index cs 37) (key (slice_index cs 38) (slice_index cs 39) (slice_index cs 40) (slice_index cs 41)))
    (sweep_in (take 14 (drop 14 cs))) (walk_in (take 9 (drop 28 cs)))

abbrev pub own_cells : Control → List ℕ
own_cells k =
    k.house ∷ k.houses ∷ k.pages ∷ task_code k.task ∷ phase_code k.phase ∷ k.bytes ∷ k.page ∷ k.root ∷ k.cursor.old ∷ k.cursor.new ∷ k.sum.a ∷ k.sum.b ∷ k.sum.c ∷ k.sum.d ∷ []

unfoldable pub control_saves : Control → List ℕ
control_saves k = own_cells k ++ (sweep_cells k.sweep ++ (walk_cells k.walk ++ (k.version.stamp ∷ k.version.parent.a ∷ k.version.parent.b ∷ k.version.parent.c ∷ k.version.parent.d ∷ zeros 78)))

-- WHAT IS SAID: the path's key and the bytes are put aside, the sum of the bytes is taken, and the head is asked for
abbrev pub sum_key : List ℕ → Key
sum_key bs = key (slice_index (words 4 bs) 0) (slice_index (words 4 bs) 1) (slice_index (words 4 bs) 2) (slice_index (words 4 bs) 3)

abbrev pub path_put : List ℕ → List ℕ → List ℕ
path_put p m = pick (good_path p) (over path_at (key_of p) m) m

-- the one branch that there may be
abbrev pub the_branch : List ℕ
the_branch = 109 ∷ 97 ∷ 105 ∷ 110 ∷ []

abbrev pub said_of : Sum → Control → List ℕ → Command → Asked Control
said_of sum k m (write_file p b) = asked (hearing Write (length b) (sum_key (sum b)) k) (bytes_put bytes_at b (path_put p m)) Recall
said_of sum k m (drop_file p) = asked (hearing Drop 0 no_sum k) (path_put p m) Recall
said_of sum k m (commit s w) = asked (hearing Note (length w) no_sum (stamped s k)) (bytes_put bytes_at w m) Recall
said_of sum k m (branch n) = asked k m (Refuse 2)
said_of sum k m (go_to n) = asked k m (Refuse 2)
said_of sum k m history = asked (hearing Log 0 no_sum k) m Recall
said_of sum k m (show_file n p) = pick (same the_branch n) (asked (hearing View 0 no_sum k) (path_put p m) Recall) (asked k m (Refuse 3))
said_of sum k m status = asked (hearing Status 0 no_sum k) m Recall
said_of sum k m (read_file p) = asked (hearing Read 0 no_sum k) (path_put p m) Recall
said_of sum k m (join n) = asked k m (Refuse 2)
said_of sum k m (settle p) = asked k m (Refuse 2)
said_of sum k m leave = asked (hearing Leave 0 no_sum k) m Recall
said_of sum k m (move_onto n) = asked k m (Refuse 2)
said_of sum k m (carry i) = asked k m (Refuse 2)
said_of sum k m (forget n) = asked k m (Refuse 2)
said_of sum k m (tag n) = asked k m (Refuse 2)
said_of sum k m (who p) = asked k m (Refuse 2)
said_of sum k m sweep_command = asked k m (Refuse 2)
said_of sum k m (fetch d) = asked k m (Refuse 2)

abbrev pub heard_of : Sum → Control → List ℕ → Option Command → Asked Control
heard_of sum k m None = asked k m (Refuse 1)
heard_of sum k m (Some a) = said_of sum k m a

-- a memory that is too short is left alone
abbrev pub control_hears : Sum → Control → List ℕ → List ℕ → Asked Control
control_hears sum k m text = pick (nat_lt (length m) desk_end) (asked k m (Refuse 2)) (heard_of sum k m (parsed text))

abbrev pub control_wakes : Control → ℕ → ℕ → ℕ → Control
control_wakes k c hs ps = control (capped c) (capped hs) (capped ps) Nothing Resting 0 no_sum 0 0 (cursor 0 0) (version 0 no_sum) k.sweep k.walk

-- THE END: the new head has the pages laid so far in its window, and names the tree in work and the last commit
abbrev pub new_head : ℕ → ℕ → ℕ → List ℕ → List ℕ
new_head page root tip m = head_word m 0 ∷ page ∷ root ∷ tip ∷ drop 4 (take 32 (drop head_at m))

abbrev pub publish : Control → List ℕ → ℕ → ℕ → ℕ → Asked Control
publish k m page root tip = asked (at_phase Publishing k) (over 0 (new_head page root tip m) m) Publish

-- what comes after it: the id of what was noted is shown
abbrev pub published_by : Control → List ℕ → Task → Asked Control
published_by k m Nothing = asked k m Done
published_by k m Write = asked k m Done
published_by k m Drop = asked k m Done
published_by k m Read = asked k m Done
published_by k m Status = asked k m Done
published_by k m Leave = asked k m Done
published_by k m Note = asked (at_phase Showing k) (over 0 (key_words k.sum) m) (Show 32)
published_by k m Log = asked k m Done
published_by k m View = asked k m Done

-- LAYING: an object in front of the buffer is laid on fresh pages
abbrev pub pages_of : ℕ → ℕ
pages_of words = (words + 63) / 64

abbrev pub laid_from : Phase → Control → List ℕ → ℕ → ℕ → ℕ → Asked Control
laid_from p k m page words root = asked (laying p (capped (page + pages_of words)) root k) m (Lay page (pages_of words))

-- its reference
abbrev pub reference_at : ℕ → ℕ
reference_at page = capped (capped (8 * page) + 1)

-- the tree in work, out of its row
abbrev pub squeezed_in : List ℕ → List ℕ
squeezed_in m = squeeze_into (row_of m) (take buffer_words m) ++ drop buffer_words m

abbrev pub tree_put : Control → List ℕ → ℕ → Option ℕ → Asked Control
tree_put k m page None = asked k (squeezed_in m) (Refuse 2)
tree_put k m page (Some words) = laid_from LayingTree k (squeezed_in m) page words (reference_at page)

abbrev pub lay_tree : Control → List ℕ → ℕ → Asked Control
lay_tree k m page = tree_put k m page (squeeze_answer (row_of m) (take buffer_words m))

-- the reference of the command's file in the row
abbrev pub named : ℕ → List ℕ → List ℕ
named r m = with_row (put_key (path_key m) (entry_weight m) r (row_of m)) m

-- the file, out of the bytes that were said
abbrev pub file_in : Control → List ℕ → List ℕ
file_in k m = file_object (key_words k.sum) k.bytes (words_at k.bytes bytes_at m)

abbrev pub lay_file : Control → List ℕ → ℕ → Asked Control
lay_file k m page =
    pick (bytes_stand 65535 k.bytes bytes_at m)
    (laid_from LayingFile k (named (reference_at page) (over 0 (file_in k m) m)) page (length (file_in k m)) k.root) (asked k m (Refuse 2))

-- the commit, out of the words that were said: its tree is the one in work, it comes from the last one
abbrev pub layout_in : Control → List ℕ → Layout
layout_in k m =
    record {
      tree = head_word m 2;
      one = head_word m 3;
      two = 0;
      id = k.sum;
      stamp = k.version.stamp;
      tree_weight = slice_index (row_of m) 1;
      bytes = k.bytes;
    }

abbrev pub commit_in : Control → List ℕ → List ℕ
commit_in k m = commit_of (layout_in k m) (words_at k.bytes bytes_at m)

abbrev pub commit_put : Control → List ℕ → ℕ → Option ℕ → Asked Control
commit_put k m page None = asked k m (Refuse 2)
commit_put k m page (Some words) = laid_from LayingCommit k m page words (reference_at page)

abbrev pub lay_commit : Control → List ℕ → ℕ → Asked Control
lay_commit k m page =
    commit_put k (in_front (commit_fits (layout_in k m) bytes_at m) (commit_in k m) m) page (answered (commit_fits (layout_in k m) bytes_at m) (commit_in k m))

-- THE SURVEY: what will be live is marked, a file with the sum or a commit with the id is looked for, and what is to be kept is added up
abbrev pub kind_sought : Task → ℕ
kind_sought Nothing = 1
kind_sought Write = 1
kind_sought Drop = 1
kind_sought Read = 1
kind_sought Status = 1
kind_sought Leave = 1
kind_sought Note = 3
kind_sought Log = 1
kind_sought View = 1

-- what is noted names the tree in work, so all stays live that the head names; otherwise the files of the row take the place of that tree
abbrev pub survey_roots : Task → List ℕ → List ℕ
survey_roots Nothing m = take 7 (drop 41155 m) ++ references (row_of m)
survey_roots Write m = take 7 (drop 41155 m) ++ references (row_of m)
survey_roots Drop m = take 7 (drop 41155 m) ++ references (row_of m)
survey_roots Read m = take 7 (drop 41155 m) ++ references (row_of m)
survey_roots Status m = take 7 (drop 41155 m) ++ references (row_of m)
survey_roots Leave m = take 7 (drop 41155 m) ++ references (row_of m)
survey_roots Note m = take 8 (drop 41154 m)
survey_roots Log m = take 7 (drop 41155 m) ++ references (row_of m)
survey_roots View m = take 7 (drop 41155 m) ++ references (row_of m)

-- what comes to what is live, if what was looked for is not there: a file, or a commit with its tree
abbrev pub more_kept : Control → List ℕ → Task → ℕ
more_kept k m Nothing = 0
more_kept k m Write = capped (64 + k.bytes)
more_kept k m Drop = 0
more_kept k m Read = 0
more_kept k m Status = 0
more_kept k m Leave = 0
more_kept k m Note = capped (capped (256 + k.bytes) + slice_index (row_of m) 1)
more_kept k m Log = 0
more_kept k m View = 0

-- the branch has a commit, or will have
abbrev pub named_after : List ℕ → Task → Bool
named_after m Nothing = not (head_word m 3 == 0)
named_after m Write = not (head_word m 3 == 0)
named_after m Drop = not (head_word m 3 == 0)
named_after m Read = not (head_word m 3 == 0)
named_after m Status = not (head_word m 3 == 0)
named_after m Leave = not (head_word m 3 == 0)
named_after m Note = true
named_after m Log = not (head_word m 3 == 0)
named_after m View = not (head_word m 3 == 0)

abbrev pub kept : Control → Walk → List ℕ → ℕ
kept k w m =
    capped (capped (capped (w.weight + slice_index (row_of m) 1) + pick (named_after m k.task) 128 0) + pick (w.found == 0) (more_kept k m k.task) 0)

-- there is room: what is not there is laid
abbrev pub settled : Control → Walk → List ℕ → Task → Asked Control
settled k w m Nothing = asked k m Done
settled k w m Write = pick (w.found == 0) (lay_file k m (head_word m 1)) (lay_tree k (named w.found m) (head_word m 1))
settled k w m Drop = asked k m Done
settled k w m Read = asked k m Done
settled k w m Status = asked k m Done
settled k w m Leave = publish k m (head_word m 1) k.root (head_word m 3)
settled k w m Note = pick (w.found == 0) (lay_commit k m (head_word m 1)) (publish k m (head_word m 1) (head_word m 2) w.found)
settled k w m Log = asked k m Done
settled k w m View = asked k m Done

abbrev pub surveyed : Control → Walk → List ℕ → Asked Control
surveyed k w m =
    pick (nat_lt (quarter (min k.pages 4294967296)) (kept k w m)) (asked (surveying k w) m (Refuse 8)) (settled (surveying k w) w m k.task)

abbrev pub window_of : Control → List ℕ → Walk
window_of k m = walk (capped (8 * head_word m 0)) (capped (8 * (head_word m 1 - head_word m 0))) 0 (kind_sought k.task) k.sum 0

abbrev pub survey : Control → List ℕ → Asked Control
survey k m = walked (surveying k) (surveyed k) (sought (window_of k m) (begun (capped (8 * head_word m 0)) (survey_roots k.task m) m))

-- WHAT IS NOTED IS SPELLED, out of memory: the ids of what it comes from, its files' paths and sums, its stamp, its words. A sum has four words, and the sums of
-- the tree's files stand side by side in the counts.
abbrev pub sum_at : ℕ → ℕ
sum_at i = counts_at + 4 * min i 4095

unfoldable pub files_spelled : Tree → List ℕ → List ℕ
files_spelled [] ws = []
files_spelled (f ∷ fs) ws = with_length (path_of f.path) ++ (with_length (bytes_of (take 4 ws)) ++ files_spelled fs (drop 4 ws))

abbrev pub parents_spelled : Control → List ℕ → List ℕ
parents_spelled k m = pick (head_word m 3 == 0) (eight 0) (eight 1 ++ with_length (bytes_of (key_words k.version.parent)))

abbrev pub words_said : ℕ → List ℕ → List ℕ
words_said bytes m = take bytes (bytes_of (words_at bytes bytes_at m))

unfoldable pub spelled_in : Control → List ℕ → List ℕ
spelled_in k m =
    parents_spelled k m
    ++ (eight (length (entries_of (row_of m)))
    ++ (files_spelled (entries_of (row_of m)) (counts_of m) ++ (eight k.version.stamp ++ with_length (words_said (min k.bytes 65535) m))))

abbrev pub summed : Sum → Control → List ℕ → Asked Control
summed sum k m = survey (identified (sum_key (sum (spelled_in k m))) k) m

-- the sum of the next file of the row is looked at
abbrev pub sum_next : Sum → Control → List ℕ → ℕ → Asked Control
sum_next sum k m i =
    pick (nat_lt i (held (row_of m))) (asked (counted i k) m (Object (capped (8 * (slice_index (row_of m) (10 * i + 11) - 1))) 6)) (summed sum k m)

abbrev pub sum_came : Sum → Control → List ℕ → Asked Control
sum_came sum k m = sum_next sum k (over (sum_at k.cursor.old) (take 4 (drop 2 m)) m) (capped (k.cursor.old + 1))

-- THE TREE IN WORK IS LOADED
abbrev pub compared : Control → List ℕ → Option Difference → Asked Control
compared k m None = asked k m Done
compared k m (Some d) =
    asked (comparing d.next k) (bytes_put 0 (shown (old_row_of m) (row_of m) d.place) m) (Show (length (shown (old_row_of m) (row_of m) d.place)))

abbrev pub compare : Control → List ℕ → Asked Control
compare k m = compared k m (difference_from (old_row_of m) (row_of m) k.cursor)

-- what differs from the last commit is noted
abbrev pub changed : Sum → Control → List ℕ → Asked Control
changed sum k m = pick (same_tree (entries_of (old_row_of m)) (entries_of (row_of m))) (asked k m (Refuse 7)) (sum_next sum k m 0)

-- both trees are in their rows
abbrev pub against : Sum → Control → List ℕ → Task → Asked Control
against sum k m Nothing = asked k m Done
against sum k m Write = asked k m Done
against sum k m Drop = asked k m Done
against sum k m Read = asked k m Done
against sum k m Status = compare k m
against sum k m Leave = asked k m Done
against sum k m Note = changed sum k m
against sum k m Log = asked k m Done
against sum k m View = asked k m Done

abbrev pub load_old : Sum → Control → List ℕ → ℕ → Asked Control
load_old sum k m root =
    pick (root == 0) (against sum k (emptied old_row_at m) k.task) (asked (at_phase LoadingOld k) m (Object (capped (8 * (root - 1))) buffer_words))

abbrev pub opened : Control → List ℕ → Option ℕ → Asked Control
opened k m None = asked k m (Refuse 3)
opened k m (Some r) = asked (at_phase Opening k) m (Object (capped (8 * (r - 1))) buffer_words)

abbrev pub found_file : Control → List ℕ → Asked Control
found_file k m = opened k m (reference_in (found (entries_of (row_of m)) (path_key m)))

-- the branch's commit is asked for, which names its tree
abbrev pub ask_tip : Control → List ℕ → Asked Control
ask_tip k m = asked (at_phase OpeningTip k) m (Object (capped (8 * (head_word m 3 - 1))) buffer_words)

-- the tree in work is in its row; where a branch has no commit yet, its tree is the empty one
abbrev pub loaded : Sum → Control → List ℕ → Task → Asked Control
loaded sum k m Nothing = asked k m Done
loaded sum k m Write =
    pick (room_for (path_key m) 0 (row_of m)) (survey k (named 0 m)) (asked k m (Refuse 10))
loaded sum k m Drop =
    pick (has_key (path_key m) (row_of m)) (lay_tree k (with_row (take_key (path_key m) (entry_weight m) (row_of m)) m) (head_word m 1)) (asked k m (Refuse 3))
loaded sum k m Read = found_file k m
loaded sum k m Status = pick (head_word m 3 == 0) (load_old sum k m 0) (ask_tip k m)
loaded sum k m Leave = asked k m Done
loaded sum k m Note = pick (head_word m 3 == 0) (load_old sum k m 0) (ask_tip k m)
loaded sum k m Log = asked k m Done
loaded sum k m View = found_file k m

abbrev pub load : Sum → Control → List ℕ → ℕ → Asked Control
load sum k m root =
    pick (root == 0) (loaded sum k (emptied row_at m) k.task) (asked (at_phase Loading k) m (Object (capped (8 * (root - 1))) buffer_words))

-- THE LAST COMMIT'S TREE is named, with what it weighs: it is compared to, put in work if there is room for that, or looked into
abbrev pub under_tip : Sum → Control → List ℕ → (root weight : ℕ) → Task → Asked Control
under_tip sum k m root weight Nothing = asked k m Done
under_tip sum k m root weight Write = asked k m Done
under_tip sum k m root weight Drop = asked k m Done
under_tip sum k m root weight Read = asked k m Done
under_tip sum k m root weight Status = load_old sum k m root
under_tip sum k m root weight Leave = survey (rooted root k) (over row_at (0 ∷ weight ∷ []) m)
under_tip sum k m root weight Note = load_old sum k m root
under_tip sum k m root weight Log = asked k m Done
under_tip sum k m root weight View = load sum k m root

abbrev pub tip_came : Sum → Control → List ℕ → Option Layout → Asked Control
tip_came sum k m None = asked k m (Refuse 2)
tip_came sum k m (Some c) = under_tip sum (coming_from c.id k) m c.tree c.tree_weight k.task

-- THE LOG: a commit is shown, then the one from which it comes
abbrev pub log_from : Control → List ℕ → ℕ → Asked Control
log_from k m r = pick (r == 0) (asked k m Done) (asked (at_phase OpeningLogged k) m (Object (capped (8 * (r - 1))) buffer_words))

abbrev pub logged : Control → List ℕ → Option Layout → Asked Control
logged k m None = asked k m (Refuse 2)
logged k m (Some c) =
    asked (logging c.one k) (over 0 (key_words c.id ++ take (words_for (min c.bytes 65535)) (drop 11 m)) m) (Show (32 + min c.bytes 65535))

-- THE HEAD IS THERE: what lays begins with room for two more copies of all that may be kept
abbrev pub lays : Task → Bool
lays Nothing = false
lays Write = true
lays Drop = true
lays Read = false
lays Status = false
lays Leave = false
lays Note = true
lays Log = false
lays View = false

abbrev pub tight : ℕ → List ℕ → Bool
tight pages m = nat_lt (pages - 1) (capped (capped (2 * reserve (min pages 4294967296)) + (head_word m 1 - head_word m 0)))

abbrev pub again : Control → Sweep → List ℕ → Asked Control
again k s m = asked (at_phase Recalling (sweeping k s)) m Recall

abbrev pub started : Sum → Control → List ℕ → Task → Asked Control
started sum k m Nothing = asked k m Done
started sum k m Write = load sum k m (head_word m 2)
started sum k m Drop = load sum k m (head_word m 2)
started sum k m Read = load sum k m (head_word m 2)
started sum k m Status = load sum k m (head_word m 2)
started sum k m Leave = pick (head_word m 3 == 0) (publish k m (head_word m 1) 0 0) (ask_tip k m)
started sum k m Note = load sum k m (head_word m 2)
started sum k m Log = log_from k m (head_word m 3)
started sum k m View = pick (head_word m 3 == 0) (asked k m (Refuse 3)) (ask_tip k m)

abbrev pub recalled : Sum → Control → List ℕ → Asked Control
recalled sum k m = pick (lays k.task && tight k.pages m) (swung (sweeping k) (again k) (sweep_begun k.sweep m)) (started sum k m k.task)

-- a file came: its bytes are shown
abbrev pub file_came : Control → List ℕ → Option ℕ → Asked Control
file_came k m None = asked k m (Refuse 2)
file_came k m (Some bytes) =
    asked (at_phase Showing k) (over 0 (take (words_for (min bytes 65535)) (drop 6 m)) m) (Show (min bytes 65535))

-- BY PHASE
abbrev pub resumed : Sum → Control → List ℕ → Phase → Asked Control
resumed sum k m Resting = asked k m Done
resumed sum k m Recalling = recalled sum k (over head_at (take 32 m) m)
resumed sum k m Sweeping = swung (sweeping k) (again k) (sweep_went_on k.sweep m)
resumed sum k m Loading = loaded sum k (with_row (spread_into (take buffer_words m) (row_of m)) m) k.task
resumed sum k m Surveying = walked (surveying k) (surveyed k) (went_on k.walk m)
resumed sum k m LayingFile = lay_tree k m k.page
resumed sum k m LayingTree = publish k m k.page k.root (head_word m 3)
resumed sum k m Publishing = published_by k m k.task
resumed sum k m Opening = file_came k m (file_read m)
resumed sum k m Showing = asked k m Done
resumed sum k m Comparing = compare k m
resumed sum k m OpeningTip = tip_came sum k m (commit_read m)
resumed sum k m LoadingOld = against sum k (with_old_row (spread_into (take buffer_words m) (old_row_of m)) m) k.task
resumed sum k m Summing = sum_came sum k m
resumed sum k m LayingCommit = publish k m k.page (head_word m 2) k.root
resumed sum k m OpeningLogged = logged k m (commit_read m)
resumed sum k m ShowingLogged = log_from k m k.root

abbrev pub control_resumes : Sum → Control → List ℕ → Asked Control
control_resumes sum k m = pick (nat_lt (length m) desk_end) (asked k m (Refuse 2)) (resumed sum k m k.phase)

abbrev pub controlling : Sum → Program Control
controlling sum = program control_wakes (control_hears sum) (control_resumes sum)

abbrev pub control_client : Sum → Housed Control
control_client sum = housed (controlling sum) control_loads control_saves
