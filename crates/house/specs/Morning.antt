-- A morning at two houses, told command by command: what each is to show, or by which number it is refused.
use Rattle.std.specs.Prelude.{◌≡◌, ℕ, Bool, true, ◌&&◌, List, [], ◌∷◌, codes, ◌==◌}
use Rattle.pages.specs.Lists.{each, so_many}
use Rattle.trees.specs.Tree.{alike}
use Rattle.history.specs.Book.{Book, Sum, id}
use Rattle.commands.specs.Command.{Command, write_file, commit, branch, go_to, history, show_file, status, read_file, join, settle, move_onto, who, fetch, fits}
use Rattle.house.specs.House.{Plain, Turn, turn, clone_at, empty_clone, weight, line}

-- what a command is to do; commits by their numbers in the book
pub data Expected : Type 0 where
  nothing : Expected  -- done, and nothing is shown
  shown : List (List ℕ) → Expected  -- done, and these rows are shown
  commits : List ℕ → Expected  -- done, and the ids of these commits are shown
  lines : List ℕ → Expected  -- done, and these commits are shown, ids and words
  refused : ℕ → Expected

pub record Told : Type 0 where
  pub house : ℕ
  pub asked : Command
  pub expected : Expected

abbrev pub expected_reply : Expected → ℕ
expected_reply nothing = 0
expected_reply (shown ss) = 0
expected_reply (commits ks) = 0
expected_reply (lines ks) = 0
expected_reply (refused n) = n

abbrev pub expected_rows : Sum → Book → Expected → List (List ℕ)
expected_rows sum b nothing = []
expected_rows sum b (shown ss) = ss
expected_rows sum b (commits ks) = each (id sum b) ks
expected_rows sum b (lines ks) = each (line sum b) ks
expected_rows sum b (refused n) = []

abbrev pub asked_of : Sum → Plain → Told → Turn
asked_of sum w e = turn sum w e.house (clone_at w.clones e.house) e.asked

abbrev pub as_told : Sum → Turn → Told → Bool
as_told sum t e = fits e.asked && (t.reply == expected_reply e.expected && alike t.shows (expected_rows sum t.next.book e.expected))

unfoldable pub all_as_told : Sum → Plain → List Told → Bool
all_as_told sum w [] = true
all_as_told sum w (e ∷ es) = let t : Turn = asked_of sum w e in as_told sum t e && all_as_told sum t.next es

unfoldable pub afterwards : Sum → Plain → List Told → Plain
afterwards sum w [] = w
afterwards sum w (e ∷ es) = afterwards sum (asked_of sum w e).next es

-- a stand-in for the sum: the bytes themselves
abbrev pub as_it_is : Sum
as_it_is bs = bs

abbrev pub two_houses : Plain
two_houses = record { book = []; clones = so_many 2 empty_clone }

abbrev pub at : ℕ → Command → Expected → Told
at d a e = record { house = d; asked = a; expected = e }

abbrev pub lock : List ℕ
lock = codes "lock"

abbrev pub weir : List ℕ
weir = codes "weir"

abbrev pub main : List ℕ
main = codes "main"

abbrev pub north : List ℕ
north = codes "north"

unfoldable pub morning : List Told
morning =
    at 0 (write_file lock (codes "3.2")) nothing
    ∷ at 0 (write_file weir (codes "open")) nothing
    ∷ at 0 (commit 1 (codes "first")) (commits (0 ∷ []))
    ∷ at 0 (branch north) nothing
    ∷ at 0 (go_to north) nothing
    ∷ at 0 (write_file lock (codes "3.4")) nothing
    ∷ at 0 (commit 2 (codes "north sounding")) (commits (1 ∷ []))
    ∷ at 0 (go_to main) nothing
    ∷ at 0 (write_file weir (codes "shut")) nothing
    ∷ at 0 status (shown ((2 ∷ weir) ∷ []))
    ∷ at 0 (commit 3 (codes "autumn")) (commits (2 ∷ []))
    ∷ at 0 (join north) nothing
    ∷ at 0 status (shown ((2 ∷ lock) ∷ []))
    ∷ at 0 (commit 4 (codes "joined")) (commits (3 ∷ []))
    ∷ at 0 history (lines (3 ∷ 2 ∷ 1 ∷ 0 ∷ []))
    ∷ at 0 (go_to north) nothing
    ∷ at 0 (write_file lock (codes "3.5")) nothing
    ∷ at 0 (commit 5 (codes "again")) (commits (4 ∷ []))
    ∷ at 0 (go_to main) nothing
    ∷ at 0 (write_file lock (codes "3.3")) nothing
    ∷ at 0 (go_to north) (refused 5)
    ∷ at 0 (commit 6 (codes "by lead")) (commits (5 ∷ []))
    ∷ at 0 (join north) (shown (lock ∷ []))
    ∷ at 0 (read_file lock) (shown (codes "3.3" ∷ []))
    ∷ at 0 (commit 7 (codes "hand")) (refused 6)
    ∷ at 0 (settle lock) nothing
    ∷ at 0 (commit 7 (codes "hand")) (commits (6 ∷ []))
    ∷ at 0 (who weir) (commits (2 ∷ []))
    ∷ at 0 (who lock) (commits (5 ∷ []))
    ∷ at 0 (go_to north) nothing
    ∷ at 0 (move_onto main) (commits (6 ∷ []))
    ∷ at 0 (join main) (refused 7)
    ∷ at 1 (fetch 0) nothing
    ∷ at 1 (show_file (0 ∷ north) lock) (shown (codes "3.3" ∷ []))
    ∷ at 1 (join (0 ∷ main)) (refused 3)
    ∷ at 1 (write_file (codes "bridge") (codes "5")) nothing
    ∷ at 1 (commit 1 (codes "boat")) (commits (7 ∷ []))
    ∷ at 1 (move_onto (0 ∷ main)) (commits (8 ∷ []))
    ∷ at 1 history (lines (8 ∷ 6 ∷ 5 ∷ 4 ∷ 3 ∷ 2 ∷ 1 ∷ 0 ∷ []))
    ∷ []

-- how much a house has to keep when the morning is over
abbrev pub morning_weight : ℕ → ℕ
morning_weight d = weight (afterwards as_it_is two_houses morning).book (clone_at (afterwards as_it_is two_houses morning).clones d)

unfoldable pub Morning : Type 0
Morning = (all_as_told as_it_is two_houses morning ≡ true) × (morning_weight 0 ≡ 3587) × (morning_weight 1 ≡ 4316)
