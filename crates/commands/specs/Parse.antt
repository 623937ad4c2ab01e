-- What a row of bytes asks: the command that is spelled so, or none. A total function of any list of numbers.
use Rattle.std.specs.Prelude.{◌≡◌, ℕ, ◌+◌, Bool, true, cond, ◌&&◌, List, [], ◌∷◌, length, take, drop, Some, None, Option, ◌==◌, ◌≢◌, nat_le, nat_lt}
use Rattle.pages.specs.Bytes.{from_bytes, all_bytes}
use Rattle.commands.specs.Command.{Command, write_file, drop_file, commit, branch, go_to, history, show_file, status, read_file, join, settle, leave, move_onto, carry, forget, tag, who, sweep, fetch, spelled, fits}

-- the number in front, and what stands behind it
abbrev pub front : List ℕ → ℕ
front t = from_bytes 0 (take 8 t)

abbrev pub behind : List ℕ → List ℕ
behind t = drop 8 t

-- where the number in front is the length of a row: the row, and what stands behind it
abbrev pub first_row : List ℕ → List ℕ
first_row t = take (front t) (behind t)

abbrev pub past_row : List ℕ → List ℕ
past_row t = drop (front t) (behind t)

abbrev pub within : ℕ → ℕ → ℕ → Bool
within low high n = nat_le low n && nat_le n high

-- just one row, of low to high bytes, with its length in front
unfoldable pub one_row : ℕ → ℕ → List ℕ → Bool
one_row low high t = length t == 8 + front t && within low high (front t)

-- a row of 1 to top bytes with its length in front, and behind it just one more, of low to high bytes
unfoldable pub two_rows : ℕ → ℕ → ℕ → List ℕ → Bool
two_rows top low high t = within 1 top (front t) && one_row low high (past_row t)

-- just the number of a house
unfoldable pub one_house : List ℕ → Bool
one_house t = length t == 8 && nat_lt (front t) 16

abbrev pub if_so : {A : Type 0} → Bool → A → Option A
if_so b x = cond b (Some x) None

-- the command of a kind from what stands behind the kind
abbrev pub of_kind : ℕ → List ℕ → Option Command
of_kind k t =
    cond (k == 1) (if_so (two_rows 64 0 65535 t) (write_file (first_row t) (behind (past_row t)))) (
    cond (k == 2) (if_so (one_row 1 64 t) (drop_file (behind t))) (
    cond (k == 3) (if_so (one_row 0 65535 (behind t)) (commit (front t) (behind (behind t)))) (
    cond (k == 4) (if_so (one_row 1 64 t) (branch (behind t))) (
    cond (k == 5) (if_so (one_row 1 64 t) (go_to (behind t))) (
    cond (k == 6) (if_so (length t == 0) history) (
    cond (k == 7) (if_so (two_rows 65 1 64 t) (show_file (first_row t) (behind (past_row t)))) (
    cond (k == 8) (if_so (length t == 0) status) (
    cond (k == 9) (if_so (one_row 1 64 t) (read_file (behind t))) (
    cond (k == 10) (if_so (one_row 1 65 t) (join (behind t))) (
    cond (k == 11) (if_so (one_row 1 64 t) (settle (behind t))) (
    cond (k == 12) (if_so (length t == 0) leave) (
    cond (k == 13) (if_so (one_row 1 65 t) (move_onto (behind t))) (
    cond (k == 14) (if_so (one_row 1 64 t) (carry (behind t))) (
    cond (k == 15) (if_so (one_row 1 64 t) (forget (behind t))) (
    cond (k == 16) (if_so (one_row 1 64 t) (tag (behind t))) (
    cond (k == 17) (if_so (one_row 1 64 t) (who (behind t))) (
    cond (k == 18) (if_so (length t == 0) sweep) (
    cond (k == 19) (if_so (one_house t) (fetch (front t))) None))))))))))))))))))

unfoldable pub of_bytes : List ℕ → Option Command
of_bytes [] = None
of_bytes (k ∷ t) = of_kind k t

unfoldable pub parsed : List ℕ → Option Command
parsed text = cond (all_bytes text) (of_bytes text) None

-- an answer to a text: a command that fits and is spelled so, or none where there is no such command
abbrev pub Answers : List ℕ → Option Command → Type 0
Answers text (Some c) = (spelled c ≡ text) × (fits c ≡ true)
Answers text None = (c : Command) → spelled c ≡ text → fits c ≢ true
