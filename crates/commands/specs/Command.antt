-- What can be asked of a house, and how it is spelled in bytes. Assumes nothing: these are definitions.
use Rattle.std.specs.Prelude.{ℕ, Bool, true, false, ◌&&◌, List, [], ◌∷◌, ◌++◌, length, nat_le, nat_lt}
use Rattle.pages.specs.Bytes.{eight, with_length, all_bytes}

pub data Command : Type 0 where
  write_file : List ℕ → List ℕ → Command  -- a path, bytes
  drop_file : List ℕ → Command
  commit : ℕ → List ℕ → Command  -- a stamp, words
  branch : List ℕ → Command  -- a new branch from here
  go_to : List ℕ → Command  -- a branch
  history : Command
  show_file : List ℕ → List ℕ → Command  -- a branch, a path
  status : Command  -- what differs from the last commit
  read_file : List ℕ → Command  -- a path, as it is in work
  join : List ℕ → Command  -- a branch
  settle : List ℕ → Command  -- a path that clashes, as it stands
  leave : Command  -- work and joining given up
  move_onto : List ℕ → Command  -- our commits once more, on top of a branch
  carry : List ℕ → Command  -- one commit by its id, once more here
  forget : List ℕ → Command  -- a branch
  tag : List ℕ → Command  -- a name that stays with this commit
  who : List ℕ → Command  -- which commit a path is from
  sweep : Command
  fetch : ℕ → Command  -- from another house

unfoldable pub spelled : Command → List ℕ
spelled (write_file p b) = 1 ∷ with_length p ++ with_length b
spelled (drop_file p) = 2 ∷ with_length p
spelled (commit s w) = 3 ∷ eight s ++ with_length w
spelled (branch n) = 4 ∷ with_length n
spelled (go_to n) = 5 ∷ with_length n
spelled history = 6 ∷ []
spelled (show_file n p) = 7 ∷ with_length n ++ with_length p
spelled status = 8 ∷ []
spelled (read_file p) = 9 ∷ with_length p
spelled (join n) = 10 ∷ with_length n
spelled (settle p) = 11 ∷ with_length p
spelled leave = 12 ∷ []
spelled (move_onto n) = 13 ∷ with_length n
spelled (carry i) = 14 ∷ with_length i
spelled (forget n) = 15 ∷ with_length n
spelled (tag n) = 16 ∷ with_length n
spelled (who p) = 17 ∷ with_length p
spelled sweep = 18 ∷ []
spelled (fetch d) = 19 ∷ eight d

-- numbers below 2^64, bytes below 256, names and paths of 1 to 64 bytes, words and files of up to 65,535
abbrev pub a_name : List ℕ → Bool
a_name bs = (nat_le 1 (length bs) && nat_le (length bs) 64) && all_bytes bs

abbrev pub a_ref : List ℕ → Bool
a_ref bs = (nat_le 1 (length bs) && nat_le (length bs) 65) && all_bytes bs

abbrev pub a_text : List ℕ → Bool
a_text bs = nat_lt (length bs) 65536 && all_bytes bs

unfoldable pub fits : Command → Bool
fits (write_file p b) = a_name p && a_text b
fits (drop_file p) = a_name p
fits (commit s w) = nat_lt s 18446744073709551616 && a_text w
fits (branch n) = a_name n
fits (go_to n) = a_name n
fits history = true
fits (show_file n p) = a_ref n && a_name p
fits status = true
fits (read_file p) = a_name p
fits (join n) = a_ref n
fits (settle p) = a_name p
fits leave = true
fits (move_onto n) = a_ref n
fits (carry i) = a_name i
fits (forget n) = a_name n
fits (tag n) = a_name n
fits (who p) = a_name p
fits sweep = true
fits (fetch d) = nat_lt d 16

-- the small core: the commands of a house that does not talk to others and does not join
unfoldable pub core : Command → Bool
core (write_file p b) = true
core (drop_file p) = true
core (commit s w) = true
core (branch n) = true
core (go_to n) = true
core history = true
core (show_file n p) = true
core status = true
core (read_file p) = true
core (join n) = false
core (settle p) = false
core leave = true
core (move_onto n) = false
core (carry i) = false
core (forget n) = false
core (tag n) = false
core (who p) = false
core sweep = false
core (fetch d) = false

abbrev pub everything : Command → Bool
everything c = true

-- what a house knows that knows no command yet
abbrev pub nothing : Command → Bool
nothing c = false
