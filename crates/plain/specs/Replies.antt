-- Which refusal comes first, by the conditions that a plain house's turn tests. Assumes nothing: these are definitions.
use Rattle.std.specs.Prelude.{◌≡◌, ℕ, Bool, not, ◌&&◌, List, [], ◌∷◌, ◌++◌, Result, Ok, Err}
use Rattle.pages.specs.Lists.{pick, none_of, same}
use Rattle.history.specs.Book.{Sum}
use Rattle.commands.specs.Command.{branch, go_to, commit, tag, forget}
use Rattle.commands.specs.Refusal.{number_of}
use Rattle.commands.specs.declared.refusal.Refusal.{Refusal}
use Rattle.house.specs.House.{Plain, Clone, turn, ref_of, tip, clean}

abbrev pub taken_at : Clone → List ℕ → Bool
taken_at x n = not (none_of (ref_of (x.branches ++ x.tags) n) && not (same n x.here))

-- 0 where nothing is refused, otherwise the number of the refusal
abbrev pub reply_of : Result (Unit {0}) Refusal → ℕ
reply_of (Ok _) = 0
reply_of (Err e) = number_of e

abbrev pub first_number : List (Bool × Refusal) → ℕ
first_number [] = 0
first_number (c ∷ cs) = pick c.0 (number_of c.1) (first_number cs)

-- the number of the first condition that holds, 0 where none does
abbrev pub of_name : Bool → Bool → ℕ
of_name taken no_commit = pick taken 4 (pick no_commit 3 0)

abbrev pub of_going : Bool → Bool → ℕ
of_going missing unclean = pick missing 3 (pick unclean 5 0)

abbrev pub of_commit : Bool → Bool → ℕ
of_commit unsettled unchanged = pick unsettled 6 (pick unchanged 7 0)

abbrev pub of_joining : Bool → Bool → Bool → ℕ
of_joining missing unclean behind = pick missing 3 (pick unclean 5 (pick behind 7 0))

abbrev pub of_carrying : Bool → Bool → Bool → Bool → ℕ
of_carrying missing unclean stuck nothing = pick missing 3 (pick unclean 5 (pick stuck 6 (pick nothing 7 0)))

abbrev pub of_forgetting : Bool → Bool → ℕ
of_forgetting missing here = pick missing 3 (pick here 6 0)

-- a plain house's turn replies so, by the conditions that it tests
abbrev pub RefusalsRight : Type 0
RefusalsRight =
    (sum : Sum) (w : Plain) (c : ℕ) (x : Clone) (n : List ℕ) (s : ℕ) →
    ((turn sum w c x (branch n)).reply ≡ of_name (taken_at x n) (none_of (tip x)))
    × ((turn sum w c x (tag n)).reply ≡ of_name (taken_at x n) (none_of (tip x)))
    × ((turn sum w c x (go_to n)).reply ≡ of_going (none_of (ref_of x.branches n)) (not (clean w.book x)))
    × ((turn sum w c x (commit s n)).reply ≡ of_commit (not (none_of x.unsettled)) (clean w.book x))
    × ((turn sum w c x (forget n)).reply ≡ of_forgetting (none_of (ref_of x.branches n)) (same n x.here))
