-- The numbers by which a command is refused. Assumes nothing: these are definitions.
use Rattle.std.specs.Prelude.{◌≡◌, ℕ, ◌<◌, ◌≤◌, Result, MatchResult}
use Rattle.commands.specs.declared.refusal.Refusal.{Refusal}
use Rattle.commands.specs.declared.refusal.Refusal.TheVariants.{NoCommand, NotKnown, NotThere, Taken, Unclean, Clash, NothingToDo, NoRoom, NoLine, TooManyFiles}
use Rattle.commands.specs.declared.refusal.NoRefusal.{NoRefusal}

abbrev pub number_of : Refusal → ℕ
number_of NoCommand = 1
number_of NotKnown = 2
number_of NotThere = 3
number_of Taken = 4
number_of Unclean = 5
number_of Clash = 6
number_of NothingToDo = 7
number_of NoRoom = 8
number_of NoLine = 9
number_of TooManyFiles = 10

-- the result is the refusal of this number, or an error with the number of none
abbrev pub Decodes : ℕ → Result Refusal NoRefusal → Type 0
Decodes n r = MatchResult r (λ x. number_of x ≡ n) (λ e. (e.0 ≡ n) × (1 ≤ n → 10 < n))
