-- The kinds of commands and their numbers. Assumes nothing: these are definitions.
use Rattle.std.specs.Prelude.{◌≡◌, ℕ, ◌<◌, ◌≤◌, Result, MatchResult}
use Rattle.commands.specs.declared.command.Command.{Command}
use Rattle.commands.specs.declared.kind.Kind.{Kind}
use Rattle.commands.specs.declared.kind.Kind.TheVariants.{WriteFile, DropFile, Commit, Branch, GoTo, History, ShowFile, Status, ReadFile, Join, Settle, Leave, MoveOnto, Carry, Forget, Tag, Who, Sweep, Fetch}
use Rattle.commands.specs.declared.kind.NoKind.{NoKind}

abbrev pub kind_number : Kind → ℕ
kind_number WriteFile = 1
kind_number DropFile = 2
kind_number Commit = 3
kind_number Branch = 4
kind_number GoTo = 5
kind_number History = 6
kind_number ShowFile = 7
kind_number Status = 8
kind_number ReadFile = 9
kind_number Join = 10
kind_number Settle = 11
kind_number Leave = 12
kind_number MoveOnto = 13
kind_number Carry = 14
kind_number Forget = 15
kind_number Tag = 16
kind_number Who = 17
kind_number Sweep = 18
kind_number Fetch = 19

-- the result is the kind of this number, or an error with the number of none
abbrev pub Decodes : ℕ → Result Kind NoKind → Type 0
Decodes n r = MatchResult r (λ k. kind_number k ≡ n) (λ e. (e.0 ≡ n) × (1 ≤ n → 19 < n))

abbrev pub kind_of : Command → Kind
kind_of (Command.WriteFile path bytes) = WriteFile
kind_of (Command.DropFile path) = DropFile
kind_of (Command.Commit stamp words) = Commit
kind_of (Command.Branch name) = Branch
kind_of (Command.GoTo name) = GoTo
kind_of Command.History = History
kind_of (Command.ShowFile name path) = ShowFile
kind_of Command.Status = Status
kind_of (Command.ReadFile path) = ReadFile
kind_of (Command.Join name) = Join
kind_of (Command.Settle path) = Settle
kind_of Command.Leave = Leave
kind_of (Command.MoveOnto name) = MoveOnto
kind_of (Command.Carry id) = Carry
kind_of (Command.Forget name) = Forget
kind_of (Command.Tag name) = Tag
kind_of (Command.Who path) = Who
kind_of Command.Sweep = Sweep
kind_of (Command.Fetch house) = Fetch
