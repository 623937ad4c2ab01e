-- What spelling leaves: of a command that fits and has room, its spelling in front of the row and its length; of any other, the row as it was.
-- A command that does not fit is refused, so that whatever is spelled is parsed back.
use Rattle.std.specs.Prelude.{ℕ, Bool, true, cond, ◌&&◌, List, [], ◌++◌, length, drop, Some, None, Option, nat_le}
use Rattle.std.proofs.Math.Seq.{paste}
use Rattle.pages.specs.Bytes.{eight, with_length}
use Rattle.commands.specs.Command as plain
use Rattle.commands.specs.Command.{spelled, fits}
use Rattle.commands.specs.Parse.{if_so, within}
use Rattle.commands.specs.declared.command.Command.{Command}
use Rattle.commands.specs.declared.command.Command.TheVariants.{WriteFile, DropFile, Commit, Branch, GoTo, History, ShowFile, Status, ReadFile, Join, Settle, Leave, MoveOnto, Carry, Forget, Tag, Who, Sweep, Fetch}
use Rattle.commands.specs.declared.kind.Kind.{Kind}
use Rattle.commands.specs.declared.parts.Piece.{Piece}
use Rattle.commands.specs.declared.parts.Piece.TheVariants.{Number, Row}
use Rattle.commands.specs.declared.parts.Parts.{Parts}

unfoldable pub has_room : plain.Command → List ℕ → Bool
has_room c out = fits c && nat_le (length (spelled c)) (length out)

unfoldable pub spelled_size : plain.Command → List ℕ → Option ℕ
spelled_size c out = if_so (has_room c out) (length (spelled c))

unfoldable pub spelled_over : plain.Command → List ℕ → List ℕ
spelled_over c out = cond (has_room c out) (spelled c ++ drop (length (spelled c)) out) out

-- the bytes written over a row from a place on
abbrev pub written : List ℕ → ℕ → List ℕ → List ℕ
written out at bytes = paste out at bytes (length bytes)

-- each command is a kind and up to two pieces
abbrev pub piece_bytes : Option Piece → List ℕ
piece_bytes None = []
piece_bytes (Some (Number n high)) = eight n
piece_bytes (Some (Row bytes low high)) = with_length bytes.now

abbrev pub piece_fits : Option Piece → Bool
piece_fits None = true
piece_fits (Some (Number n high)) = nat_le n high
piece_fits (Some (Row bytes low high)) = within low high (length bytes.now)

abbrev pub bare : Kind → Parts
bare kind = record { kind = kind; first = None; second = None }

abbrev pub one_piece : Kind → Piece → Parts
one_piece kind piece = record { kind = kind; first = Some piece; second = None }

abbrev pub two_pieces : Kind → Piece → Piece → Parts
two_pieces kind first second = record { kind = kind; first = Some first; second = Some second }

abbrev pub parts_of : Command → Parts
parts_of (WriteFile path bytes) = two_pieces Kind.WriteFile (Row path 1 64) (Row bytes 0 65535)
parts_of (DropFile path) = one_piece Kind.DropFile (Row path 1 64)
parts_of (Commit stamp words) = two_pieces Kind.Commit (Number stamp 18446744073709551615) (Row words 0 65535)
parts_of (Branch name) = one_piece Kind.Branch (Row name 1 64)
parts_of (GoTo name) = one_piece Kind.GoTo (Row name 1 64)
parts_of History = bare Kind.History
parts_of (ShowFile name path) = two_pieces Kind.ShowFile (Row name 1 65) (Row path 1 64)
parts_of Status = bare Kind.Status
parts_of (ReadFile path) = one_piece Kind.ReadFile (Row path 1 64)
parts_of (Join name) = one_piece Kind.Join (Row name 1 65)
parts_of (Settle path) = one_piece Kind.Settle (Row path 1 64)
parts_of Leave = bare Kind.Leave
parts_of (MoveOnto name) = one_piece Kind.MoveOnto (Row name 1 65)
parts_of (Carry id) = one_piece Kind.Carry (Row id 1 64)
parts_of (Forget name) = one_piece Kind.Forget (Row name 1 64)
parts_of (Tag name) = one_piece Kind.Tag (Row name 1 64)
parts_of (Who path) = one_piece Kind.Who (Row path 1 64)
parts_of Sweep = bare Kind.Sweep
parts_of (Fetch house) = one_piece Kind.Fetch (Number house 15)
