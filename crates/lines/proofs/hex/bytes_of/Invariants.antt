use Rattle.std.proofs.Common.{◌≡◌, ◌*◌, drop, vec_items}
use Rattle.lines.specs.Hex.{bytes_read}
use Rattle.lines.proofs.HexLaws.{behind}
use Rattle.lines.proofs.hex.bytes_of.Given as goal

abbrev pub invariant-loop-high : goal.invariant-loop-high
invariant-loop-high l = bytes_read l.text ≡ behind (vec_items l.bytes) (bytes_read (drop (2 * l.high-index) l.text))
