use Rattle.std.proofs.Common.{arith, rules}
use Rattle.lines.proofs.EscapeLaws.{hexed_fails, hexed_gives, itself_gives, named_gives}
use Rattle.lines.proofs.escape.first_byte.Goals as goal

pub returns-in_ok-byte_of-in-92 : goal.returns-in_ok-byte_of-in-92
returns-in_ok-byte_of-in-92 c = hexed_gives _ _ (omega arith) (omega arith) (omega arith) c.in_ok-byte_of-in-92.ensures

pub returns-in_err-byte_of-in-92 : goal.returns-in_err-byte_of-in-92
returns-in_err-byte_of-in-92 c = rw c.from_residual.ensures (hexed_fails _ (omega arith) (omega arith) (omega arith) c.in_err-byte_of-in-92.ensures)

pub returns-in_ok-named-in-92-2 : goal.returns-in_ok-named-in-92-2
returns-in_ok-named-in-92-2 c = named_gives _ _ (search rules) (search rules) c.in_ok-named-in-92-2.ensures

pub returns-in-len1-up : goal.returns-in-len1-up
returns-in-len1-up c = itself_gives _ c.requires (grind arith)
