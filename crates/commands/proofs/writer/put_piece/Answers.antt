use Rattle.std.proofs.Common.{[], length, Some, ap, ◌∙◌, arith}
use Rattle.pages.specs.Bytes.{all_bytes}
use Rattle.pages.proofs.BytesLaws.{length_with_length, all_bytes_in_bytes}
use Rattle.commands.proofs.ParseLaws.{all_bytes_row}
use Rattle.commands.specs.Spell.{piece_bytes}
use Rattle.commands.proofs.writer.put_piece.Goals as goal

pub put_row-requires : goal.put_row-requires
put_row-requires c = omega (arith, ap (λ p. length (piece_bytes p)) (c.in-Some.is ∙ ap Some c.in-Row.is), length_with_length c.in-Row.bytes.now)

pub returns-in_default-clause-real : goal.returns-in_default-clause-real
unfolding all_bytes
returns-in_default-clause-real c = ap (λ p. all_bytes (piece_bytes p)) c.in_default.is

pub returns-in-Number-clause-real : goal.returns-in-Number-clause-real
unfolding all_bytes
returns-in-Number-clause-real c = ap (λ p. all_bytes (piece_bytes p)) (c.in-Some.is ∙ ap Some c.in-Number.is) ∙ all_bytes_in_bytes 8 c.in-Number.n []

pub returns-in-Row-clause-end : goal.returns-in-Row-clause-end
returns-in-Row-clause-end c = omega (arith, ap (λ p. length (piece_bytes p)) (c.in-Some.is ∙ ap Some c.in-Row.is), length_with_length c.in-Row.bytes.now)

pub returns-in-Row-clause-real : goal.returns-in-Row-clause-real
returns-in-Row-clause-real c = ap (λ p. all_bytes (piece_bytes p)) (c.in-Some.is ∙ ap Some c.in-Row.is) ∙ all_bytes_row c.in-Row.bytes.now ∙ c.put_row.ensures.real
