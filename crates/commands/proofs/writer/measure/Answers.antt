use Rattle.std.proofs.Common.{length, Some, sym, ap, ◌∙◌, ap₂, arith}
use Rattle.std.proofs.lemmas.Bool.{le-leb}
use Rattle.pages.proofs.BytesLaws.{length_eight, length_with_length}
use Rattle.commands.specs.Parse.{if_so}
use Rattle.commands.specs.Spell.{piece_bytes, piece_fits}
use Rattle.commands.proofs.writer.measure.Goals as goal

pub returns-then-n-most-clause-is : goal.returns-then-n-most-clause-is
returns-then-n-most-clause-is c =
    let is = c.in-Some.is ∙ ap Some c.in-Number.is in
    sym (ap (λ p. if_so (piece_fits p) (length (piece_bytes p))) is ∙ ap₂ (λ b n. if_so b n) (le-leb _ _ (omega arith)) (length_eight c.in-Number.n))

pub returns-in-Row-clause-is : goal.returns-in-Row-clause-is
returns-in-Row-clause-is c =
    let is = c.in-Some.is ∙ ap Some c.in-Row.is in
    c.row_size.ensures.is ∙ sym (ap (λ p. if_so (piece_fits p) (length (piece_bytes p))) is ∙ ap (if_so _) (length_with_length c.in-Row.bytes.now))
