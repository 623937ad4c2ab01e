use Rattle.std.proofs.Common.{◌≡◌, ◌+◌, [], ◌∷◌, ◌++◌, length, Some, ap, ◌∙◌, ap₂, arith}
use Rattle.commands.specs.Kind.{kind_number}
use Rattle.commands.specs.Spell.{written, piece_bytes}
use Rattle.commands.proofs.SpellLaws.{first_refused, second_refused, room_refused, accepted, written_more}
use Rattle.commands.proofs.writer.spell.Goals as goal

pub returns-in_err-first_size : goal.returns-in_err-first_size
returns-in_err-first_size c =
    let h = first_refused c.args.command c.args.out.now c.parts-kind.result c.parts-kind.ensures c.in_err-first_size.ensures.is in
    record { size = c.from_residual.ensures ∙ h.0; row = h.1 }

pub returns-in_err-second_size : goal.returns-in_err-second_size
returns-in_err-second_size c =
    let h = second_refused c.args.command c.args.out.now c.parts-kind.result c.parts-kind.ensures c.in_err-second_size.ensures.is in
    record { size = c.from_residual-in_err-second_size.ensures ∙ h.0; row = h.1 }

pub returns-then-out-first_size : goal.returns-then-out-first_size
returns-then-out-first_size c =
    let h =
    room_refused c.args.command c.args.out.now c.parts-kind.result c.parts-kind.ensures _ _
    c.in_ok-first_size.ensures.is c.in_ok-second_size.ensures.is (omega arith) in
    record { size = h.0; row = h.1 }

pub returns : goal.returns
returns c =
    let out = c.args.out.now in
    let parts = c.parts-kind.result in
    let kind = kind_number parts.kind ∷ [] in
    let first = piece_bytes parts.first in
    let second = piece_bytes parts.second in
    let h =
    accepted c.args.command out parts c.parts-kind.ensures _ _ c.in_ok-first_size.ensures.is c.in_ok-second_size.ensures.is
    (omega arith) c.put_piece-behind_first.ensures.real c.put_piece.ensures.real in
    let row : c.put_piece-behind_first.new.out ≡ written out 0 (kind ++ first) =
    c.put_piece-behind_first.ensures.row ∙ ap₂ (λ o i. written o i first) (c.put-behind_kind.ensures.row ∙ ap (λ n. written out 0 (n ∷ [])) c.number.ensures) c.put-behind_kind.ensures.end ∙ written_more out 0 kind first (omega arith) in
    let end : c.put_piece-behind_first.result ≡ 0 + length (kind ++ first) = omega arith in
    record {
      size = ap Some (omega arith) ∙ h.0;
      row = c.put_piece.ensures.row ∙ ap₂ (λ o i. written o i second) row end ∙ written_more out 0 (kind ++ first) second (omega arith) ∙ h.1;
    }
