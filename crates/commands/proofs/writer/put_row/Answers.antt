use Rattle.std.proofs.Common.{◌≡◌, ◌+◌, length, ap, ◌∙◌, ap₂, arith}
use Rattle.pages.specs.Bytes.{eight}
use Rattle.pages.proofs.BytesLaws.{length_eight, all_bytes_by}
use Rattle.commands.specs.Spell.{written}
use Rattle.commands.proofs.SpellLaws.{written_more}
use Rattle.commands.proofs.writer.put_row.Goals as goal

pub returns : goal.returns
returns c =
    let out = c.args.out.now in
    let bytes = c.args.bytes.now in
    let size = eight (length bytes) in
    let l : length size ≡ 8 = length_eight (length bytes) in
    let first : c.put-middle.new.out ≡ written out c.args.at size =
    c.put-middle.ensures.row ∙ ap (written out c.args.at) c.in_eight.ensures in
    let middle : c.put-middle.result ≡ c.args.at + length size =
    c.put-middle.ensures.end ∙ ap (λ b. c.args.at + length b) c.in_eight.ensures in
    record {
      row = c.put.ensures.row ∙ ap₂ (λ o i. written o i bytes) first middle ∙ written_more out c.args.at size bytes (omega arith);
      end = omega arith;
      real = all_bytes_by bytes c.type_inv.bytes;
    }
