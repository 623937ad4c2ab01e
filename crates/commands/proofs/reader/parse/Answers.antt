use Rattle.std.proofs.Common.{◌≡◌, None, sym, ap, ◌∙◌}
use Rattle.std.proofs.lemmas.List.{nil_from_length}
use Rattle.pages.proofs.BytesLaws.{all_bytes_by}
use Rattle.commands.specs.Meaning.{meaning}
use Rattle.commands.specs.Parse.{of_bytes, of_kind, parsed}
use Rattle.commands.proofs.KindLaws.{decoded, not_decoded, of_no_kind}
use Rattle.commands.proofs.ParseLaws.{parsed_bytes, answered_by}
use Rattle.commands.proofs.reader.parse.Goals as goal

pub returns : goal.returns
unfolding of_bytes
returns c =
    let text = c.args.text.now in
    let is : meaning c.read.result ≡ parsed text =
    c.read.ensures ∙ ap (λ n. of_kind n c.in_ok-first.rest.now) (decoded _ _ _ c.try_from.ensures (sym c.ok.ensures.value ∙ c.in_ok-kind.was)) ∙ ap of_bytes (sym c.in_ok-first.ensures.cases.0) ∙ sym (parsed_bytes text (all_bytes_by text c.type_inv.text)) in
    record { is = is; answers = answered_by text (meaning c.read.result) is }

pub returns-in_err-kind : goal.returns-in_err-kind
unfolding of_bytes
returns-in_err-kind c =
    let text = c.args.text.now in
    let is : ◌≡◌ {A = _} None (parsed text) =
    sym (of_no_kind c.in_ok-first.first.now c.in_ok-first.rest.now (not_decoded _ _ c.try_from.ensures (sym c.ok.ensures.value ∙ c.in_err-kind.was))) ∙ ap of_bytes (sym c.in_ok-first.ensures.cases.0) ∙ sym (parsed_bytes text (all_bytes_by text c.type_inv.text)) in
    rw c.from_residual-in_err-kind.ensures (record { is = is; answers = answered_by text None is })

pub returns-in_err-first : goal.returns-in_err-first
unfolding of_bytes
returns-in_err-first c =
    let text = c.args.text.now in
    let is : ◌≡◌ {A = _} None (parsed text) =
    ap of_bytes (sym (nil_from_length text c.in_err-first.ensures.cases)) ∙ sym (parsed_bytes text (all_bytes_by text c.type_inv.text)) in
    rw c.from_residual.ensures (record { is = is; answers = answered_by text None is })
