use Rattle.std.specs.Prelude.{take}
use Rattle.std.proofs.Common.{◌∙◌, ap, sym}
use Rattle.std.proofs.lemmas.List.{take_at}
use Rattle.commands.specs.Laws.{ReadBack}
use Rattle.commands.specs.Meaning.{meant}
use Rattle.commands.specs.Parse.{parsed}
use Rattle.boat.proofs.line.spelled.Goals as goal

-- What the row begins with is kept, and that is parsed back.
pub returns : goal.returns
unfolding ReadBack
returns c =
    let row = take_at c.spell.new.out _ _ (c.spell.auto.out ∙ c.as_mut_slice.ensures.len) ∙ c.spell.ensures.row in
    ap parsed (c.truncate.ensures.items ∙ ap (take c.in_ok-size.size) row)
    ∙ c.parsed_back.ensures.row (meant c.args.command) c.as_mut_slice.result.now c.in_ok-size.size (sym c.spell.ensures.size ∙ c.in_ok-size.ensures.ok_part)
