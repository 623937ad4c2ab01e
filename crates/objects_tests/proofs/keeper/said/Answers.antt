use Rattle.std.proofs.Common.{◌-◌, length, take, drop, ap, ◌∙◌, arith, length-drop}
use Rattle.std.proofs.lemmas.List.{take_all}
use Rattle.pages.specs.Bytes.{from_bytes}
use Rattle.objects_tests.proofs.keeper.said.Goals as goal

pub returns : goal.returns
returns c =
    let text = c.args.text.now in
    let at = c.args.at in
    c.number.ensures ∙ ap (λ bs. from_bytes 0 (take 8 bs)) (take_all (length text - at) (drop at text) (omega (arith, length-drop at text)))
