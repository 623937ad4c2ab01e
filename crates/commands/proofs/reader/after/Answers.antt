use Rattle.std.proofs.Common.{◌≡◌, ◌-◌, length, take, drop, sym, ◌∙◌, rules}
use Rattle.std.proofs.lemmas.List.{take_rest, drop_all}
use Rattle.commands.proofs.reader.after.Goals as goal

pub returns-in-Some : goal.returns-in-Some
returns-in-Some c =
    let t = c.args.text.now in
    let e : c.in-Some.rest.now ≡ take (length t - 8) (drop 8 t) = search rules in
    e ∙ take_rest t 8

pub returns-in-None : goal.returns-in-None
returns-in-None c = sym (drop_all 8 c.args.text.now (search rules))
