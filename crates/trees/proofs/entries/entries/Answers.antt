use Rattle.std.proofs.Common.{◌≡◌, ◌-◌, ◌/◌, ◌≤◌, length, take, drop, ap, ◌∙◌, ap₂, arith, rules, length-drop}
use Rattle.std.proofs.lemmas.List.{take_rest}
use Rattle.trees.specs.Row.{held, tens}
use Rattle.trees.proofs.EntryLaws.{take_tens}
use Rattle.trees.proofs.entries.entries.Goals as goal

pub returns-clause-is : goal.returns-clause-is
returns-clause-is c =
    let ws = c.args.row.now in let body = c.in-Some.body.now in
    let is : body ≡ take (length ws - 2) (drop 2 ws) = search rules in
    let e : body ≡ drop 2 ws = is ∙ take_rest ws 2 in
    let h : held ws ≤ length body / 10 = omega (arith, ap length e, length-drop 2 ws) in
    ap₂ (λ n es. take n es) c.count.ensures c.as_chunks.ensures.front ∙ take_tens _ _ _ h ∙ ap (tens (held ws)) e
