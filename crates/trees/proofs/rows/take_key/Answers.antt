use Rattle.std.proofs.Common.{◌+◌, ◌-◌, ◌++◌, take, drop, ◌∙◌, ap₂, arith}
use Rattle.std.proofs.lemmas.List.{take_rest}
use Rattle.trees.specs.Row.{laid}
use Rattle.trees.proofs.RowLaws.{entries_cut}
use Rattle.trees.proofs.EntryLaws.{at_key, at_none}
use Rattle.trees.proofs.PutLaws.{take_none, take_one}
use Rattle.trees.proofs.rows.take_key.Goals as goal

pub returns-in_default : goal.returns-in_default
returns-in_default c =
    let k = c.args.key.now in let ws = c.args.row.now in
    let e = take_none k ws c.args.weight (at_none k ws _ c.entries.ensures.is c.in_default.ensures) in
    record { answer = e.0; after = e.1 }

pub returns : goal.returns
returns c =
    let k = c.args.key.now in let ws = c.args.row.now in let at = c.in-Some.at in
    let p = at_key k ws _ at c.entries.ensures.is c.in-Some.ensures in
    let es = entries_cut ws c.count-n.result c.count-n.ensures in
    let e = take_one k ws c.remove.new.body c.args.weight at (c.count-n.result - 1) c.saturating_sub-sum.result (omega (arith, p.1)) (omega arith) p.0 p.1
    (c.remove.ensures ∙ ap₂ (λ u xs. laid (take at u ++ drop (at + 1) u) xs) es (take_rest ws 2)) c.saturating_sub-sum.ensures in
    record { answer = e.0; after = e.1 }
