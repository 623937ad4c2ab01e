use Rattle.std.proofs.Common.{◌+◌, ◌-◌, ◌≤◌, false, [], ◌∷◌, ◌++◌, length, take, drop, Ok, Err, sym, ap, ◌∙◌, ap₂, arith, length-drop, length-take}
use Rattle.std.proofs.lemmas.List.{take_rest}
use Rattle.pages.specs.Lists.{pick}
use Rattle.trees.specs.declared.rows.Refused.TheVariants.{Full}
use Rattle.trees.specs.Order.{spot, there}
use Rattle.trees.specs.Row.{entry, laid, entries_of}
use Rattle.trees.proofs.RowLaws.{entries_cut, length_cut, spot_within}
use Rattle.trees.proofs.EntryLaws.{entries_are}
use Rattle.trees.proofs.PutLaws.{no_room, put_some, put_over, put_full, put_between}
use Rattle.trees.proofs.rows.put_key.Goals as goal

pub returns-then-space-eq0 : goal.returns-then-space-eq0
returns-then-space-eq0 c =
    let k = c.args.key.now in let ws = c.args.row.now in let r = c.args.reference in
    let e = no_room k ws c.args.weight r (omega (arith, put_some k (r ∷ []) (entries_of ws), c.space-space.ensures)) in
    record { answer = ap (λ b. pick b (Ok tt) (Err Full)) e.0; after = e.1 }

pub returns-in-Ok : goal.returns-in-Ok
returns-in-Ok c =
    let k = c.args.key.now in let ws = c.args.row.now in let r = c.args.reference in let at = c.in-Ok.at in
    let are = entries_are ws _ c.entries.ensures.is in
    let es = entries_cut ws c.count-n.result c.count-n.ensures in
    let e = put_over k ws c.replace.new.body c.args.weight r at c.count-n.result (omega arith) c.count-n.ensures
    (c.in-Ok.ensures.0 ∙ ap (spot false k) are) (sym (sym (ap (λ u. there k (drop at u)) are) ∙ c.in-Ok.ensures.1))
    (c.replace.ensures ∙ ap₂ (λ u xs. laid (take at u ++ entry k r ∷ drop (at + 1) u) xs) es (take_rest ws 2)) in
    record { answer = ap (λ b. pick b (Ok tt) (Err Full)) e.0; after = e.1 }

pub returns-in-Err : goal.returns-in-Err
returns-in-Err c =
    let k = c.args.key.now in let ws = c.args.row.now in
    let are = entries_are ws _ c.entries.ensures.is in
    let e = put_full k ws c.args.weight c.args.reference c.in-Err.field-0 (omega arith) (c.in-Err.ensures.0 ∙ ap (spot false k) are) (sym (sym (ap (λ u. there k (drop c.in-Err.field-0 u)) are) ∙ c.in-Err.ensures.1)) in
    record { answer = ap (λ b. pick b (Ok tt) (Err Full)) e.0; after = e.1 }

pub insert-requires : goal.insert-requires
insert-requires c =
    let k = c.args.key.now in let ws = c.args.row.now in
    let are = entries_are ws _ c.entries.ensures.is in
    let h : c.in-Err-2.at ≤ length (entries_of ws) = omega (arith, spot_within false k (entries_of ws), c.in-Err-2.ensures.0 ∙ ap (spot false k) are) in (
      omega (arith, h, length_cut c.count-n.result (drop 2 ws), ap length (entries_cut ws c.count-n.result c.count-n.ensures), length_cut c.count-n.result (take (length ws - 2) (drop 2 ws))),
      omega (arith, length-take (length ws - 2) (drop 2 ws), length-drop 2 ws),
    )

pub returns-in-Err-2 : goal.returns-in-Err-2
returns-in-Err-2 c =
    let k = c.args.key.now in let ws = c.args.row.now in let r = c.args.reference in let at = c.in-Err.field-0 in
    let are = entries_are ws _ c.entries.ensures.is in
    let es = entries_cut ws c.count-n.result c.count-n.ensures in
    let e = put_between k ws c.insert.new.body c.args.weight r at (c.count-n.result + 1) c.saturating_add-sum.result (omega arith) (omega arith) (omega arith)
    (c.in-Err.ensures.0 ∙ ap (spot false k) are) (sym (sym (ap (λ u. there k (drop at u)) are) ∙ c.in-Err.ensures.1))
    (c.insert.ensures ∙ ap₂ (λ u xs. laid (take at u ++ entry k r ∷ drop at u) xs) es (take_rest ws 2)) c.saturating_add-sum.ensures in
    record { answer = ap (λ b. pick b (Ok tt) (Err Full)) e.0; after = e.1 }
