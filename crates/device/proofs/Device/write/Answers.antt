use Rattle.std.proofs.Common.{◌≡◌, length, [], ◌∷◌, ◌++◌, set, sym, ◌∙◌, subst, arith}
use Rattle.std.proofs.lemmas.List.{length-set, set_past}
use Rattle.device.specs.Held.{LeadsToLast}
use Rattle.device.specs.declared.Write.{Write as Waiting}
use Rattle.device.proofs.Holding.{leads_push}
use Rattle.device.proofs.Device.write.Goals as goal

pub invariant_of-self-then-at-len : goal.invariant_of-self-then-at-len
invariant_of-self-then-at-len c =
    let i = c.self.inside in
    let w : Waiting = record { at = c.args.at; page = c.args.page } in
    let end : c.len-place.result ≡ length i.queue.items = omega (arith, c.len-place.ensures) in (
      length-set i.last.items c.args.at c.len-place.result ∙ c.self.invariant.0,
      subst (λ ws. LeadsToLast ws (set i.last.items c.args.at c.len-place.result)) (sym c.in_ok-push.ensures.items)
          (subst (λ n. LeadsToLast (i.queue.items ++ w ∷ []) (set i.last.items c.args.at n)) (sym end)
          (leads_push i.queue.items w i.last.items c.self.invariant.1)),
    )

pub invariant_of-self-else-at-len : goal.invariant_of-self-else-at-len
invariant_of-self-else-at-len c =
    let i = c.self.inside in
    let w : Waiting = record { at = c.args.at; page = c.args.page } in (
      c.self.invariant.0,
      subst (λ ws. LeadsToLast ws i.last.items) (sym c.in_ok-push.ensures.items)
          (subst (λ places. LeadsToLast (i.queue.items ++ w ∷ []) places) (set_past i.last.items c.args.at _ (omega (arith, c.len.ensures, c.if-at-len.false)))
          (leads_push i.queue.items w i.last.items c.self.invariant.1)),
    )
