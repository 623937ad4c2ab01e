use Rattle.std.proofs.Common.{◌≡◌, ℕ, suc, ◌+◌, ◌-◌, sym, ap, ◌∙◌, arith}
use Rattle.store.specs.Bitmap.{with_run}
use Rattle.store.proofs.bitmap.set_run.Goals as goal

pub loop-unit-preserved : goal.loop-unit-preserved
unfolding with_run
loop-unit-preserved c =
    let u : ℕ = c.loop-unit.unit in
    let end : ℕ = c.saturating_add-unit-end.result in
    let e : end - u ≡ suc (end - (u + 1)) = omega arith in
    ap (with_run (end - (u + 1)) (u + 1)) c.set.ensures ∙ sym (ap (λ n. with_run n u c.loop-unit.map) e) ∙ c.loop-unit.invariant

pub returns : goal.returns
unfolding with_run
returns c =
    let u : ℕ = c.loop-unit.unit in
    let end : ℕ = c.saturating_add-unit-end.result in
    let z : end - u ≡ 0 = omega arith in
    sym (ap (λ n. with_run n u c.loop-unit.map) z) ∙ c.loop-unit.invariant
    ∙ ap (λ n. with_run (n - c.args.from) c.args.from c.args.map.now) c.saturating_add-unit-end.ensures
