use Rattle.std.proofs.Common.{drop, ap, ◌∙◌, arith}
use Rattle.std.specs.List.{fold, zip}
use Rattle.store.specs.Sha256.{K}
use Rattle.store.proofs.Scheduling.{turned, mixed_none, mixed_at, last_none, last_all}
use Rattle.store.proofs.words.compress.Goals as goal

pub loop-t-init : goal.loop-t-init
loop-t-init c = (omega arith, omega arith, omega arith, λ M m. m)

pub eight_rounds-v-requires : goal.eight_rounds-v-requires
eight_rounds-v-requires c = omega (arith, c.loop-t.invariant.0)

pub loop-t-preserved : goal.loop-t-preserved
loop-t-preserved c = (
  omega (arith, c.loop-t.invariant.0),
  omega (arith, c.loop-t.invariant.0),
  c.eight_rounds-v.array_long,
  λ M m. mixed_at _ _ (omega arith) (c.eight_rounds-v.ensures M _ (c.loop-t.invariant.3 M m)),
)

pub returns : goal.returns
returns c =
    let mixed = mixed_at _ 48 (omega (arith, c.loop-t.invariant.1)) (c.loop-t.invariant.3 _ (mixed_none _ _ _ (omega arith) c.load-w.ensures)) in
    c.plus.ensures ∙ last_all _ _ _ _ mixed _ (c.last_rounds.ensures ∙ ap (λ v. fold turned v (zip (drop 48 K) (drop 48 c.loop-t.w))) (last_none _ _ _ _ mixed))
