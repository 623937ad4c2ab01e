use Rattle.std.proofs.Common.{arith}
use Rattle.std.proofs.lemmas.List.{length-set}
use Rattle.store.proofs.Scheduling.{mixed_more, mixed_at}
use Rattle.store.proofs.words.eight_rounds.Goals as goal

pub loop-i-preserved : goal.loop-i-preserved
loop-i-preserved c = (
  simp length-set c.loop-i.invariant.0,
  λ M s m. mixed_at _ _ (omega arith)
      (mixed_more M s _ _ _ _ _ _ (omega arith) c.extension.ensures c.constant.ensures c.round-v.ensures (c.loop-i.invariant.1 M s m)),
)
