use Rattle.std.proofs.Common.{◌≡◌, [], take, sym, refl, ap, ◌∙◌, arith}
use Rattle.std.proofs.lemmas.List.{length-set}
use Rattle.store.specs.Sha256.{schedule}
use Rattle.store.proofs.Scheduling.{schedule_none, schedule_low}
use Rattle.store.proofs.words.load.Goals as goal

pub loop-t-init : goal.loop-t-init
loop-t-init c = (refl, schedule_none _ [])

pub loop-t-preserved : goal.loop-t-preserved
loop-t-preserved c =
    (simp length-set (omega arith), schedule_low _ _ _ _ (omega arith) c.loop-t.invariant.1 (omega arith) c.word.ensures)
