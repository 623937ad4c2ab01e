-- The keeper loads what it saved, and sweeps and marks as a client has to. Assumes nothing.
use Rattle.std.proofs.Common.{◌≡◌, ℕ, ◌≤◌, ltb, List, length, sym, refl, ap, ◌∙◌, ap₂, arith}
use Rattle.std.proofs.lemmas.Bool.{le-ltb}
use Rattle.pages.specs.Engine.{bulk_cells}
use Rattle.pages.specs.Lists.{zeros}
use Rattle.pages.specs.Machine.{asked}
use Rattle.pages.specs.declared.machine.Request.TheVariants.{Refuse}
use Rattle.pages.proofs.ListLaws.{pick_false}
use Rattle.objects.specs.Cells.{stage_code, stage_in}
use Rattle.objects.specs.Plan.{plan_end}
use Rattle.objects.specs.Sweeping.{sweep}
use Rattle.objects.specs.declared.sweep.Stage.{Stage}
use Rattle.objects.specs.declared.sweep.Stage.TheVariants.{Marking, Copying, Laying, Closing, Publishing}
use Rattle.objects_tests.specs.Keeper.{keeper, phase_code, phase_in, keeper_saves, keeper_resumes, resumed, sweeping, surveying, LoadsSaved, KeeperSweeps, KeeperWalks}
use Rattle.objects_tests.specs.declared.keeper.Keeper.{Keeper}
use Rattle.objects_tests.specs.declared.keeper.Phase.{Phase}
use Rattle.objects_tests.specs.declared.keeper.Phase.TheVariants.{Once, ToSweep, ToSurvey, Sweeping, Surveying}

phase_kept : (p : Phase) → phase_in (phase_code p) ≡ p
phase_kept Once = refl
phase_kept ToSweep = refl
phase_kept ToSurvey = refl
phase_kept Sweeping = refl
phase_kept Surveying = refl

stage_kept : (g : Stage) → stage_in (stage_code g) ≡ g
stage_kept Marking = refl
stage_kept Copying = refl
stage_kept Laying = refl
stage_kept Closing = refl
stage_kept Publishing = refl

pub loads_saved : LoadsSaved
unfolding keeper_saves zeros
loads_saved k =
    ap₂ (λ p g. keeper p (sweep g k.sweep.walk k.sweep.at k.sweep.from k.sweep.page k.sweep.waiting) k.walk) (phase_kept k.phase)
    (stage_kept k.sweep.stage)

-- with room for the plan it goes on by its phase
resumes_at : (k : Keeper) (m : List ℕ) → plan_end ≤ length m → keeper_resumes k m ≡ resumed k m k.phase
resumes_at k m h = pick_false (ltb (length m) plan_end) (asked k m (Refuse 2)) (resumed k m k.phase) (le-ltb (length m) plan_end h)

pub resumes_in : (k : Keeper) (m : List ℕ) (p : Phase) → plan_end ≤ length m → k.phase ≡ p → resumed k m p ≡ keeper_resumes k m
resumes_in k m p h e = ap (resumed k m) (sym e) ∙ sym (resumes_at k m h)

enough : (m : List ℕ) → length m ≡ bulk_cells → plan_end ≤ length m
enough m e = omega arith

pub keeper_sweeps : KeeperSweeps
keeper_sweeps w s m e = resumes_at (sweeping w s) m (enough m e)

pub keeper_walks : KeeperWalks
keeper_walks s w m e = resumes_at (surveying s w) m (enough m e)
