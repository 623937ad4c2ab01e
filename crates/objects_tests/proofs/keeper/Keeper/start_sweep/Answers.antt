use Rattle.std.proofs.Common.{◌≡◌, length, take, ap, ◌∙◌, arith}
use Rattle.std.proofs.lemmas.List.{length-take-le}
use Rattle.pages.specs.Words.{over}
use Rattle.objects.specs.Plan.{head_at}
use Rattle.objects.specs.Sweeping.{sweep_begun, swung}
use Rattle.objects.proofs.PlanLaws.{put_over}
use Rattle.objects_tests.specs.Keeper.{sweeping, swept}
use Rattle.objects_tests.proofs.keeper.Keeper.start_sweep.Goals as goal

pub returns : goal.returns
returns c =
    let k = c.args.self.now in
    let m = c.args.memory.now in
    let head = c.copy_from_slice-2.new.self in
    let e : head ≡ take 32 m = c.copy_from_slice-2.ensures.after ∙ c.copy_from_slice.ensures.after in
    let long : length head ≡ 32 = ap length e ∙ length-take-le 32 m (omega arith) in
    c.swept.ensures c.begin-request.new.memory
    ∙ ap (swung (sweeping k.walk) (swept k.walk))
    (c.begin-request.ensures ∙ ap (sweep_begun k.sweep) (put_over head_at 32 head m long ∙ ap (λ ws. over head_at ws m) e))
