use Rattle.std.proofs.Common.{◌≡◌, length, take, drop, set, ap, ◌∙◌, refl, arith, length-drop}
use Rattle.std.proofs.lemmas.List.{length-take-le}
use Rattle.objects.specs.Plan.{head_at}
use Rattle.objects.proofs.PackSteps.{new_head_is, two_set}
use Rattle.objects.proofs.sweep.Sweep.compose_head.Goals as goal

pub returns : goal.returns
returns c =
    let m = c.args.memory.now in
    let s = c.args.self.now in
    let head = take 32 (drop head_at m) in
    let long : length head ≡ 32 = length-take-le 32 (drop head_at m) (omega (arith, length-drop head_at m)) in
    new_head_is s.walk.first s.from s.page m head (set (set c.copy_words.new.memory 0 s.from) 1 s.page) c.rename.new.memory refl
    (ap (λ x. set (set x 0 s.from) 1 s.page) c.copy_words.ensures ∙ two_set head m s.from s.page (omega arith)) c.rename.ensures
