use Rattle.std.proofs.Common.{◌≡◌, ◌-◌, length, drop, length-drop, sym, ◌∙◌, ap, ap₂, arith}
use Rattle.std.proofs.lemmas.List.{length-take-le}
use Rattle.pages.specs.Lists.{zeros}
use Rattle.pages.specs.Words.{over}
use Rattle.store.proofs.BitLaws.{zeros_are}
use Rattle.objects.proofs.PlanLaws.{put_over}
use Rattle.objects.proofs.PackSteps.{filled_is, filled_short}
use Rattle.objects.proofs.pack.fill.Goals as goal

pub returns-then-memory-lt-END : goal.returns-then-memory-lt-END
returns-then-memory-lt-END c = sym (filled_short c.args.waiting c.args.memory.now c.if-memory-lt-END.true)

pub returns : goal.returns
returns c =
    let w = c.min-waiting.result in
    let m = c.copy_words.new.memory in
    let long : length c.fill.new.self ≡ 64 - w = c.fill.ensures.len ∙ length-take-le (64 - w) (drop w m) (omega (arith, length-drop w m)) in
    let laid : c.fill.new.self ≡ zeros (64 - w) = c.fill.ensures.after (λ y e. e) ∙ sym (zeros_are _) ∙ ap zeros (sym c.fill.ensures.len ∙ long) in
    put_over w (64 - w) c.fill.new.self m long ∙ ap₂ (over w) laid c.copy_words.ensures
    ∙ filled_is c.args.waiting w c.args.memory.now c.if-memory-lt-END.false c.min-waiting.ensures
