use Rattle.std.proofs.Common.{◌≡◌, ltb, length, sym, ap, ◌∙◌}
use Rattle.std.proofs.lemmas.Bool.{le-ltb}
use Rattle.pages.specs.Lists.{zeros}
use Rattle.pages.proofs.ListLaws.{pick_false}
use Rattle.pages.proofs.WordLaws.{length_zeros}
use Rattle.objects.specs.Plan.{map_words, plan_end, with_map}
use Rattle.objects.proofs.PlanLaws.{length_map_of, put_map}
use Rattle.objects.proofs.mark.unmark.Goals as goal

pub returns-then-memory-ge-END : goal.returns-then-memory-ge-END
returns-then-memory-ge-END c =
    let m = c.args.memory.now in
    let e : c.clear.new.map ≡ zeros map_words = c.clear.ensures ∙ ap zeros (length_map_of m c.if-memory-ge-END.true) in
    put_map c.clear.new.map m (ap length e ∙ length_zeros map_words) ∙ ap (λ ws. with_map ws m) e
    ∙ sym (pick_false (ltb (length m) plan_end) m (with_map (zeros map_words) m) (le-ltb (length m) plan_end c.if-memory-ge-END.true))
