use Rattle.std.proofs.Common.{ltb, length, sym, ◌∙◌}
use Rattle.std.proofs.lemmas.Bool.{lt-ltb, le-ltb}
use Rattle.pages.proofs.ListLaws.{pick_true, pick_false}
use Rattle.objects.specs.Marking.{with_reference}
use Rattle.objects.specs.Plan.{map_of, plan_end, with_map}
use Rattle.objects.proofs.MarkLaws.{put_reference}
use Rattle.objects.proofs.mark.mark_root.Goals as goal

pub returns-then-memory-ge-END : goal.returns-then-memory-ge-END
returns-then-memory-ge-END c =
    let m = c.args.memory.now in
    put_reference c.args.first c.args.reference m c.mark_reference.new.map c.if-memory-ge-END.true c.mark_reference.ensures
    ∙ sym (pick_false (ltb (length m) plan_end) m (with_map (with_reference c.args.first c.args.reference (map_of m)) m) (le-ltb (length m) plan_end c.if-memory-ge-END.true))

pub returns-else-memory-ge-END : goal.returns-else-memory-ge-END
returns-else-memory-ge-END c =
    let m = c.args.memory.now in
    sym (pick_true (ltb (length m) plan_end) m (with_map (with_reference c.args.first c.args.reference (map_of m)) m) (lt-ltb (length m) plan_end c.if-memory-ge-END.false))
