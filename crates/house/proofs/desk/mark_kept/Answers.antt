use Rattle.std.proofs.Common.{◌≤◌, length, take, drop, ap₂, ◌∙◌, arith}
use Rattle.objects.specs.Marking.{begun}
use Rattle.house.proofs.ControlLaws.{kept_marked}
use Rattle.house.proofs.desk.mark_kept.Goals as goal

pub returns : goal.returns
returns c =
    let m = c.args.memory.now in
    let s = c.split_at_mut-front in
    let fits : 188640 ≤ length s.result.0.now = omega (arith, s.ensures.front_len) in
    kept_marked c.args.first (take 7 (drop 41155 m)) m c.mark_roots.new.memory s.result.1.now c.mark_files.new.front c.requires s.ensures.back
    (c.mark_roots.ensures.marked fits ∙ ap₂ (begun c.args.first) c.copy_from_slice.ensures.after s.ensures.front) c.mark_files.ensures
