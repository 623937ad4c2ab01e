use Rattle.std.proofs.Common.{◌≡◌, ◌+◌, ◌-◌, take, drop, sym, ◌∙◌, arith}
use Rattle.std.proofs.lemmas.List.{length-take-le}
use Rattle.objects.proofs.MarkLaws.{mark_none, mark_more, mark_all}
use Rattle.objects.proofs.mark.mark_references.Goals as goal

pub loop-reference-init : goal.loop-reference-init
loop-reference-init c =
    mark_none c.args.first (take (2 + c.references_met-many.result - 2) (drop 2 c.split_at_mut-front.result.0.now)) c.split_at_mut-front.result.1.now

pub slice_bounds-mark_reference-length : goal.slice_bounds-mark_reference-length
slice_bounds-mark_reference-length c =
    sym (length-take-le 131072 c.loop-reference.behind (omega (arith, c.loop-reference.auto.behind, c.split_at_mut-front.ensures.back_len)))

pub loop-reference-preserved : goal.loop-reference-preserved
loop-reference-preserved c =
    mark_more c.args.first c.loop-reference.reference-index _ _ c.loop-reference.behind _ (omega (arith, c.split_at_mut-front.ensures.back_len)) (omega arith)
    c.loop-reference.invariant c.mark_reference.ensures

pub returns : goal.returns
returns c =
    let many = 2 + c.references_met-many.result - 2 in
    let all : many ≡ c.references_met-many.result = omega arith in
    mark_all c.args.first c.loop-reference.reference-index many c.args.memory.now _ _ c.loop-reference.behind c.requires
    (all ∙ c.references_met-many.ensures) c.split_at_mut-front.ensures.front c.split_at_mut-front.ensures.back (omega arith) c.loop-reference.invariant
