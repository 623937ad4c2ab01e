use Rattle.std.proofs.Common.{get_or, take, sym, ap, ◌∙◌, arith}
use Rattle.std.proofs.lemmas.List.{take_more}
use Rattle.objects.specs.Marking.{rooted}
use Rattle.objects.proofs.MarkLaws.{roots_marked, roots_more, roots_none}
use Rattle.objects.proofs.mark.mark_roots.Goals as goal

pub loop-reference-init : goal.loop-reference-init
loop-reference-init c = λ m e. e ∙ roots_none c.args.first m

pub loop-reference-preserved : goal.loop-reference-preserved
loop-reference-preserved c = λ m e.
    let i = c.loop-reference.reference-index in
    let rs = c.args.roots.now in
    c.mark_root.ensures ∙ ap (rooted c.args.first (get_or rs i 0)) (c.loop-reference.invariant m e)
    ∙ roots_more c.args.first (get_or rs i 0) (take i rs) m
    ∙ ap (λ xs. roots_marked c.args.first xs m) (sym (take_more rs i 0 (omega arith)))
