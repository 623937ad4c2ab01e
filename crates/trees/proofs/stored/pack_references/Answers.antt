use Rattle.std.proofs.Common.{◌≡◌, ◌+◌, ◌<◌, [], length, get_or, take, sym, ap, ◌∙◌, arith}
use Rattle.std.proofs.lemmas.List.{length-take-le}
use Rattle.pages.specs.Lists.{each}
use Rattle.pages.proofs.ListLaws.{length_each}
use Rattle.trees.proofs.StoredLaws.{references_push, over_more, set_over}
use Rattle.trees.proofs.stored.pack_references.Goals as goal

pub loop-i-preserved : goal.loop-i-preserved
loop-i-preserved c =
    let es = c.args.entries.now in let i = c.loop-i.i in
    let h : i < length es = omega arith in
    let n : length (each (λ e. get_or e 9 0) (take i es)) ≡ i = length_each (λ e. get_or e 9 0) (take i es) ∙ length-take-le i es (omega arith) in
    set_over c.loop-i.out (2 + i) (get_or (get_or es i []) 9 0) (omega arith)
    ∙ over_more 2 (2 + i) (each (λ e. get_or e 9 0) (take i es)) (each (λ e. get_or e 9 0) (take (i + 1) es)) _ c.args.out.now c.loop-i.out (references_push i es h)
    (ap (λ m. 2 + m) (sym n)) (omega arith) c.loop-i.invariant
