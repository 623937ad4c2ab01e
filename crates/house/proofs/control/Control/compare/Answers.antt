use Rattle.std.proofs.Common.{sym, ap, ap₂, ◌∙◌, arith}
use Rattle.std.proofs.lemmas.List.{length-take-le}
use Rattle.objects.specs.Layouts.{bytes_put}
use Rattle.pages.specs.Machine.{asked}
use Rattle.pages.specs.declared.machine.Request.TheVariants.{Show}
use Rattle.house.specs.Control.{compared, comparing}
use Rattle.house.proofs.control.Control.compare.Goals as goal

pub returns-in_default : goal.returns-in_default
returns-in_default c = let k = c.args.self.now in ap (compared k c.args.memory.now) (sym c.in_default.is ∙ c.differ.ensures)

pub slice_bounds-put_bytes-end : goal.slice_bounds-put_bytes-end
slice_bounds-put_bytes-end c = sym (length-take-le c.show-bytes.result c.show-bytes.new.out (omega (arith, c.show-bytes.ensures.bound, c.show-bytes.array_long)))

pub returns : goal.returns
returns c =
    let k = c.args.self.now in
    let m = c.args.memory.now in
    ap₂ (λ x n. asked (comparing c.in-Some.field-0.next k) x (Show n)) (c.put_bytes.ensures ∙ ap (λ bs. bytes_put 0 bs m) c.show-bytes.ensures.shown) c.show-bytes.ensures.many
    ∙ ap (compared k m) (sym c.in-Some.is ∙ c.differ.ensures)
