use Rattle.std.proofs.Common.{sym, ap, ◌∙◌, ap₂, inl, inr}
use Rattle.std.specs.Iterator.Adapters.{zip_first, zip_second}
use Rattle.std.specs.Slice.Iter.{iter_rest}
use Rattle.std.proofs.lemmas.Slice.Zip.{Zip-more, either_empty_from_Zip}
use Rattle.pages.specs.Device.{left}
use Rattle.pages.specs.Lists.{each}
use Rattle.device.specs.Held.{meant}
use Rattle.device.specs.Left.{code}
use Rattle.device.proofs.Holding.{left_none}
use Rattle.device.proofs.bring_some.Goals as goal

pub loop-write-preserved : goal.loop-write-preserved
unfolding left
loop-write-preserved c =
    let t = c.next.new.self in
    let z = Zip-more c.loop-write.write-iterator t c.next.result (c.in-Some.write, c.in-Some.left) c.in-Some.is c.next.ensures.steps in
    ap (λ ps. left ps (each meant (iter_rest (zip_first t))) (each code (iter_rest (zip_second t)))) c.bring.ensures
    ∙ sym (ap₂ (λ qs cs. left c.loop-write.pages (each meant qs) (each code cs)) z.0 z.1) ∙ c.loop-write.invariant

pub returns : goal.returns
unfolding left
returns c =
    let s = c.loop-write.write-iterator in
    elim (either_empty_from_Zip s c.next.new.self c.next.result c.in-None.is c.next.ensures.steps) [
      | inl e ↦ sym (ap (λ qs. left c.loop-write.pages (each meant qs) (each code (iter_rest (zip_second s)))) e) ∙ c.loop-write.invariant
      | inr e ↦
          sym (ap (λ cs. left c.loop-write.pages (each meant (iter_rest (zip_first s))) (each code cs)) e
          ∙ left_none c.loop-write.pages (each meant (iter_rest (zip_first s)))) ∙ c.loop-write.invariant
    ]
