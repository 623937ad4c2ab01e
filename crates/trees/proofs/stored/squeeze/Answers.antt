use Rattle.std.proofs.Common.{◌+◌, length, set, sym, ap, ◌∙◌, arith, length-set}
use Rattle.trees.proofs.StoredLaws.{measured_entries, packed_entries, references_entries, squeeze_done, squeeze_not}
use Rattle.trees.proofs.stored.squeeze.Goals as goal

pub overflow_add-total-2 : goal.overflow_add-total-2
overflow_add-total-2 c =
    let m = measured_entries c.args.row.now _ c.entries-entries.ensures.is in omega (arith, m.0, m.1, c.measure.ensures, c.entries-entries.ensures.many)

pub returns-then-total-out : goal.returns-then-total-out
returns-then-total-out c =
    let ws = c.args.row.now in
    let m = measured_entries ws _ c.entries-entries.ensures.is in
    let e = squeeze_not ws c.args.out.now (omega (arith, m.0, c.measure.ensures, c.entries-entries.ensures.many)) in
    record { answer = e.0; after = e.1 }

pub overflow_cast-total : goal.overflow_cast-total
overflow_cast-total c =
    let m = measured_entries c.args.row.now _ c.entries-entries.ensures.is in omega (arith, m.0, m.1, c.measure.ensures, c.entries-entries.ensures.many)

pub pack_all-requires : goal.pack_all-requires
pack_all-requires c =
    let ws = c.args.row.now in let n = length c.entries-entries.result.now in let out = c.args.out.now in let h = c.heading.result in
    let m = measured_entries ws _ c.entries-entries.ensures.is in
    omega (
      arith,
      m.0,
      c.measure.ensures,
      ap length (packed_entries ws _ c.entries-entries.ensures.is),
      c.pack_references.auto.out,
      length-set c.pack_references.new.out (2 + n) c.weight.result,
      length-set (set out 0 h) 1 0,
      length-set out 0 h,
    )

pub returns : goal.returns
returns c =
    let ws = c.args.row.now in let n = length c.entries-entries.result.now in
    let m = measured_entries ws _ c.entries-entries.ensures.is in
    let p = packed_entries ws _ c.entries-entries.ensures.is in
    let e = squeeze_done ws c.args.out.now c.pack_references.new.out c.pack_all.new.out _ _ c.heading.result n c.weight.result (3 + n + c.measure.result)
    (references_entries ws _ c.entries-entries.ensures.is) p c.entries-entries.ensures.many (ap (λ k. 3 + n + k) (c.measure.ensures ∙ m.0 ∙ sym (ap length p))) (omega arith)
    c.heading.ensures c.weight.ensures c.pack_references.ensures c.pack_all.ensures in
    record { answer = e.0; after = e.1 }
