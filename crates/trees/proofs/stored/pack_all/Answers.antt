use Rattle.std.proofs.Common.{◌+◌, [], length, get_or, take, ap, ◌∙◌, arith, length-append}
use Rattle.pages.specs.Lists.{flat}
use Rattle.trees.specs.Packed.{packed}
use Rattle.trees.proofs.StoredLaws.{packed_push, packed_within, over_more}
use Rattle.trees.proofs.stored.pack_all.Goals as goal

pub pack-at-requires : goal.pack-at-requires
pack-at-requires c = omega (arith, c.requires, c.loop-entry.invariant.0, packed_within c.loop-entry.entry-index c.args.entries.now c.loop-entry-test.true)

pub loop-entry-preserved : goal.loop-entry-preserved
loop-entry-preserved c =
    let es = c.args.entries.now in let i = c.loop-entry.entry-index in
    let front = flat packed (take i es) in let more = packed (get_or es i []) in
    let p = packed_push i es c.loop-entry-test.true in
    let w = packed_within i es c.loop-entry-test.true in (
      omega (arith, c.pack-at.ensures.end, c.loop-entry.invariant.0, ap length p, length-append front more),
      c.pack-at.ensures.words
          ∙ over_more c.args.start c.loop-entry.at front (flat packed (take (i + 1) es)) more c.args.out.now c.loop-entry.out p c.loop-entry.invariant.0
          (omega (arith, c.requires, c.loop-entry.invariant.0, w)) c.loop-entry.invariant.1,
    )
