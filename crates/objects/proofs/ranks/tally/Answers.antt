use Rattle.std.proofs.Common.{◌≡◌, ℕ, ◌+◌, ◌-◌, ◌*◌, take, drop, set, sum_by, refl, ap, ◌∙◌, arith, length-set}
use lib.Count.{ones}
use Rattle.std.proofs.lemmas.List.Edits.{paste_none}
use Rattle.objects.specs.Plan.{map_of}
use Rattle.objects.specs.Ranks.{counts}
use Rattle.objects.proofs.RankLaws.{tally_more, tally_none, tally_all}
use Rattle.objects.proofs.ranks.tally.Goals as goal

pub loop-block-init : goal.loop-block-init
loop-block-init c = (paste_none c.args.memory.now 172256 (counts 16384 (map_of c.args.memory.now)), refl, omega arith, refl)

pub slice_bounds-ones_in-end : goal.slice_bounds-ones_in-end
slice_bounds-ones_in-end c = simp length-set (omega arith)

pub loop-block-preserved : goal.loop-block-preserved
loop-block-preserved c =
    let x = tally_more c.args.memory.now c.loop-block.memory c.loop-block.block c.loop-block.sum (omega arith) (omega arith) c.loop-block.invariant.0 c.loop-block.invariant.1 in
    let at : ℕ = 41184 + 8 * c.loop-block.block in
    let eight : at + 8 - at ≡ 8 = omega arith in (
      x.0,
      ap (λ n. c.loop-block.sum + n) (c.ones_in-sum.ensures.value ∙ ap (λ n. sum_by ones (take n (drop at (set c.loop-block.memory (172256 + c.loop-block.block) c.loop-block.sum)))) eight) ∙ x.1,
      omega arith,
      simp length-set (omega arith),
    )

pub returns-after-loop-block : goal.returns-after-loop-block
returns-after-loop-block c = tally_all c.args.memory.now c.loop-block.memory c.loop-block.block (omega arith) (omega arith) c.loop-block.invariant.0

pub returns-else-memory-ge-END : goal.returns-else-memory-ge-END
returns-else-memory-ge-END c = tally_none c.args.memory.now (omega arith)
