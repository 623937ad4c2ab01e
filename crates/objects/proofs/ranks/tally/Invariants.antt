use Rattle.std.proofs.Common.{◌≡◌, ◌*◌, ◌≤◌, length, take, sum_by}
use lib.Count.{ones}
use lib.Seq.{paste}
use Rattle.objects.specs.Plan.{map_of, counts_at, counts_words}
use Rattle.objects.specs.Ranks.{counts}
use Rattle.objects.proofs.ranks.tally.Given as goal

-- so many counts are written, and the sum is the next
abbrev pub invariant-loop-block : goal.invariant-loop-block
invariant-loop-block l =
    (l.memory ≡ paste l.initial.memory counts_at (counts counts_words (map_of l.initial.memory)) l.block)
    × (l.sum ≡ sum_by ones (take (8 * l.block) (map_of l.initial.memory))) × (l.sum ≤ 512 * l.block) × (length l.memory ≡ length l.initial.memory)
