use Rattle.objects.proofs.RankLaws.{rank_none, rank_from}
use Rattle.objects.proofs.ranks.rank.Goals as goal

pub returns-then-memory-lt-END : goal.returns-then-memory-lt-END
returns-then-memory-lt-END c = rank_none c.args.memory.now c.args.unit c.if-memory-lt-END.true

pub returns : goal.returns
returns c =
    rank_from c.args.memory.now c.args.unit c.min-unit.result c.min-block.result c.ones_in-whole.result c.ones_below.result
    c.if-memory-lt-END.false c.min-unit.ensures c.min-block.ensures c.ones_in-whole.ensures.value c.ones_below.ensures.value
