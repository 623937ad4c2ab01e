use Rattle.std.proofs.Common.{take, ◌∙◌, arith}
use Rattle.house.proofs.ControlLaws.{marked_none, marked_more, marked_all}
use Rattle.house.proofs.desk.mark_files.Goals as goal

pub loop-entry-init : goal.loop-entry-init
loop-entry-init c = marked_none c.args.first c.entries-entry-items.result.now c.args.front.now c.requires.0

pub loop-entry-preserved : goal.loop-entry-preserved
loop-entry-preserved c =
    c.mark_root.ensures
    ∙ marked_more c.args.first c.loop-entry.entry-index c.entries-entry-items.result.now c.args.front.now c.loop-entry.front c.requires.0 c.loop-entry-test.true c.loop-entry.invariant

pub returns : goal.returns
returns c =
    marked_all c.args.first c.loop-entry.entry-index c.entries-entry-items.result.now (take 40962 c.args.behind.now) c.args.front.now c.loop-entry.front c.entries-entry-items.ensures.is (omega arith)
    c.loop-entry.invariant
