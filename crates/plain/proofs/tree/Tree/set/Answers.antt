use Rattle.std.proofs.Common.{◌≡◌, ap, ◌∙◌, sym}
use Rattle.trees.specs.Tree.{put, set}
use Rattle.plain.specs.Files.{held}
use Rattle.plain.specs.Sides.{rows}
use Rattle.plain.proofs.FileLaws.{set_none, set_some}
use Rattle.plain.proofs.tree.Tree.set.Goals as goal

pub returns-in-Some-clause-ok : goal.returns-in-Some-clause-ok
returns-in-Some-clause-ok c =
    let e : put c.args.path.now c.in-Some.bytes.now (held c.args.self.now) ≡ set c.args.path.now (rows c.args.row) (held c.args.self.now) =
    sym (ap (λ r. set c.args.path.now (rows r) (held c.args.self.now)) c.in-Some.is ∙ set_some c.args.path.now c.in-Some.bytes.now (held c.args.self.now)) in
    rw (← e) c.put.ensures.ok

pub returns-in-None-clause-ok : goal.returns-in-None-clause-ok
returns-in-None-clause-ok c =
    c.remove.ensures ∙ sym (ap (λ r. set c.args.path.now (rows r) (held c.args.self.now)) c.in-None.is ∙ set_none c.args.path.now (held c.args.self.now))
