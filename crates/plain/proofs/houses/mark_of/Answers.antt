use Rattle.std.proofs.Common.{◌≡◌, true, false, ap, rules}
use Rattle.trees.specs.Tree.{alike}
use Rattle.plain.specs.Sides.{rows}
use Rattle.plain.proofs.FileLaws.{marks_alike, marks_changed, marks_gone, marks_new}
use Rattle.plain.proofs.houses.mark_of.Goals as goal

pub returns-then-alike : goal.returns-then-alike
returns-then-alike c =
    let q : alike (rows c.args.was) (rows c.args.is) ≡ true = search rules in marks_alike (rows c.args.was) (rows c.args.is) q

pub returns-in-None-default : goal.returns-in-None-default
returns-in-None-default c =
    let q : alike (rows c.args.was) (rows c.args.is) ≡ false = search rules in marks_new (rows c.args.was) (rows c.args.is) q (ap rows c.in-None-default.is-0)

pub returns-in_default-None : goal.returns-in_default-None
returns-in_default-None c =
    let q : alike (rows c.args.was) (rows c.args.is) ≡ false = search rules in
    marks_gone (rows c.args.was) (rows c.args.is) _ q (ap rows c.in_default-None.is-0) (ap rows c.in_default-None.is-1)

pub returns-in_default : goal.returns-in_default
returns-in_default c =
    let q : alike (rows c.args.was) (rows c.args.is) ≡ false = search rules in
    marks_changed (rows c.args.was) (rows c.args.is) _ _ q (ap rows c.in_default.is-0) (ap rows c.in_default.is-1)
