use Rattle.std.proofs.Common.{◌≡◌, true, false, rules}
use Rattle.trees.specs.Tree.{alike}
use Rattle.plain.specs.Sides.{rows}
use Rattle.plain.proofs.SideLaws.{meets_alike, meets_ours, meets_theirs}
use Rattle.plain.proofs.tree.meet.Goals as goal

pub returns-then-alike : goal.returns-then-alike
returns-then-alike c =
    let q : alike (rows c.args.ours) (rows c.args.theirs) ≡ true = search rules in meets_alike _ _ _ _ q

pub returns-in-true-true : goal.returns-in-true-true
returns-in-true-true c =
    let q : alike (rows c.args.ours) (rows c.args.theirs) ≡ false = search rules in
    let y : c.args.ours_changed ≡ true = search rules in
    let z : c.args.theirs_changed ≡ true = search rules in
    rw (z) (meets_ours _ _ _ _ q y)

pub returns-in-true-false : goal.returns-in-true-false
returns-in-true-false c =
    let q : alike (rows c.args.ours) (rows c.args.theirs) ≡ false = search rules in
    let y : c.args.ours_changed ≡ true = search rules in
    let z : c.args.theirs_changed ≡ false = search rules in
    rw (z) (meets_ours _ _ _ _ q y)

pub returns-in-false-default : goal.returns-in-false-default
returns-in-false-default c =
    let q : alike (rows c.args.ours) (rows c.args.theirs) ≡ false = search rules in
    let y : c.args.ours_changed ≡ false = search rules in
    meets_theirs _ _ _ _ q y
