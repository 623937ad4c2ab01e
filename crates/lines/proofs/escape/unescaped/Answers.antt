use Rattle.std.proofs.Common.{◌≡◌, length, arith}
use Rattle.std.proofs.lemmas.Bool.Decides.{nat_tests}
use Rattle.lines.proofs.EscapeLaws.{at_end, one_more}
use Rattle.lines.proofs.escape.unescaped.Goals as goal

pub loop-rest-preserved : goal.loop-rest-preserved
loop-rest-preserved c = one_more _ _ _ _ _ _ c.loop-rest.invariant c.in-Some.ensures c.in_ok-push.ensures.items

pub returns-in_default : goal.returns-in_default
returns-in_default c = c.loop-rest.invariant.fails c.in_default.ensures

pub returns : goal.returns
returns c =
    let e : length c.loop-rest.rest.now ≡ 0 = grind (arith, nat_tests, c.loop-rest-test.ensures) in
    at_end _ _ _ c.loop-rest.invariant e
