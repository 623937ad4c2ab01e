use Rattle.std.proofs.Common.{◌+◌, ◌%◌, eqb, sym}
use Rattle.std.proofs.lemmas.Bool.{eq-eqb, ne_eqb}
use Rattle.pages.specs.Machine.{place}
use Rattle.pages.proofs.ListLaws.{pick_true, pick_false}
use Rattle.pages.proofs.machine.place_of.Goals as goal

pub returns-then-ring-eq0 : goal.returns-then-ring-eq0
unfolding place
returns-then-ring-eq0 c =
    sym (pick_true (eqb c.args.ring 0) 1 (1 + c.args.page % c.args.ring) (eq-eqb c.args.ring 0 c.if-ring-eq0.true))

pub returns-else-ring-eq0 : goal.returns-else-ring-eq0
unfolding place
returns-else-ring-eq0 c =
    sym (pick_false (eqb c.args.ring 0) 1 (1 + c.args.page % c.args.ring) (ne_eqb c.args.ring 0 c.if-ring-eq0.false))
