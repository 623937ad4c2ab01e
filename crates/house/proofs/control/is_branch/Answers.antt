use Rattle.std.proofs.lemmas.Slice.Eq.{slice_eq-Decides}
use Rattle.std.proofs.lemmas.Bool.Decides.{Decides-eqb, same_from_decides}
use Rattle.pages.specs.Lists.{same}
use Rattle.pages.proofs.ListLaws.{same_from, same_true}
use Rattle.house.specs.Control.{the_branch}
use Rattle.house.proofs.control.is_branch.Goals as goal

pub returns : goal.returns
returns c =
    let n = c.args.name.now in
    let d = slice_eq-Decides Decides-eqb c.as_slice.result.now n _ c.eq.ensures in
    same_from_decides c.eq.result (same the_branch n) (rw c.as_slice.ensures at d) (same_true the_branch n, same_from the_branch n)
