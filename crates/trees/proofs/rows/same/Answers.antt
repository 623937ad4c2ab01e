use Rattle.std.proofs.Common.{refl}
use Rattle.std.proofs.lemmas.Slice.Eq.{slice_eq-Decides}
use Rattle.std.proofs.lemmas.Bool.Decides.{Decides-eqb}
use Rattle.trees.proofs.EntryLaws.{same_entries}
use Rattle.trees.proofs.rows.same.Goals as goal

pub returns : goal.returns
returns c =
    same_entries c.args.a.now c.args.b.now _ _ c.eq.result c.entries.ensures.is c.entries-2.ensures.is
    (slice_eq-Decides (λ a b. slice_eq-Decides Decides-eqb a b _ refl) _ _ _ c.eq.ensures)
