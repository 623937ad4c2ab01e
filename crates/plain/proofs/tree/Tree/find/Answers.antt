use Rattle.std.proofs.Common.{[], ◌∷◌, None, refl, ap, ◌∙◌}
use Rattle.plain.specs.Sides.{rows}
use Rattle.plain.proofs.FileLaws.{rows_held}
use Rattle.plain.proofs.tree.Tree.find.Goals as goal

pub returns-in_err-get : goal.returns-in_err-get
returns-in_err-get c =
    ap rows c.from_residual.ensures ∙ rows_held c.args.path.now c.args.self.now.files.entries [] None c.in_err-get.ensures.value refl

pub returns : goal.returns
returns c = rows_held c.args.path.now c.args.self.now.files.entries _ _ c.in_ok-get.ensures.value (ap (λ b. b ∷ []) c.as_slice.ensures.value)
