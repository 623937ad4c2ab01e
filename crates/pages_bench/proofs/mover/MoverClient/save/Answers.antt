use Rattle.std.proofs.Common.{◌≡◌, ℕ, Bool, true, false, ◌∷◌, refl, ap, ◌∙◌}
use mir.Val.{bool_byte}
use Rattle.pages.specs.Lists.{pick, zeros}
use Rattle.pages_bench.specs.Mover.{mover_saves}
use Rattle.pages_bench.proofs.mover.MoverClient.save.Goals as goal

as_number : (b : Bool) → bool_byte b ≡ pick b 1 0
as_number true = refl
as_number false = refl

pub returns : goal.returns
unfolding mover_saves zeros
returns c = ap (λ (n : ℕ). n ∷ c.args.self.now.left ∷ zeros 118) (c.from.ensures ∙ as_number c.args.self.now.looks)
