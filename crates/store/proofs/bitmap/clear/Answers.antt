use Rattle.std.proofs.Common.{sym, ◌∙◌}
use Rattle.store.proofs.BitLaws.{zeros_are}
use Rattle.store.proofs.bitmap.clear.Goals as goal

pub returns : goal.returns
returns c = c.fill.ensures.after (λ y e. e) ∙ sym (zeros_are _)
