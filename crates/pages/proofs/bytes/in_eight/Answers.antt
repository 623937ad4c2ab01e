use Rattle.std.proofs.Common.{sym, ◌∙◌}
use native.Mathlib.Nat.{div-div-eq-div-mul}
use Rattle.pages.specs.Bytes.{in_bytes}
use Rattle.pages.proofs.bytes.in_eight.Goals as goal

pub returns : goal.returns
unfolding in_bytes
returns c = c.to_be_bytes.ensures ∙ sym (simp div-div-eq-div-mul)
