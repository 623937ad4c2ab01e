use Rattle.std.proofs.Common.{◌≡◌, ℕ, suc, ◌+◌, ◌-◌, ◌/◌, ◌∷◌, ◌++◌, sym, ap, ◌∙◌, ap₂, append-nil, arith}
use native.Mathlib.Nat.{sub-zero}
use Rattle.pages.specs.Lists.{each}
use Rattle.device.specs.Left.{code, digits}
use Rattle.device.proofs.Holding.{each_push, digits_none, digits_more}
use Rattle.device.proofs.outcome.Goals as goal

pub loop-init : goal.loop-init
loop-init c = ap₂ (λ xs n. each code xs ++ digits n c.args.number) c.new-left.ensures.items (sub-zero c.args.waiting)

pub loop-preserved : goal.loop-preserved
loop-preserved c =
    let w : ℕ = c.args.waiting in
    let k : ℕ = c.loop.counter in
    let left : w - k ≡ suc (w - (k + 1)) = omega arith in
    ap (λ xs. each code xs ++ digits (w - (k + 1)) (c.loop.rest / 3)) c.in_ok-push.ensures.items
    ∙ each_push c.loop.left.items c.from.result (digits (w - (k + 1)) (c.loop.rest / 3))
    ∙ ap (λ n. each code c.loop.left.items ++ n ∷ digits (w - (k + 1)) (c.loop.rest / 3)) c.from.ensures
    ∙ ap (λ xs. each code c.loop.left.items ++ xs) (sym (ap (λ n. digits n c.loop.rest) left ∙ digits_more (w - (k + 1)) c.loop.rest))
    ∙ c.loop.invariant

pub returns : goal.returns
returns c =
    let none : c.args.waiting - c.loop.counter ≡ 0 = omega arith in
    sym (ap (λ n. each code c.loop.left.items ++ digits n c.loop.rest) none ∙ ap (λ xs. each code c.loop.left.items ++ xs) (digits_none c.loop.rest) ∙ append-nil (each code c.loop.left.items))
    ∙ c.loop.invariant
