use Rattle.std.proofs.Common.{◌≡◌, ℕ, ◌/◌, ◌%◌, ◌^◌, get_or, ◌∙◌, arith, rules}
use Rattle.std.proofs.Math.Facts.{Fits-lt-pow}
use Rattle.store.specs.Bitmap.{bit}
use Rattle.store.proofs.SearchLaws.{highest_is, highest_in, highest_none, highest_some}
use Rattle.store.proofs.bitmap.highest_below.Goals as goal

pub returns-then-low-gt0 : goal.returns-then-low-gt0
returns-then-low-gt0 c =
    let u : ℕ = c.args.unit in
    highest_is (bit c.args.map.now) u _
    (highest_in c.args.map.now (u / 64) (u % 64) c.from.result c.low_bits-low.result u c.low_bits-low.ensures (omega arith)
    (search rules) (search rules) (omega arith) (λ v l r. absurd (omega arith)))

pub returns-in_err-at : goal.returns-in_err-at
returns-in_err-at c =
    let low : get_or c.args.map.now (c.args.unit / 64) 0 % 2 ^ (c.args.unit % 64) ≡ 0 = omega arith in
    c.from_residual.ensures ∙ highest_none c.args.map.now c.args.unit _ c.min.ensures low c.in_err-at.ensures

pub returns : goal.returns
returns c =
    let low : get_or c.args.map.now (c.args.unit / 64) 0 % 2 ^ (c.args.unit % 64) ≡ 0 = omega arith in
    highest_some c.args.map.now c.args.unit _ c.min.ensures low c.in_ok-at.at c.from-2.result c.in_ok-at.ensures (Fits-lt-pow (c.type_inv.map c.in_ok-at.at)) (search rules) (search rules)
