use Rattle.std.proofs.Common.{◌≡◌, ◌+◌, ◌-◌, ◌/◌, ◌%◌, ◌^◌, get_or, ◌∙◌, arith}
use Rattle.std.proofs.Math.Facts.{Fits-lt-pow}
use Rattle.std.proofs.lemmas.List.{take_rest}
use Rattle.std.specs.Int.RustNames.{bit_and}
use Rattle.store.proofs.SearchLaws.{lowest_high, lowest_none, lowest_some}
use Rattle.store.proofs.bitmap.lowest_from.Goals as goal

pub returns-then-high-gt0 : goal.returns-then-high-gt0
returns-then-high-gt0 c =
    c.lowest_in.ensures ∙ lowest_high c.args.map.now c.args.unit c.high_bits-high.result c.high_bits-high.ensures (omega arith) (omega arith)

pub returns-in_err-at : goal.returns-in_err-at
returns-in_err-at c =
    let high : bit_and (get_or c.args.map.now (c.args.unit / 64) 0) (2 ^ 64 - 2 ^ (c.args.unit % 64)) ≡ 0 = omega arith in
    c.from_residual.ensures ∙ lowest_none c.args.map.now c.args.unit _ _ c.min.ensures (take_rest c.args.map.now c.min.result) high c.in_err-at.ensures

pub returns : goal.returns
returns c =
    let high : bit_and (get_or c.args.map.now (c.args.unit / 64) 0) (2 ^ 64 - 2 ^ (c.args.unit % 64)) ≡ 0 = omega arith in
    c.lowest_in-2.ensures ∙ lowest_some c.args.map.now c.args.unit _ _ c.min.ensures (take_rest c.args.map.now c.min.result) high c.in_ok-at.at c.in_ok-at.ensures
    (Fits-lt-pow (c.type_inv.map (c.min.result + c.in_ok-at.at)))
