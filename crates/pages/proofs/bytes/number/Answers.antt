use Rattle.std.proofs.Common.{◌≡◌, ◌+◌, ◌-◌, ◌<◌, ◌≤◌, ◌∷◌, get_or, take, drop, sym, ap, ◌∙◌, pow-suc, add-one, arith, length-take}
use native.Mathlib.Nat.{pow-le-pow_right}
use Rattle.std.proofs.lemmas.List.{drop_more, drop_all, get_or-take, take_min}
use Rattle.pages.specs.Bytes.{from_bytes}
use Rattle.pages.proofs.bytes.number.Goals as goal

pub overflow_mul-n : goal.overflow_mul-n
overflow_mul-n c =
    let h = simp length-take at c.loop-byte-test.true in
    let i : c.loop-byte.byte-index ≤ 7 = omega (arith, h) in
    let z : 0 < 256 = omega arith in
    omega (arith, pow-le-pow_right {n = 256} z {i = c.loop-byte.byte-index} {j = 7} i)

pub overflow_add-n : goal.overflow_add-n
overflow_add-n c =
    let h = simp length-take at c.loop-byte-test.true in
    let i : c.loop-byte.byte-index ≤ 7 = omega (arith, h) in
    let z : 0 < 256 = omega arith in
    let e : get_or (take (c.min.result - 0) c.args.bytes.now) c.loop-byte.byte-index 0 ≡ get_or c.args.bytes.now c.loop-byte.byte-index 0 =
    get_or-take (c.min.result - 0) c.args.bytes.now c.loop-byte.byte-index 0 (omega (arith, h)) in
    omega (arith, e, c.type_inv.bytes c.loop-byte.byte-index, pow-le-pow_right {n = 256} z {i = c.loop-byte.byte-index} {j = 7} i)

pub loop-byte-preserved : goal.loop-byte-preserved
unfolding from_bytes
loop-byte-preserved c =
    let front = take (c.min.result - 0) c.args.bytes.now in
    let i = c.loop-byte.byte-index in (
      sym (ap (from_bytes c.loop-byte.n) (drop_more front i 0 c.loop-byte-test.true ∙ ap (λ b. b ∷ drop (i + 1) front) (sym c.from.ensures))) ∙ c.loop-byte.invariant.0,
      rw add-one (omega (arith, pow-suc 256 i, c.type_inv.bytes i)),
    )

pub returns : goal.returns
unfolding from_bytes
returns c =
    let front = take (c.min.result - 0) c.args.bytes.now in
    let here : front ≡ take 8 c.args.bytes.now = ap (λ n. take n c.args.bytes.now) (omega arith) ∙ take_min 8 c.args.bytes.now in
    sym (ap (from_bytes c.loop-byte.n) (drop_all c.loop-byte.byte-index front c.loop-byte-test.false)) ∙ c.loop-byte.invariant.0 ∙ ap (from_bytes 0) here
