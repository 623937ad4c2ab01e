use Rattle.std.proofs.Common.{◌≡◌, ◌+◌, ◌-◌, ◌*◌, get_or, drop, sym, refl, ap, ◌∙◌, add-zero, arith}
use native.Mathlib.Nat.{sub-zero}
use Rattle.std.proofs.lemmas.List.{get_or-drop}
use Rattle.trees.specs.Row.{cut}
use Rattle.trees.specs.Packed.{needed, unpacked_all}
use Rattle.trees.proofs.SpreadLaws.{spread_more, spread_all, length_unpacked_all}
use Rattle.trees.proofs.stored.unpack_all.Goals as goal

pub loop-i-init : goal.loop-i-init
unfolding cut
loop-i-init c =
    let xs = c.args.stored.now in
    (omega arith, ap (λ m. unpacked_all m (drop 2 xs) (drop (3 + c.args.n) xs)) (sub-zero c.args.n), refl)

pub loop-i-preserved : goal.loop-i-preserved
loop-i-preserved c =
    let i = c.loop-i.i in let xs = c.args.stored.now in let at = c.loop-i.at in let n = c.args.n in
    let w : 10 * i + 10 - 10 * i ≡ 10 = omega arith in
    let k : c.path_words.result ≡ needed (get_or (drop at xs) 0 0) =
    c.path_words.ensures ∙ ap needed (c.word-in-loop-i.ensures ∙ sym (get_or-drop at xs 0 0 ∙ ap (λ m. get_or xs m 0) (add-zero at))) in
    let e = spread_more i n at (at + (1 + c.path_words.result)) (10 * i + 10 - 10 * i) c.word.result (drop 2 xs) xs c.loop-i.body c.args.body.now c.copy_from_slice.new.self
    (unpacked_all n (drop 2 xs) (drop (3 + n) xs)) (omega arith) (omega arith) w (c.word.ensures ∙ sym (get_or-drop 2 xs i 0))
    (c.copy_from_slice.ensures.after ∙ c.unpack.ensures) (ap (λ m. at + (1 + m)) k) c.loop-i.invariant.1 c.loop-i.invariant.2 in
    (omega (arith, c.loop-i.invariant.0, c.path_words.ensures), e.0, e.1)

pub returns : goal.returns
returns c =
    let xs = c.args.stored.now in let n = c.args.n in
    spread_all c.loop-i.i n c.loop-i.at (drop 2 xs) xs c.loop-i.body c.args.body.now (unpacked_all n (drop 2 xs) (drop (3 + n) xs)) (omega arith) (omega arith)
    (length_unpacked_all n (drop 2 xs) (drop (3 + n) xs)) c.loop-i.invariant.1 c.loop-i.invariant.2
