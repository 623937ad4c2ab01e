use Rattle.std.proofs.Common.{◌≡◌, ◌+◌, ◌++◌, false, eqb, length, set, sym, ap, ◌∙◌, arith}
use Rattle.std.proofs.lemmas.Bool.Decides.{nat_tests}
use Rattle.pages.specs.Lists.{zeros}
use Rattle.pages.specs.Words.{over, words}
use Rattle.objects.specs.Layouts.{words_for}
use Rattle.objects.proofs.LayoutLaws.{last_eight, put_all, put_more, put_none, whole_eight}
use Rattle.objects.proofs.layouts.put_bytes.Goals as goal

pub loop-i-init : goal.loop-i-init
loop-i-init c = put_none c.args.bytes.now c.args.memory.now c.args.at (omega arith)

pub loop-i-preserved : goal.loop-i-preserved
loop-i-preserved c =
    let bs = c.args.bytes.now in
    let i = c.loop-i.i in
    let s = c.as_chunks.ensures in
    ap (set c.loop-i.memory (c.args.at + i)) c.number.ensures
    ∙ put_more bs c.args.memory.now c.loop-i.memory _ c.args.at i (omega (arith, s.front_len)) (omega (arith, s.front_len)) c.loop-i.invariant
    (whole_eight bs c.as_chunks.result.0.now i s.front s.front_len (omega arith))

pub returns-then-not-is_empty : goal.returns-then-not-is_empty
returns-then-not-is_empty c =
    let bs = c.args.bytes.now in
    let m = c.args.memory.now in
    let s = c.as_chunks.ensures in
    let i = length c.as_chunks.result.0.now in
    let some : eqb (length c.as_chunks.result.1.now) 0 ≡ false = sym c.is_empty.ensures ∙ c.if-not-is_empty.true in
    let end : c.loop-i.i ≡ i = omega arith in
    let over_eights = c.loop-i.invariant ∙ ap (λ n. over c.args.at (words n (bs ++ zeros 7)) m) end in
    let all : i + 1 ≡ words_for (length bs) = grind (arith, nat_tests) in
    ap (set c.loop-i.memory (c.args.at + i)) c.number-then-not-is_empty.ensures
    ∙ put_more bs m c.loop-i.memory c.padded.result c.args.at i (omega (arith, s.front_len, all)) (omega (arith, all)) over_eights
    (last_eight bs c.as_chunks.result.1.now c.padded.result i s.back s.back_len s.front_len c.padded.ensures)
    ∙ ap (λ n. over c.args.at (words n (bs ++ zeros 7)) m) all ∙ put_all bs m c.args.at (omega arith)

pub returns-else-not-is_empty : goal.returns-else-not-is_empty
returns-else-not-is_empty c =
    let bs = c.args.bytes.now in
    let m = c.args.memory.now in
    let s = c.as_chunks.ensures in
    let none : length c.as_chunks.result.1.now ≡ 0 = grind (arith, nat_tests) in
    let all : c.loop-i.i ≡ words_for (length bs) = omega (arith, s.front_len, s.back_len, none) in
    c.loop-i.invariant ∙ ap (λ n. over c.args.at (words n (bs ++ zeros 7)) m) all ∙ put_all bs m c.args.at (omega arith)
