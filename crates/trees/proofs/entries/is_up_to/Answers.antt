use Rattle.std.proofs.Common.{◌≡◌, ◌≤◌, length, take, false, inl, inr, sym, ap, ap₂, ◌∙◌, arith}
use Rattle.std.specs.Iterator.Adapters.{zip_first, zip_second}
use Rattle.std.specs.Slice.Iter.{iter_rest}
use Rattle.trees.specs.Order.{halts}
use Rattle.trees.proofs.KeyLaws.{halts_before, halts_behind, halts_last, halts_on}
use Rattle.trees.proofs.entries.is_up_to.Goals as goal

pub loop-word-init : goal.loop-word-init
loop-word-init c =
    let first : iter_rest (zip_first c.into_iter-word-iterator.result) ≡ c.args.key.now =
    ap (λ z. iter_rest (zip_first z)) c.into_iter-word-iterator.ensures.into_iter_gives ∙ ap (λ i. i.rest.now) c.zip-word-items.ensures.first ∙ c.iter.ensures.rest in
    let second : iter_rest (zip_second c.into_iter-word-iterator.result) ≡ c.args.entry.now =
    ap (λ z. iter_rest (zip_second z)) c.into_iter-word-iterator.ensures.into_iter_gives ∙ c.zip-word-items.ensures.second.0 in (
      omega (arith, ap length first, ap length second, c.told-key, c.told-entry),
      ap₂ (λ xs ys. halts false xs (take (length xs) ys)) first second ∙ ap (λ n. halts false c.args.key.now (take n c.args.entry.now)) c.told-key,
    )

pub loop-word-preserved : goal.loop-word-preserved
loop-word-preserved c =
    let z = c.in-Some.ensures.steps in let v = c.loop-word.invariant in let t = c.next.new.self in (
      omega (arith, ap length z.0, ap length z.1, v.0),
      sym (halts_on c.in-Some.word.now c.in-Some.other.now (iter_rest (zip_first t)) (iter_rest (zip_second t)) (omega (arith, c.if-word-other.false, c.if-word-other-2.false)))
          ∙ ap₂ (λ xs ys. halts false xs (take (length xs) ys)) (sym z.0) (sym z.1) ∙ v.1,
    )

pub returns-then-word-other : goal.returns-then-word-other
returns-then-word-other c =
    let z = c.in-Some.ensures.steps in let t = c.next.new.self in
    halts_before c.in-Some.word.now c.in-Some.other.now (iter_rest (zip_first t)) (iter_rest (zip_second t)) c.if-word-other.true
    ∙ ap₂ (λ xs ys. halts false xs (take (length xs) ys)) (sym z.0) (sym z.1) ∙ c.loop-word.invariant.1

pub returns-then-word-other-2 : goal.returns-then-word-other-2
returns-then-word-other-2 c =
    let z = c.in-Some.ensures.steps in let t = c.next.new.self in
    halts_behind c.in-Some.word.now c.in-Some.other.now (iter_rest (zip_first t)) (iter_rest (zip_second t)) c.if-word-other-2.true
    ∙ ap₂ (λ xs ys. halts false xs (take (length xs) ys)) (sym z.0) (sym z.1) ∙ c.loop-word.invariant.1

pub returns : goal.returns
returns c =
    let s = c.loop-word.word-iterator in let v = c.loop-word.invariant in
    let none : length (iter_rest (zip_first s)) ≡ 0 = elim c.in-None.ensures.steps [ inl e ↦ e.1.0 | inr e ↦ omega (arith, e.1.0, v.0) ] in
    halts_last (iter_rest (zip_first s)) (iter_rest (zip_second s)) none ∙ v.1
