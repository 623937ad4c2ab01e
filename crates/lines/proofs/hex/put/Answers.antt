use Rattle.std.proofs.Common.{◌∷◌, [], ◌++◌, string_bytes, ap, ◌∙◌, arith, rules}
use Rattle.lines.specs.Hex.{Begun}
use Rattle.lines.proofs.HexLaws.{begun, begun_half, digits_more}
use Rattle.lines.proofs.hex.put.Goals as goal

pub loop-byte-preserved : goal.loop-byte-preserved
loop-byte-preserved c =
    let first = c.in_ok-push.ensures.ascii c.digit_of.ensures.ascii ∙ ap (λ d. d ∷ []) c.digit_of.ensures.is in
    let second = c.in_ok-push-2.ensures.ascii c.digit_of-in-loop-byte.ensures.ascii ∙ ap (λ d. d ∷ []) c.digit_of-in-loop-byte.ensures.is in
    digits_more c.args.bytes.now _ _ _ _ _ (omega arith) c.loop-byte.invariant
    (c.in_ok-push.ensures.bytes ∙ ap (λ r. string_bytes c.loop-byte.text ++ r) first) (c.in_ok-push-2.ensures.bytes ∙ ap (λ r. string_bytes c.push.new.self ++ r) second)

pub returns-in_err-push-clause-err : goal.returns-in_err-push-clause-err
returns-in_err-push-clause-err c =
    let b : Begun (string_bytes c.args.text.now) c.args.bytes.now (string_bytes c.push.new.self) =
    begun c.args.bytes.now c.loop-byte.byte-index _ _ (omega arith) (c.in_err-push.ensures.bytes ∙ c.loop-byte.invariant) in
    search rules

pub returns-in_err-push-2-clause-err : goal.returns-in_err-push-2-clause-err
returns-in_err-push-2-clause-err c =
    let first = c.in_ok-push.ensures.ascii c.digit_of.ensures.ascii ∙ ap (λ d. d ∷ []) c.digit_of.ensures.is in
    let b : Begun (string_bytes c.args.text.now) c.args.bytes.now (string_bytes c.push-in-loop-byte.new.self) =
    begun_half c.args.bytes.now c.loop-byte.byte-index _ _ _ (omega arith) c.loop-byte.invariant
    (c.in_err-push-2.ensures.bytes ∙ c.in_ok-push.ensures.bytes ∙ ap (λ r. string_bytes c.loop-byte.text ++ r) first) in
    search rules
