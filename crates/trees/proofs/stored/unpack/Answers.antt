use Rattle.std.proofs.Common.{◌≡◌, ℕ, ◌<◌, List, length, get_or, drop, ◌∙◌, arith, rules}
use Rattle.std.proofs.lemmas.List.{same_lists, get_or_default}
use Rattle.trees.specs.Row.{in_words}
use Rattle.trees.specs.Packed.{unpacked}
use Rattle.trees.proofs.SpreadLaws.{length_words}
use Rattle.trees.proofs.stored.unpack.Goals as goal

pub returns : goal.returns
returns c =
    let ws : List ℕ = in_words (unpacked c.args.reference (drop c.args.at c.args.stored.now)) in
    let ten : length c.from_fn.result ≡ length ws = omega (arith, c.from_fn.ensures.items.long, length_words c.args.reference (drop c.args.at c.args.stored.now)) in
    let at : (i : ℕ) → i < 10 → get_or c.from_fn.result i 0 ≡ get_or ws i 0 = λ i h. let p = c.from_fn.ensures.items.at i 0 h in search rules in
    same_lists _ ws ten
    (λ i d h. get_or_default c.from_fn.result i d 0 h ∙ at i (omega (arith, c.from_fn.ensures.items.long)) ∙ get_or_default ws i 0 d (omega (arith, ten)))
