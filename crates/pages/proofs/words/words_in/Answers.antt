use Rattle.std.proofs.Common.{ℕ, ◌*◌, take, drop, ◌∙◌, rules}
use Rattle.pages.specs.Bytes.{from_bytes}
use Rattle.pages.proofs.MadeLaws.{from_fn_by, words_each}
use Rattle.pages.proofs.words.words_in.Goals as goal

pub returns : goal.returns
returns g c =
    from_fn_by _ (λ (i : ℕ). from_bytes 0 (take 8 (drop (8 * i) c.args.bytes.now))) _ (λ i y q k. search rules) _ _ c.from_fn.ensures.items
    ∙ words_each g.row.N c.args.bytes.now
