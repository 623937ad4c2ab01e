use Rattle.std.proofs.Common.{◌≡◌, ◌+◌, ◌*◌, ◌/◌, length, drop, vec_items, sym, ap, ◌∙◌, arith}
use Rattle.lines.specs.Hex.{bytes_read}
use Rattle.lines.proofs.HexLaws.{behind, next_pair, read_all, read_more, read_none}
use Rattle.lines.proofs.hex.bytes_of.Goals as goal

pub returns-in_default : goal.returns-in_default
returns-in_default c =
    read_none c.args.text.now (drop (2 * c.loop-high.high-index) c.args.text.now) (drop (2 * (c.loop-high.high-index + 1)) c.args.text.now) _ _ _ c.loop-high.invariant
    (next_pair c.args.text.now c.as_chunks.result.0.now c.loop-high.high-index c.as_chunks.ensures.front (omega arith) c.as_chunks.ensures.front_len) c.in_default.ensures

pub loop-high-preserved : goal.loop-high-preserved
loop-high-preserved c =
    read_more c.args.text.now (drop (2 * c.loop-high.high-index) c.args.text.now) (drop (2 * (c.loop-high.high-index + 1)) c.args.text.now) _ _ _ _ _ c.loop-high.invariant
    (next_pair c.args.text.now c.as_chunks.result.0.now c.loop-high.high-index c.as_chunks.ensures.front (omega arith) c.as_chunks.ensures.front_len) c.in-Some.ensures c.in_ok-push.ensures.items

pub returns : goal.returns
returns c =
    let text = c.args.text.now in
    let end : 2 * c.loop-high.high-index ≡ length text / 2 * 2 = omega (arith, c.as_chunks.ensures.front_len) in
    let rest : drop (2 * c.loop-high.high-index) text ≡ c.as_chunks.result.1.now = ap (λ n. drop n text) end ∙ sym c.as_chunks.ensures.back in
    rw (c.then_some.ensures, c.is_empty.ensures)
    (read_all text c.as_chunks.result.1.now c.loop-high.bytes (omega (arith, c.as_chunks.ensures.back_len)) (c.loop-high.invariant ∙ ap (λ t. behind (vec_items c.loop-high.bytes) (bytes_read t)) rest))
