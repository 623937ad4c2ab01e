use Rattle.std.proofs.Common.{◌≡◌, ℕ, ◌<◌, [], get_or, ◌∙◌, rules}
use Rattle.pages.specs.Bytes.{in_bytes}
use Rattle.store.proofs.Digests.{digest_is, four_is}
use Rattle.store.proofs.hasher.digest.Goals as goal

pub returns : goal.returns
returns c =
    let at : (i : ℕ) → i < 8 → get_or c.map-words.result i [] ≡ in_bytes 4 (get_or c.words.result i 0) [] =
    λ i h. let (p, q, k) = c.map-words.ensures.items.at i 0 [] h in search rules ∙ four_is (get_or c.words.result i 0) in
    c.copy_from_slice.ensures.after ∙ c.as_flattened.ensures.value ∙ digest_is c.args.s c.words.result c.map-words.result c.words.ensures c.map-words.ensures.items.long at
