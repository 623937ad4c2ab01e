use Rattle.std.proofs.Common.{◌≡◌, ℕ, ◌/◌, List, length, refl, ap, ◌∙◌, arith}
use Rattle.std.specs.List.{fold}
use Rattle.store.specs.Sha256.{compressed, hashed, digest}
use Rattle.store.specs.Running.{progress, finished}
use Rattle.store.proofs.Hashing.{hashed_blocks}
use Rattle.store.proofs.Padding.{last_is, finished_added}
use Rattle.store.proofs.hasher.Hasher.finish.Goals as goal

pub returns : goal.returns
unfolding finished
returns c =
    let whole : length c.args.self.buffer ≡ 64 = omega arith in
    let last = last_is c.args.self.buffer c.args.self.count 128 whole refl _ _ _ _ c.write_at.ensures refl c.to_be_bytes.ensures c.write_at-2.ensures in
    let after : c.digest.result ≡ finished (progress c.args.self)
    = c.digest.ensures ∙ ap digest (c.compress_all.ensures ∙ ap (fold compressed c.args.self.state) c.as_chunks.ensures.front ∙ hashed_blocks _ _ _ ∙ ap (λ (b : List ℕ). hashed (length b / 64) c.args.self.state b) last) in
    record { after = after; fed = λ m f. after ∙ ap finished f ∙ finished_added m }
