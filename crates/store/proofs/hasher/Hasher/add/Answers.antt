use Rattle.std.proofs.Common.{◌≡◌, ℕ, ◌+◌, ◌%◌, ◌^◌, length, ap, ◌∙◌, arith}
use Rattle.store.specs.declared.hasher.Hasher.{Hasher}
use Rattle.store.specs.Running.{progress, added}
use Rattle.store.proofs.Adding.{added_added, add_few, add_whole}
use Rattle.store.proofs.hasher.Hasher.add.Goals as goal
use Rattle.store.proofs.hasher.Hasher.add.Goals.{then-bytes-room, else-bytes-room}

abbrev counts : Hasher → ℕ → Hasher
counts h n = record { state = h.state; buffer = h.buffer; count = (h.count + n) % 2 ^ 64 }

pub returns : goal.returns
returns c =
    let size = length c.args.bytes.now in
    let whole : length c.args.self.now.buffer ≡ 64 = omega arith in
    let after : progress (counts c.if-bytes-room.self size) ≡ added (progress c.args.self.now) c.args.bytes.now
    = elim c.if-bytes-room.branch [
      | then-bytes-room w ↦ ap (λ h. progress (counts h size)) w.self-is
          ∙ add_few _ _ _ _ whole _ w.if-bytes-room.true w.write_at.ensures
      | else-bytes-room w ↦ ap (λ h. progress (counts h size)) w.self-is
          ∙ add_whole _ _ _ _ whole w.if-bytes-room.false _ _ _ _ _ _ _ _ w.split_at.ensures.front w.split_at.ensures.back w.write_at-else-bytes-room.ensures w.compress.ensures
          w.as_chunks.ensures.front w.compress_all-self.ensures w.as_chunks.ensures.back w.write_at-else-bytes-room-2.ensures
    ] in
    record { after = after; fed = λ m f. after ∙ ap (λ p. added p c.args.bytes.now) f ∙ added_added _ m _ }
