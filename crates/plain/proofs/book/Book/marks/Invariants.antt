use Rattle.std.proofs.Common.{◌≡◌, ◌≤◌}
use Rattle.std.specs.Bool.{IsFalse}
use Rattle.std.specs.List.{All}
use Rattle.std.specs.Vec.{vec_len}
use Rattle.plain.proofs.book.Book.marks.Given as goal

abbrev pub invariant-loop-k : goal.invariant-loop-k
invariant-loop-k l = record {
  len : vec_len l.marks ≡ vec_len l.self.commits;
  past : All (λ k. vec_len l.self.commits ≤ k) l.starts → All IsFalse l.marks.items;
}
