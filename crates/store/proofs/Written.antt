-- A row with a part of it written over: its front, and what a write through a part of a slice leaves.
use Rattle.std.proofs.Common.{◌≡◌, ℕ, ◌+◌, ◌-◌, ◌≤◌, List, ◌++◌, length, take, drop, ap, append_assoc, arith, length-append, length-drop}
use borrow.Rule.Slice.PartMut.{put_mid}
use Rattle.std.proofs.lemmas.List.{drop-drop, take_at, length-take}
use Rattle.store.specs.Rows.{over}

module _ (row : List ℕ) (at : ℕ) (bs : List ℕ) where
  pub over_from_part : (ys : List ℕ) → ys ≡ bs → put_mid at (at + length bs - at) row ys ≡ over row at bs
  over_from_part ys e =
      let k : at + length bs - at ≡ length bs = omega arith in
      rw (k, e) (ap (λ r. take at row ++ (bs ++ r)) (drop-drop (length bs) at row))

  module _ (fits : at + length bs ≤ length row) where
    pub length_over : length (over row at bs) ≡ length row
    length_over = simp (length-append, length-take, length-drop) (omega arith)

    pub take_over : (n : ℕ) → n ≡ at + length bs → take n (over row at bs) ≡ take at row ++ bs
    take_over n e =
        let k : length (take at row ++ bs) ≡ n = simp (length-append, length-take) (omega arith) in
        rw (← append_assoc) (take_at (take at row ++ bs) (drop (at + length bs) row) n k)
