-- Blocks: one more, a list that is longer than its blocks, and a list cut after some of its blocks.
use Rattle.std.proofs.Common.{◌≡◌, ℕ, zero, suc, ◌+◌, ◌*◌, ◌≤◌, List, ◌++◌, length, take, drop, sym, refl, ap, ◌∙◌, add-zero, add-suc, mul-add, arith, length-drop}
use Rattle.std.specs.List.{fold}
use Rattle.std.specs.Simd.{first_chunks}
use Rattle.std.proofs.lemmas.List.{drop-drop, drop-append-le, take-append-le}
use Rattle.store.specs.declared.words.Words.{Words}
use Rattle.store.specs.Sha256.{compressed, hashed}

pub hashed_later : (n k : ℕ) (s : Words) (m : List ℕ) → hashed (n + k) s m ≡ hashed k (hashed n s m) (drop (64 * n) m)
unfolding hashed
hashed_later n zero s m = rw add-zero
hashed_later n (suc k) s m =
    rw (add-suc, hashed_later n k s m)
    (ap (λ b. compressed (hashed k (hashed n s m) (drop (64 * n) m)) (take 64 b))
    (rw mul-add (sym (drop-drop (64 * k) (64 * n) m))))

-- block after block
pub hashed_blocks : (n : ℕ) (s : Words) (m : List ℕ) → fold compressed s (first_chunks 64 n m) ≡ hashed n s m
unfolding hashed
hashed_blocks zero s m = refl
hashed_blocks (suc n) s m =
    hashed_blocks n (compressed s (take 64 m)) (drop 64 m) ∙ sym (hashed_later 1 n s m)
    ∙ (let e : 1 + n ≡ suc n = omega arith in ap (λ k. hashed k s m) e)

pub hashed_front : (n : ℕ) (s : Words) (xs ys : List ℕ) → 64 * n ≤ length xs → hashed n s (xs ++ ys) ≡ hashed n s xs
unfolding hashed
hashed_front zero s xs ys h = refl
hashed_front (suc n) s xs ys h =
    let within : 64 * n ≤ length xs = omega arith in
    let whole : 64 ≤ length (drop (64 * n) xs) = simp length-drop (omega arith) in
    rw (hashed_front n s xs ys within, drop-append-le, take-append-le)
