-- Bytes that come in pieces: the sum does not see where they were cut, and what the code's two ways to add a piece come to.
use Rattle.std.proofs.Common.{◌≡◌, ℕ, ◌+◌, ◌-◌, ◌*◌, ◌/◌, ◌%◌, ◌^◌, ◌<◌, ◌≤◌, List, [], ◌++◌, length, take, drop, sym, refl, ap, ◌∙◌, ap₂, append_assoc, append-nil, mul-add, arith, length-append, length-drop, length-take}
use Rattle.std.proofs.lemmas.List.{drop-drop, drop-append-le, take-append-drop, take_all, drop_all}
use Rattle.std.specs.List.{fold}
use Rattle.std.specs.Simd.{first_chunks}
use Rattle.store.specs.declared.words.Words.{Words}
use Rattle.store.specs.declared.hasher.Hasher.{Hasher}
use Rattle.store.specs.Sha256.{compressed, hashed}
use Rattle.store.specs.Rows.{over}
use Rattle.store.specs.Running.{Progress, fresh, progress, added}
use Rattle.store.proofs.Hashing.{hashed_blocks, hashed_later, hashed_front}
use Rattle.store.proofs.Written.{take_over}

same_progress : {s t : Words} {v w : List ℕ} {m n : ℕ} → s ≡ t → v ≡ w → m ≡ n
    → ◌≡◌ {A = Progress} (record { state = s; waiting = v; count = m }) (record { state = t; waiting = w; count = n })
same_progress e f g = λ i. record { state = e i; waiting = f i; count = g i }

counted : (a b c n : ℕ) → b + c ≡ n → (a + n) % 2 ^ 64 ≡ ((a + b) % 2 ^ 64 + c) % 2 ^ 64
counted a b c n e = omega arith

-- as many whole blocks as there are, and then the rest with more behind it
module _ (s : Words) (all ys : List ℕ) where
  abbrev rest : List ℕ
  rest = drop (64 * (length all / 64)) all

  split : (length (all ++ ys)) / 64 ≡ length all / 64 + length (rest ++ ys) / 64
  split = simp (length-append, length-drop) (omega arith)

  rest_more : drop (64 * (length all / 64)) (all ++ ys) ≡ rest ++ ys
  rest_more = drop-append-le (64 * (length all / 64)) all ys (omega arith)

  pub hashed_cut : hashed (length (rest ++ ys) / 64) (hashed (length all / 64) s all) (rest ++ ys)
      ≡ hashed (length (all ++ ys) / 64) s (all ++ ys)
  hashed_cut =
      sym (ap (λ n. hashed n s (all ++ ys)) split
      ∙ hashed_later (length all / 64) (length (rest ++ ys) / 64) s (all ++ ys)
      ∙ ap (λ v. hashed (length (rest ++ ys) / 64) v (drop (64 * (length all / 64)) (all ++ ys))) (hashed_front (length all / 64) s all ys (omega arith))
      ∙ ap (hashed (length (rest ++ ys) / 64) (hashed (length all / 64) s all)) rest_more)

  rest_cut : drop (64 * (length (rest ++ ys) / 64)) (rest ++ ys) ≡ drop (64 * (length (all ++ ys) / 64)) (all ++ ys)
  rest_cut =
      ap (drop (64 * (length (rest ++ ys) / 64))) (sym rest_more)
      ∙ drop-drop (64 * (length (rest ++ ys) / 64)) (64 * (length all / 64)) (all ++ ys)
      ∙ ap (λ n. drop n (all ++ ys)) (sym (mul-add 64 (length all / 64) (length (rest ++ ys) / 64)) ∙ ap (λ n. 64 * n) (sym split))

pub added_added : (p : Progress) (xs ys : List ℕ) → added (added p xs) ys ≡ added p (xs ++ ys)
unfolding added
added_added p xs ys =
    rw (← append_assoc)
    (same_progress (hashed_cut p.state (p.waiting ++ xs) ys) (rest_cut p.state (p.waiting ++ xs) ys)
    (rw length-append (omega arith)))

pub added_none : fresh ≡ added fresh []
unfolding added hashed
added_none = refl

-- the code's two ways
module _ (s : Words) (buffer bytes : List ℕ) (count : ℕ) (whole : length buffer ≡ 64) where
  abbrev was : Hasher
  was = record { state = s; buffer = buffer; count = count }

  abbrev after : Words → List ℕ → Hasher
  after v row = record { state = v; buffer = row; count = (count + length bytes) % 2 ^ 64 }

  waits : length (take (count % 64) buffer) ≡ count % 64
  waits = simp length-take (omega arith)

  -- no block becomes whole
  pub add_few : (row : List ℕ) → length bytes < 64 - count % 64 → row ≡ over buffer (count % 64) bytes
      → progress (after s row) ≡ added (progress was) bytes
  unfolding added hashed
  add_few row few e =
      let size : length (take (count % 64) buffer ++ bytes) ≡ count % 64 + length bytes = simp length-append (omega (arith, waits)) in
      let none : length (take (count % 64) buffer ++ bytes) / 64 ≡ 0 = omega arith in
      let place : (count + length bytes) % 2 ^ 64 % 64 ≡ count % 64 + length bytes = omega arith in
      rw none (same_progress refl (ap (take ((count + length bytes) % 2 ^ 64 % 64)) e ∙ take_over buffer (count % 64) bytes (omega arith) _ place) refl)

  -- the block becomes whole, and then as many as there are
  module _ (enough : 64 - count % 64 ≤ length bytes) where
    abbrev part : List ℕ
    part = take (64 - count % 64) bytes

    abbrev left : List ℕ
    left = drop (64 - count % 64) bytes

    abbrev first : List ℕ
    first = take (count % 64) buffer ++ part

    length_part : length part ≡ 64 - count % 64
    length_part = simp length-take (omega arith)

    length_left : length left ≡ length bytes - (64 - count % 64)
    length_left = length-drop (64 - count % 64) bytes

    length_first : length first ≡ 64
    length_first = simp length-append (omega (arith, waits, length_part))

    filled : over buffer (count % 64) part ≡ first
    filled =
        let past : drop (count % 64 + length part) buffer ≡ [] = drop_all _ buffer (omega (arith, length_part)) in
        rw (past, append-nil)

    add_block : added (progress was) part ≡ record { state = compressed s first; waiting = []; count = (count + length part) % 2 ^ 64 }
    unfolding added hashed
    add_block =
        let one : length first / 64 ≡ 1 = rw length_first in
        rw one (same_progress (ap (compressed s) (take_all 64 first (omega (arith, length_first)))) (drop_all 64 first (omega (arith, length_first))) refl)

    add_more : (v : Words) (mid row tail : List ℕ) → mid ≡ over buffer (count % 64) part
        → v ≡ hashed (length left / 64) (compressed s mid) left → tail ≡ drop (64 * (length left / 64)) left → row ≡ over mid 0 tail
        → progress (after v row) ≡ added (progress was) bytes
    unfolding added
    add_more v mid row tail m e t r =
        let full : mid ≡ first = m ∙ filled in
        let size : length tail ≡ length left - 64 * (length left / 64) = ap length t ∙ length-drop (64 * (length left / 64)) left in
        let room : length mid ≡ 64 = ap length full ∙ length_first in
        let place : (count + length bytes) % 2 ^ 64 % 64 ≡ 0 + length tail = omega (arith, length_left) in
        let kept : take ((count + length bytes) % 2 ^ 64 % 64) row ≡ drop (64 * (length left / 64)) left
        = ap (take ((count + length bytes) % 2 ^ 64 % 64)) r ∙ take_over mid 0 tail (omega (arith, length_left)) _ place ∙ t in
        let here : progress (after v row) ≡ added (record { state = compressed s first; waiting = []; count = (count + length part) % 2 ^ 64 }) left
        = same_progress (e ∙ ap (λ b. hashed (length left / 64) (compressed s b) left) full) kept (counted count (length part) (length left) (length bytes) (omega (arith, length_part, length_left))) in
        here ∙ ap (λ p. added p left) (sym add_block) ∙ added_added (progress was) part left ∙ ap (added (progress was)) (take-append-drop (64 - count % 64) bytes)

    -- with the parts as the code cuts them
    pub add_whole : (u v : Words) (filling rest tail mid row : List ℕ) (blocks : List (List ℕ)) → filling ≡ part → rest ≡ left → mid ≡ over buffer (count % 64) filling
        → u ≡ compressed s mid → blocks ≡ first_chunks 64 (length rest / 64) rest → v ≡ fold compressed u blocks
        → tail ≡ drop (length rest / 64 * 64) rest → row ≡ over mid 0 tail → progress (after v row) ≡ added (progress was) bytes
    add_whole u v filling rest tail mid row blocks p q m f b e t r =
        let done : length left / 64 * 64 ≡ 64 * (length left / 64) = omega arith in
        let hash : v ≡ hashed (length left / 64) (compressed s mid) left
        = e ∙ ap₂ (fold compressed) f (b ∙ ap (λ xs. first_chunks 64 (length xs / 64) xs) q) ∙ hashed_blocks (length left / 64) (compressed s mid) left in
        let cut : tail ≡ drop (64 * (length left / 64)) left = t ∙ ap (λ xs. drop (length xs / 64 * 64) xs) q ∙ ap (λ n. drop n left) done in
        add_more v mid row tail (m ∙ ap (over buffer (count % 64)) p) hash cut r
