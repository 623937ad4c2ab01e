use Rattle.std.proofs.Common.{◌≡◌, ℕ, ◌+◌, ◌-◌, ◌*◌, ◌/◌, ◌%◌, ◌<◌, ◌≤◌, List, ◌++◌, length, get_or, take, drop, sym, ap, ◌∙◌, ap₂, arith}
use native.Mathlib.Nat.{sub-zero}
use borrow.Rule.Slice.PartMut.{put_mid}
use Rattle.std.proofs.lemmas.List.{length-take-le}
use Rattle.pages.specs.Bytes.{eight}
use Rattle.pages.specs.Words.{bytes_of}
use Rattle.pages.proofs.WordLaws.{put_behind, bytes_front, bytes_whole, length_bytes_of}
use Rattle.pages.proofs.words.put_bytes.Goals as goal

-- the whole words, as they were put
front : (ws was mid : List ℕ) (q : ℕ) → q ≤ length ws → mid ≡ bytes_of (take (q - 0) ws) ++ drop (8 * length (take (q - 0) ws)) was →
    mid ≡ bytes_of (take q ws) ++ drop (8 * q) was
front ws was mid q h e =
    e ∙ ap (λ n. bytes_of (take n ws) ++ drop (8 * length (take n ws)) was) (sub-zero q) ∙ ap (λ n. bytes_of (take q ws) ++ drop (8 * n) was) (length-take-le q ws h)

part : (ws was mid new : List ℕ) (q r : ℕ) → q < length ws → r ≤ 8 → mid ≡ bytes_of (take q ws) ++ drop (8 * q) was → new ≡ take r (eight (get_or ws q 0)) →
    put_mid (8 * q) r mid new ≡ take (8 * q + r) (bytes_of ws) ++ drop (8 * q + r) was
part ws was mid new q r h b e n =
    ap₂ (λ xs ys. put_mid (8 * q) r xs ys) e n
    ∙ put_behind (8 * q) r (bytes_of (take q ws)) was (take r (eight (get_or ws q 0))) (length_bytes_of (take q ws) ∙ ap (λ k. 8 * k) (length-take-le q ws (omega arith)))
    ∙ ap (λ xs. xs ++ drop (8 * q + r) was) (sym (bytes_front ws q r h b))

pub returns-then-whole-bytes : goal.returns-then-whole-bytes
returns-then-whole-bytes c =
    let b : ℕ = c.args.bytes in
    let ws : List ℕ = c.args.words.now in
    let q : b / 8 < length ws = omega arith in
    let e : b / 8 * 8 ≡ 8 * (b / 8) = omega arith in
    let r : b - b / 8 * 8 ≡ b % 8 = omega arith in
    let s : 8 * (b / 8) + b % 8 ≡ b = omega arith in
    ap₂ (λ n k. put_mid n k c.put_words.new.out c.copy_from_slice.new.self) e r
    ∙ part ws c.args.out.now c.put_words.new.out c.copy_from_slice.new.self (b / 8) (b % 8) q (omega arith)
    (front ws c.args.out.now c.put_words.new.out (b / 8) (omega arith) c.put_words.ensures)
    (c.copy_from_slice.ensures.after ∙ ap₂ (λ n xs. take n xs) (sub-zero (b % 8)) c.in_eight.ensures)
    ∙ ap (λ n. take n (bytes_of ws) ++ drop n c.args.out.now) s

pub returns-else-whole-bytes : goal.returns-else-whole-bytes
returns-else-whole-bytes c =
    let b : ℕ = c.args.bytes in
    let ws : List ℕ = c.args.words.now in
    let s : 8 * (b / 8) ≡ b = omega arith in
    front ws c.args.out.now c.put_words.new.out (b / 8) (omega arith) c.put_words.ensures
    ∙ ap (λ xs. xs ++ drop (8 * (b / 8)) c.args.out.now) (sym (bytes_whole ws (b / 8) (omega arith)))
    ∙ ap (λ n. take n (bytes_of ws) ++ drop n c.args.out.now) s
