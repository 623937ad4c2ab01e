use Rattle.std.proofs.Common.{◌≡◌, ℕ, ◌+◌, ◌-◌, ◌%◌, min, List, ◌++◌, length, take, drop, sym, ap, ◌∙◌, arith, length-drop, take-append-drop}
use borrow.Rule.Slice.PartMut.{put_mid}
use Rattle.std.proofs.lemmas.List.{length-take-le, drop-drop}
use Rattle.pages.specs.Machine.{taken}
use Rattle.pages.specs.Words.{over}
use Rattle.pages.proofs.machine.take_words.Goals as goal

-- a part written over a row, whose length is the part's
over_part : (got k : ℕ) (m new : List ℕ) → length new ≡ k → put_mid got (got + k - got) m new ≡ over got new m
over_part got k m new l =
    let e : got + k - got ≡ k = omega arith in
    ap (λ n. take got m ++ (new ++ drop n (drop got m))) (e ∙ sym l) ∙ ap (λ xs. take got m ++ (new ++ xs)) (drop-drop (length new) got m)

-- nothing written over a row
over_none : (got k : ℕ) (m xs : List ℕ) → k ≡ 0 → m ≡ over got (take k xs) m
over_none got k m xs e =
    let z : got + 0 ≡ got = omega arith in
    sym (ap (λ n. over got (take n xs) m) e ∙ ap (λ n. take got m ++ drop n m) z ∙ take-append-drop got m)

pub returns-then-many-gt0 : goal.returns-then-many-gt0
returns-then-many-gt0 c =
    let from : ℕ = c.args.at % 64 in
    let ws : List ℕ = c.args.words.now in
    let k : ℕ = c.min-many.result in
    let many : k ≡ taken c.args.at c.args.left c.args.got =
    c.min-many.ensures ∙ ap (min (64 - from)) (c.min.ensures ∙ ap (min c.args.left) c.saturating_sub.ensures) in
    let e : from + k - from ≡ k = omega arith in
    let part : c.copy_from_slice.new.self ≡ take k (drop from ws) = c.copy_from_slice.ensures.after ∙ ap (λ n. take n (drop from ws)) e in
    let l : length (take k (drop from ws)) ≡ k = length-take-le k (drop from ws) (omega (arith, length-drop from ws, c.told-words)) in
    record {
      many = many;
      memory =
          over_part c.args.got k c.args.memory.now c.copy_from_slice.new.self (ap length part ∙ l)
          ∙ ap (λ xs. over c.args.got xs c.args.memory.now) (part ∙ ap (λ n. take n (drop from ws)) many);
    }

pub returns-else-many-gt0 : goal.returns-else-many-gt0
returns-else-many-gt0 c =
    let from : ℕ = c.args.at % 64 in
    let many : c.min-many.result ≡ taken c.args.at c.args.left c.args.got =
    c.min-many.ensures ∙ ap (min (64 - from)) (c.min.ensures ∙ ap (min c.args.left) c.saturating_sub.ensures) in
    let none : taken c.args.at c.args.left c.args.got ≡ 0 = omega (arith, c.if-many-gt0.false) in
    record {
      many = many;
      memory = over_none c.args.got (taken c.args.at c.args.left c.args.got) c.args.memory.now (drop from c.args.words.now) none;
    }
