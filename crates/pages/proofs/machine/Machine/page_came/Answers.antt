use Rattle.std.proofs.Common.{◌≡◌, ℕ, ◌+◌, ◌%◌, min, max, List, ◌++◌, length, get_or, take, drop, sym, ap, ◌∙◌, subst, ap₂, arith}
use Rattle.std.proofs.lemmas.List.{length-take-le}
use Rattle.pages.specs.Words.{over, page_words}
use Rattle.pages.specs.Machine.{Moved, Moves, begun, go_on, looked, page_came, wanted}
use Rattle.pages.proofs.WordLaws.{length_page_words}
use Rattle.pages.proofs.machine.Machine.page_came.Goals as goal

pub returns-in-Recalling : goal.returns-in-Recalling
returns-in-Recalling g c =
    let ws : List ℕ = page_words c.args.page.now in
    let m : List ℕ = c.args.memory.now in
    let p = g.C.Client.housed.program in
    let new : c.copy_from_slice.new.self ≡ take 32 ws = c.copy_from_slice.ensures.after ∙ ap (take 32) c.page_words-words.ensures in
    let l : 0 + length (take 32 ws) ≡ 32 = omega (arith, length-take-le 32 ws (omega (arith, length_page_words c.args.page.now))) in
    let e : c.copy_from_slice.new.self ++ drop 32 m ≡ over 0 (take 32 ws) m = ap₂ (λ xs n. xs ++ drop n m) new (sym l) in
    subst (λ v. Moves v c.ask.new.self c.ask.new.client c.ask.new.memory c.ask.result c.args.out.now c.ask.new.out)
    (ap (λ xs. begun c.args.self.now.ring (g.C.Client.housed.program.resumes c.args.client.now xs)) e
    ∙ sym (ap (λ s. page_came p c.args.self.now.ring c.args.client.now m ws s) c.in-Recalling.is))
    c.ask.ensures

pub returns-in-Opening : goal.returns-in-Opening
returns-in-Opening g c =
    let ws : List ℕ = page_words c.args.page.now in
    let m : List ℕ = c.args.memory.now in
    let at : ℕ = c.in-Opening.at in
    let p = g.C.Client.housed.program in
    let v : List ℕ → ℕ → Moved g.row.C.Denot = λ xs n. go_on p c.args.self.now.ring c.args.client.now (looked at n 0 xs m) in
    let w : c.max-wanted.result ≡ wanted c.in-Opening.limit (get_or ws (at % 64) 0) =
    c.max-wanted.ensures
    ∙ ap (λ x. max x 1) (c.min-in-Opening.ensures ∙ ap (λ x. min x 41088) (c.min.ensures ∙ ap (λ xs. min (get_or xs (at % 64) 0 % 4294967296) c.in-Opening.limit) c.page_words-words.ensures)) in
    let last = c.look_on-in-Opening.new in
    subst (λ x. Moves x last.self last.client last.memory c.look_on-in-Opening.result c.args.out.now last.out)
    (ap₂ v c.page_words-words.ensures w ∙ sym (ap (λ s. page_came p c.args.self.now.ring c.args.client.now m ws s) c.in-Opening.is))
    c.look_on-in-Opening.ensures
