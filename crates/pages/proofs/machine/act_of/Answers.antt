use Rattle.std.proofs.Common.{◌≡◌, ℕ, min, List, ◌++◌, length, take, drop, sym, ap, ◌∙◌, subst, ap₂, arith, length-take}
use Rattle.std.proofs.lemmas.List.{length-take-le}
use Rattle.pages.specs.Words.{bytes_of}
use Rattle.pages.specs.Told.{ActTold}
use Rattle.pages.specs.Machine.{first_act}
use Rattle.pages.specs.declared.machine.Request.{Request}
use Rattle.pages.specs.declared.told.Told.TheVariants.{Write, Shows}
use Rattle.pages.proofs.WordLaws.{length_bytes_of}
use Rattle.pages.proofs.machine.act_of.Goals as goal

pub returns-in-Lay : goal.returns-in-Lay
returns-in-Lay c =
    let m : List ℕ = c.args.memory.now in
    let out : List ℕ = c.args.out.now in
    subst (λ (r : Request). ActTold (first_act c.args.ring m r) (Write c.place_of-in-Lay.result) out c.put_words.new.out) (sym c.in-Lay.is)
    (ap Write c.place_of-in-Lay.ensures, c.put_words.ensures ∙ ap (λ n. bytes_of (take 64 m) ++ drop n out) (sym (length_bytes_of (take 64 m))))

pub returns-in-Show : goal.returns-in-Show
returns-in-Show c =
    let m : List ℕ = c.args.memory.now in
    let out : List ℕ = c.args.out.now in
    let n : ℕ = c.in-Show.bytes in
    let row : List ℕ = bytes_of (take 16384 m) in
    let k : c.min-bytes.result ≡ min n 131072 = c.min-bytes.ensures in
    let l : length (take (min n 131072) row) ≡ min n 131072 =
    length-take-le (min n 131072) row (omega (arith, length_bytes_of (take 16384 m), length-take 16384 m, c.requires.0)) in
    subst (λ (r : Request). ActTold (first_act c.args.ring m r) (Shows c.min-bytes.result) out c.put_bytes.new.out) (sym c.in-Show.is)
    (ap Shows (k ∙ sym l), c.put_bytes.ensures ∙ ap₂ (λ i j. take i row ++ drop j out) k (k ∙ sym l))
