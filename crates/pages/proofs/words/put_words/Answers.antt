use Rattle.std.proofs.Common.{◌≡◌, ◌*◌, ◌++◌, length, drop, refl, ◌∙◌, ap₂, arith}
use Rattle.std.proofs.lemmas.List.{take_all}
use Rattle.pages.specs.Words.{bytes_of}
use Rattle.pages.proofs.WordLaws.{put_more}
use Rattle.pages.proofs.words.put_words.Goals as goal

pub loop-i-init : goal.loop-i-init
unfolding bytes_of
loop-i-init c = refl

pub loop-i-preserved : goal.loop-i-preserved
loop-i-preserved c =
    put_more c.args.words.now c.loop-i.out c.args.out.now c.copy_from_slice.new.self c.loop-i.i (omega arith) c.loop-i.invariant
    (c.copy_from_slice.ensures.after ∙ c.in_eight.ensures)

pub returns : goal.returns
returns c =
    let i : c.loop-i.i ≡ length c.args.words.now = omega arith in
    c.loop-i.invariant
    ∙ ap₂ (λ xs n. bytes_of xs ++ drop (8 * n) c.args.out.now) (take_all c.loop-i.i c.args.words.now (omega arith)) i
