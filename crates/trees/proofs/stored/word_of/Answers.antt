use Rattle.std.proofs.Common.{◌≡◌, ℕ, ◌+◌, ◌<◌, List, [], ◌∷◌, ◌++◌, get_or, take, drop, sym, refl, ap, ◌∙◌, arith}
use Rattle.std.proofs.lemmas.List.{get_or-take}
use Rattle.pages.specs.Lists.{zeros}
use Rattle.trees.specs.Row.{in_words}
use Rattle.trees.specs.Packed.{needed, unpacked}
use Rattle.trees.proofs.SpreadLaws.{length_front, path_word_in, path_word_past, unpacked_words, word_path, word_reference, word_size}
use Rattle.trees.proofs.stored.word_of.Goals as goal

spelled : (xs : List ℕ) (at size k r i : ℕ) → size ≡ get_or xs at 0 → k ≡ needed size →
    get_or ((take 8 (take k (drop (at + 1) xs) ++ zeros 8) ++ size ∷ []) ++ r ∷ []) i 0 ≡ get_or (in_words (unpacked r (drop at xs))) i 0
spelled xs at size k r i a b = ap (λ ws. get_or ws i 0) (unpacked_words xs at size k r a b)

pub returns-in-8 : goal.returns-in-8
returns-in-8 c h =
    let xs = c.args.stored.now in let at = c.args.at in let size = c.word-size.result in let r = c.args.reference in
    let p = take (needed size) (drop (at + 1) xs) in
    rw c.in-8.is (sym (word_size (take 8 (p ++ zeros 8)) size r (length_front p)) ∙ spelled xs at size (needed size) r 8 c.word-size.ensures refl)

pub returns-in-9 : goal.returns-in-9
returns-in-9 c h =
    let xs = c.args.stored.now in let at = c.args.at in let size = c.word-size.result in let r = c.args.reference in
    let p = take (needed size) (drop (at + 1) xs) in
    rw c.in-9.is (sym (word_reference (take 8 (p ++ zeros 8)) size r (length_front p)) ∙ spelled xs at size (needed size) r 9 c.word-size.ensures refl)

pub returns-in_default : goal.returns-in_default
returns-in_default c h =
    let xs = c.args.stored.now in let at = c.args.at in let size = c.word-size.result in let r = c.args.reference in let k = c.path_words.result in let i = c.args.i in
    let p = take k (drop (at + 1) xs) in
    c.word.ensures ∙ path_word_in xs (at + 1) k i c.if-i-path_words.true ∙ sym (get_or-take 8 (p ++ zeros 8) i 0 (omega (arith, c.path_words.ensures)))
    ∙ sym (word_path (take 8 (p ++ zeros 8)) size r (length_front p) i (omega (arith, c.path_words.ensures)))
    ∙ spelled xs at size k r i c.word-size.ensures c.path_words.ensures

pub returns-in_default-2 : goal.returns-in_default-2
returns-in_default-2 c h =
    let xs = c.args.stored.now in let at = c.args.at in let size = c.word-size.result in let r = c.args.reference in let k = c.path_words.result in let i = c.args.i in
    let p = take k (drop (at + 1) xs) in
    let l : i < 8 = omega arith in
    path_word_past xs (at + 1) k i c.if-i-path_words.false ∙ sym (get_or-take 8 (p ++ zeros 8) i 0 l)
    ∙ sym (word_path (take 8 (p ++ zeros 8)) size r (length_front p) i l)
    ∙ spelled xs at size k r i c.word-size.ensures c.path_words.ensures
