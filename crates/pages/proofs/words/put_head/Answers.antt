use Rattle.std.proofs.Common.{◌≡◌, ℕ, ◌*◌, List, ◌++◌, length, take, drop, replicate, sym, ap, ◌∙◌, ap₂, arith, length-drop}
use borrow.Rule.Slice.PartMut.{put_mid}
use Rattle.std.proofs.lemmas.List.{take_all, length-take-le}
use Rattle.pages.specs.Lists.{zeros}
use Rattle.pages.specs.Words.{bytes_of}
use Rattle.pages.specs.Machine.{head_page}
use Rattle.pages.proofs.WordLaws.{put_behind, length_bytes_of, replicate_zeros}
use Rattle.pages.proofs.words.put_head.Goals as goal

padded : (ws was mid new : List ℕ) → length ws ≡ 32 → mid ≡ bytes_of ws ++ drop (8 * length ws) was → new ≡ zeros 256 →
    put_mid 256 256 mid new ≡ head_page ws ++ drop 512 was
unfolding head_page
padded ws was mid new l e n =
    ap₂ (λ xs ys. put_mid 256 256 xs ys) (e ∙ ap (λ k. bytes_of ws ++ drop (8 * k) was) l) n
    ∙ put_behind 256 256 (bytes_of ws) was (zeros 256) (length_bytes_of ws ∙ ap (λ k. 8 * k) l)
    ∙ ap (λ xs. (bytes_of xs ++ zeros 256) ++ drop 512 was) (sym (take_all 32 ws (omega arith)))

pub returns : goal.returns
returns c =
    let mid = c.put_words.new.out in
    let l : length (take 256 (drop 256 mid)) ≡ 256 = length-take-le 256 (drop 256 mid) (omega (arith, length-drop 256 mid, c.put_words.auto.out)) in
    padded c.args.words.now c.args.out.now mid c.fill.new.self c.requires.0 c.put_words.ensures
    (c.fill.ensures.after (λ y e. e) ∙ ap (λ n. replicate n 0) l ∙ replicate_zeros 256)
