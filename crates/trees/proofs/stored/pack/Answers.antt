use Rattle.std.proofs.Common.{◌≡◌, ℕ, ◌+◌, ◌-◌, ◌∷◌, List, length, get_or, take, ap, sym, ◌∙◌, arith, length-set}
use Rattle.pages.specs.Words.{over}
use Rattle.trees.specs.Packed.{needed, packed}
use Rattle.trees.proofs.StoredLaws.{length_packed, pack_over}
use Rattle.trees.proofs.stored.pack.Goals as goal

-- how many words are written
size : (e : List ℕ) (k : ℕ) → length e ≡ 10 → k ≡ needed (get_or e 8 0) → length (packed e) ≡ 1 + k
size e k l h = length_packed e (omega arith) ∙ ap (λ n. 1 + n) (sym h)

pub bounds-out-at : goal.bounds-out-at
bounds-out-at c = omega (arith, c.requires, size c.args.entry.now _ c.told-entry c.path_words.ensures)

pub slice_bounds-copy_from_slice-end : goal.slice_bounds-copy_from_slice-end
slice_bounds-copy_from_slice-end c =
    let out = c.args.out.now in let e = c.args.entry.now in
    omega (arith, c.requires, size e _ c.told-entry c.path_words.ensures, length-set out c.args.at (get_or e 8 0))

pub returns-clause-end : goal.returns-clause-end
returns-clause-end c = omega (arith, size c.args.entry.now _ c.told-entry c.path_words.ensures)

pub returns-clause-words : goal.returns-clause-words
unfolding packed
returns-clause-words c =
    let k = c.path_words.result in let e = c.args.entry.now in let at = c.args.at in
    let s = size e k c.told-entry c.path_words.ensures in
    let m : at + 1 + k - (at + 1) ≡ k = omega arith in
    pack_over at k (at + 1 + k - (at + 1)) (get_or e 8 0) e c.args.out.now c.copy_from_slice.new.self m (c.copy_from_slice.ensures.after ∙ ap (λ i. take i e) m)
    (omega (arith, c.requires, s)) (omega (arith, c.told-entry, c.path_words.ensures)) ∙ ap (λ i. over at (get_or e 8 0 ∷ take i e) c.args.out.now) c.path_words.ensures
