use Rattle.std.proofs.Common.{◌≡◌, ℕ, ◌-◌, ◌≤◌, true, leb, List, [], ◌∷◌, ◌++◌, length, Some, None, sym, ap, ◌∙◌, arith}
use Rattle.std.proofs.lemmas.Bool.{le-leb, and_from, eqb-false}
use Rattle.pages.specs.Lists.{zeros}
use Rattle.pages.specs.Words.{words}
use Rattle.pages.proofs.ListLaws.{pick_true}
use Rattle.trees.specs.Row.{good_path, key_of}
use Rattle.trees.proofs.keys.key.Goals as goal

made : (p b k : List ℕ) → 1 ≤ length p → length p ≤ 64 → b ≡ p ++ zeros (64 - length p) → k ≡ words 8 b ++ length p ∷ [] →
    (good_path p ≡ true) × (k ≡ key_of p)
unfolding key_of
made p b k l h e f = (and_from (leb 1 (length p)) (leb (length p) 64) (le-leb 1 (length p) l) (le-leb (length p) 64 h), f ∙ ap (λ x. words 8 x ++ length p ∷ []) e)

pub returns : goal.returns
returns c =
    let p = c.args.path.now in
    let m = made p c.padded.result c.packed.result (omega (arith, eqb-false (length p) 0 (sym c.if-is_empty.ensures))) (omega arith) c.padded.ensures c.packed.ensures in
    ap Some m.1 ∙ sym (pick_true (good_path p) (Some (key_of p)) None m.0)
