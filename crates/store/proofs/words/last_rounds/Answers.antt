use Rattle.std.proofs.Common.{drop, length-drop, ◌∙◌, ap, arith, rules}
use Rattle.std.proofs.lemmas.List.{take_all}
use Rattle.std.proofs.lemmas.Iterator.{YieldsList-from_slice, YieldsList-from_zip}
use Rattle.std.proofs.lemmas.Iterator.Consumers.{fold_from_yields_List}
use Rattle.store.specs.Sha256.{K}
use Rattle.store.proofs.Scheduling.{turned}
use Rattle.store.proofs.words.last_rounds.Goals as goal

pub returns : goal.returns
unfolding K
returns c =
    let w = c.args.w.now in
    fold_from_yields_List _ turned _ _ c.fold.ensures.ran
    (YieldsList-from_zip (YieldsList-from_slice _ (ap (λ i. i.rest.now) c.zip.ensures.first ∙ c.iter.ensures.rest))
    (YieldsList-from_slice _ (c.zip.ensures.second.0 ∙ take_all 16 (drop 48 w) (omega (arith, length-drop 48 w)))))
    (λ a x b q k. search rules)
