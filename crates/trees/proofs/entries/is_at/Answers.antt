use Rattle.std.proofs.Common.{◌≡◌, ◌≤◌, ◌==◌, length, take, ap, ◌∙◌, arith, rules}
use Rattle.std.proofs.lemmas.Iterator.{YieldsList-from_slice, YieldsList-from_zip}
use Rattle.std.proofs.lemmas.Iterator.Search.{all_from_yields_List}
use Rattle.pages.specs.Lists.{same}
use Rattle.trees.proofs.EntryLaws.{zipped_same}
use Rattle.trees.proofs.entries.is_at.Goals as goal

pub returns : goal.returns
returns c =
    let k = c.args.key.now in let e = c.args.entry.now in
    let nine : length k ≡ 9 = search rules in
    let short : length k ≤ length e = omega arith in
    all_from_yields_List (λ p. p.0 == p.1) c.all.new.self _ c.all.result c.all.ensures.ran
    (YieldsList-from_zip (YieldsList-from_slice k (ap (λ i. i.rest.now) c.zip.ensures.first ∙ c.iter.ensures.rest))
    (YieldsList-from_slice e c.zip.ensures.second.0))
    (λ x b q r. search rules)
    ∙ zipped_same k e short ∙ ap (λ n. same k (take n e)) nine
