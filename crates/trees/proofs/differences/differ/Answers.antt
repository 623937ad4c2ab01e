use Rattle.std.proofs.Common.{◌+◌, ◌<◌, length, drop, sym, ◌∙◌, ap₂, arith}
use Rattle.std.proofs.lemmas.List.{drop-drop}
use Rattle.pages.specs.Lists.{each}
use Rattle.pages.proofs.ListLaws.{length_each}
use Rattle.trees.specs.Row.{as_entry}
use Rattle.trees.specs.Differ.{first_difference, difference_from}
use Rattle.trees.proofs.EntryLaws.{entries_are}
use Rattle.trees.proofs.DifferLaws.{difference_on, difference_stops, meets_within}
use Rattle.trees.proofs.differences.differ.Goals as goal

-- the files at two places are there
inside : (c : goal.In-loop-i) → (c.loop-i.i < length c.entries-old.result.now) × (c.loop-i.j < length c.entries-new.result.now)
inside c =
    let os = c.entries-old.result.now in let ns = c.entries-new.result.now in
    let w = meets_within (each as_entry os) (each as_entry ns) c.loop-i.i c.loop-i.j c.loop-i-test.ensures in
    (omega (arith, w.0, length_each as_entry os), omega (arith, w.1, length_each as_entry ns))

pub loop-i-preserved : goal.loop-i-preserved
loop-i-preserved c =
    let os = each as_entry c.entries-old.result.now in let ns = each as_entry c.entries-new.result.now in let i = c.loop-i.i in let j = c.loop-i.j in
    sym (ap₂ (λ s t. first_difference s t (i + 1) (j + 1)) (drop-drop 1 i os) (drop-drop 1 j ns)) ∙ difference_on (drop i os) (drop j ns) i j c.loop-i-test.ensures ∙ c.loop-i.invariant

pub returns : goal.returns
unfolding difference_from
returns c =
    let os = each as_entry c.entries-old.result.now in let ns = each as_entry c.entries-new.result.now in let i = c.loop-i.i in let j = c.loop-i.j in
    let from = c.args.from in
    c.here.ensures ∙ difference_stops (drop i os) (drop j ns) i j c.loop-i-test.ensures ∙ c.loop-i.invariant
    ∙ ap₂ (λ s t. first_difference (drop from.old s) (drop from.new t) from.old from.new) (entries_are c.args.old.now _ c.entries-old.ensures.is) (entries_are c.args.new.now _ c.entries-new.ensures.is)
