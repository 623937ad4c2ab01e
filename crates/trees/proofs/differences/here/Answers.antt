use Rattle.std.proofs.Common.{◌≡◌, ◌+◌, ◌<◌, ◌≤◌, [], length, get_or, drop, sym, ◌∙◌, ap₂, rules}
use Rattle.pages.specs.Lists.{each}
use Rattle.trees.specs.Row.{as_entry}
use Rattle.trees.specs.Differ.{difference_here}
use Rattle.trees.proofs.DifferLaws.{file_at, file_past, here_both}
use Rattle.trees.proofs.differences.here.Goals as goal

pub returns-in-None-Some : goal.returns-in-None-Some
returns-in-None-Some c =
    let old = c.args.old.now in let new = c.args.new.now in
    let h : length old ≤ c.args.i = search rules in
    let k : c.args.j < length new = search rules in
    c.differs.ensures ∙ sym (ap₂ (λ s t. difference_here s t c.args.i c.args.j) (file_past old c.args.i h) (file_at new c.args.j k))

pub returns-in-Some-None : goal.returns-in-Some-None
returns-in-Some-None c =
    let old = c.args.old.now in let new = c.args.new.now in
    let h : c.args.i < length old = search rules in
    let k : length new ≤ c.args.j = search rules in
    c.differs-in-Some-None.ensures ∙ sym (ap₂ (λ s t. difference_here s t c.args.i c.args.j) (file_at old c.args.i h) (file_past new c.args.j k))

pub returns-in-Equal : goal.returns-in-Equal
returns-in-Equal c =
    c.differs-in-Equal.ensures
    ∙ here_both c.args.old.now c.args.new.now c.args.i c.args.j c.in-Some-Some.old.now c.in-Some-Some.new.now _ (search rules) (search rules) (search rules) (search rules)
    c.in-Equal.ensures

pub returns-in-Less : goal.returns-in-Less
returns-in-Less c =
    c.differs-in-Less.ensures
    ∙ here_both c.args.old.now c.args.new.now c.args.i c.args.j c.in-Some-Some.old.now c.in-Some-Some.new.now _ (search rules) (search rules) (search rules) (search rules)
    c.in-Less.ensures

pub returns-in-Greater : goal.returns-in-Greater
returns-in-Greater c =
    c.differs-in-Greater.ensures
    ∙ here_both c.args.old.now c.args.new.now c.args.i c.args.j c.in-Some-Some.old.now c.in-Some-Some.new.now _ (search rules) (search rules) (search rules) (search rules)
    c.in-Greater.ensures
