use Rattle.std.proofs.Common.{sym, ap, ◌∙◌}
use Rattle.trees.specs.Tree.{same_tree}
use Rattle.plain.specs.Files.{held, held_or_empty}
use Rattle.plain.proofs.FileLaws.{empty_tree, same_trees}
use Rattle.plain.proofs.tree.Tree.is_as.Goals as goal

pub returns-in-Some : goal.returns-in-Some
returns-in-Some c =
    c.eq.ensures ∙ same_trees c.args.self.now.files.entries c.in-Some.tree.now.files.entries
    ∙ sym (ap (λ o. same_tree (held c.args.self.now) (held_or_empty o)) c.in-Some.is)

pub returns-in-None : goal.returns-in-None
returns-in-None c =
    c.is_empty.ensures ∙ empty_tree c.args.self.now.files.entries ∙ sym (ap (λ o. same_tree (held c.args.self.now) (held_or_empty o)) c.in-None.is)
