use Rattle.std.proofs.Common.{ap, ◌∙◌}
use Rattle.pages.specs.Lists.{each}
use Rattle.trees.specs.Tree.{put}
use Rattle.plain.specs.Files.{file_of, held}
use Rattle.plain.proofs.FileLaws.{put_held}
use Rattle.plain.proofs.tree.Tree.put.Goals as goal

pub returns-clause-ok : goal.returns-clause-ok
returns-clause-ok c =
    ap (λ es. each file_of es) c.in_ok-insert.ensures.entries ∙ put_held c.in_ok-to_vec.field-0 c.in_ok-to_vec-2.field-0 c.args.self.now.files.entries
    ∙ ap (λ p. put p c.in_ok-to_vec-2.field-0.items (held c.args.self.now)) (c.in_ok-to_vec.ensures.items_if_clones_equal (λ x y e. e))
    ∙ ap (λ b. put c.args.path.now b (held c.args.self.now)) (c.in_ok-to_vec-2.ensures.items_if_clones_equal (λ x y e. e))
