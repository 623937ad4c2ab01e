use Rattle.std.proofs.Common.{ap, ◌∙◌}
use Rattle.pages.specs.Lists.{each}
use Rattle.plain.specs.Files.{file_of}
use Rattle.plain.proofs.FileLaws.{without_held}
use Rattle.plain.proofs.tree.Tree.remove.Goals as goal

pub returns : goal.returns
returns c = ap (λ es. each file_of es) c.remove.ensures.entries ∙ without_held c.args.path.now c.args.self.now.files.entries
