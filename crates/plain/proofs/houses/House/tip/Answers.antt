use Rattle.std.proofs.Common.{ap, ◌∙◌}
use Rattle.pages.specs.Lists.{each}
use Rattle.house.specs.House.{ref_of}
use Rattle.plain.specs.Files.{name_of, one}
use Rattle.plain.proofs.FileLaws.{found_name}
use Rattle.plain.proofs.houses.House.tip.Goals as goal

pub returns : goal.returns
returns c =
    ap one c.copied.ensures ∙ found_name c.as_slice.result.now c.args.self.now.branches.entries c.get.result c.get.ensures.value
    ∙ ap (λ n. ref_of (each name_of c.args.self.now.branches.entries) n) c.as_slice.ensures.value
