use Rattle.std.proofs.Common.{ap, ◌∙◌}
use Rattle.std.specs.Option.{option_copied, option_or}
use Rattle.plain.specs.Files.{one}
use Rattle.plain.proofs.FileLaws.{named_held}
use Rattle.plain.proofs.houses.House.named.Goals as goal

pub returns : goal.returns
returns c =
    ap one c.copied.ensures ∙ ap (λ o. one (option_copied o)) c.or.ensures ∙ ap (λ o. one (option_copied (option_or o c.get-3.result))) c.or-found.ensures
    ∙ named_held c.args.name.now c.args.self.now.branches.entries c.args.self.now.tags.entries c.args.self.now.others.entries _ _ _ c.get.ensures.value c.get-2.ensures.value
    c.get-3.ensures.value
