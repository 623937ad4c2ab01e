use Rattle.std.proofs.Common.{◌++◌, ◌==◌, sym, ap, ◌∙◌}
use Rattle.std.specs.Option.{option_copied}
use lib.Pointwise.{pointwise}
use Rattle.pages.specs.Lists.{each}
use Rattle.plain.specs.Files.{name_of, one}
use Rattle.plain.proofs.FileLaws.{either_held, taken_found, taken_here}
use Rattle.plain.proofs.houses.House.is_taken.Goals as goal

pub returns-then-is_some : goal.returns-then-is_some
returns-then-is_some c =
    let x = c.args.self.now in
    c.if-is_some.true ∙ taken_found c.args.name.now x.here.items (each name_of x.branches.entries ++ each name_of x.tags.entries) c.or-found.result
    (ap (λ o. one (option_copied o)) c.or-found.ensures ∙ either_held c.args.name.now x.branches.entries x.tags.entries _ _ c.get.ensures.value c.get-2.ensures.value)
    (sym c.is_some.ensures ∙ c.if-is_some.true)

pub returns-else-is_some : goal.returns-else-is_some
returns-else-is_some c =
    let x = c.args.self.now in
    taken_here c.args.name.now x.here.items (each name_of x.branches.entries ++ each name_of x.tags.entries) c.or-found.result c.eq.result
    (ap (λ o. one (option_copied o)) c.or-found.ensures ∙ either_held c.args.name.now x.branches.entries x.tags.entries _ _ c.get.ensures.value c.get-2.ensures.value)
    (sym c.is_some.ensures ∙ c.if-is_some.false) (c.eq.ensures ∙ ap (λ h. pointwise (λ m n. m == n) h c.args.name.now) c.as_slice.ensures.value)
