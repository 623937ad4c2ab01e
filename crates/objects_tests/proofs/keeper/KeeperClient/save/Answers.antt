use Rattle.std.proofs.Common.{◌≡◌, ◌∷◌, ◌++◌, ap, ◌∙◌}
use Rattle.pages.specs.Lists.{zeros}
use Rattle.objects.specs.Cells.{sweep_cells, walk_cells}
use Rattle.objects_tests.specs.Keeper.{keeper_saves}
use Rattle.objects_tests.proofs.keeper.KeeperClient.save.Goals as goal

pub returns : goal.returns
unfolding keeper_saves zeros
returns c =
    let k = c.args.self.now in
    let one : c.copy_from_slice.new.self ≡ walk_cells k.walk = c.copy_from_slice.ensures.after ∙ c.walk_cells.ensures in
    let two : c.copy_from_slice-2.new.self ≡ sweep_cells k.sweep = c.copy_from_slice-2.ensures.after ∙ c.sweep_cells.ensures in
    rw (one, two) (ap (λ p. p ∷ (walk_cells k.walk ++ (sweep_cells k.sweep ++ zeros 96))) c.code.ensures)
