use Rattle.std.proofs.Common.{◌≡◌, ◌∙◌}
use Rattle.pages.specs.Lists.{zeros}
use Rattle.objects.specs.Cells.{sweep_cells, walk_cells}
use Rattle.objects.specs.Marking.{key_words}
use Rattle.house.specs.Control.{control_saves, own_cells}
use Rattle.house.proofs.control.ControlClient.save.Goals as goal

pub returns : goal.returns
unfolding control_saves zeros
returns c =
    let k = c.args.self.now in
    let one : c.copy_from_slice.new.self ≡ own_cells k = c.copy_from_slice.ensures.after ∙ c.own_cells.ensures in
    let two : c.copy_from_slice-2.new.self ≡ sweep_cells k.sweep = c.copy_from_slice-2.ensures.after ∙ c.sweep_cells.ensures in
    let three : c.copy_from_slice-3.new.self ≡ walk_cells k.walk = c.copy_from_slice-3.ensures.after ∙ c.walk_cells.ensures in
    let four : c.copy_from_slice-4.new.self ≡ key_words k.version.parent = c.copy_from_slice-4.ensures.after ∙ c.words.ensures in
    rw (one, two, three, four)
