-- The morning, computed: every command of the table at once.
use Rattle.std.proofs.Common.{refl}
use Rattle.pages.specs.Lists.{same, earlier, so_many, distinct, added_up}
use Rattle.pages.specs.Bytes.{in_bytes, all_bytes}
use Rattle.trees.specs.Tree.{found, alike, put, without, set, same_tree, changed, clash, joined_at, joined_over, both, mark}
use Rattle.history.specs.Book.{nth, file_spelled, id_within, same_commit, place, added, closed, common, sooner, soonest, next_of, in_order}
use Rattle.commands.specs.Command.{fits}
use Rattle.house.specs.House.{turn, ref_of, without_ref, set_ref, tree_of, clone_at, set_clone, carry_one, carry_all, ours_alone, by_id, tree_weight, weight}
use Rattle.house.specs.Morning.{all_as_told, morning, afterwards, Morning}

pub morning_told : Morning
unfolding Morning all_as_told afterwards morning same earlier so_many distinct added_up in_bytes all_bytes found alike put without set same_tree changed clash joined_at joined_over both nth file_spelled id_within same_commit place added closed common sooner soonest next_of in_order fits turn ref_of without_ref set_ref tree_of clone_at set_clone carry_one carry_all ours_alone by_id mark tree_weight weight
morning_told = (refl, refl, refl)
