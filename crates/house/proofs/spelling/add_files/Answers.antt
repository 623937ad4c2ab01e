use Rattle.std.proofs.Common.{ap, ◌∙◌}
use Rattle.store.specs.Running.{added, fresh}
use Rattle.house.proofs.FedLaws.{files_fed}
use Rattle.house.proofs.spelling.add_files.Goals as goal

pub returns : goal.returns
returns c =
    λ x f. c.add_entries.ensures _ (c.add_number.ensures x f)
    ∙ ap (added fresh) (files_fed x c.args.row.now c.args.sums.now c.entries-entries.result.now c.entries-entries.ensures.is)
