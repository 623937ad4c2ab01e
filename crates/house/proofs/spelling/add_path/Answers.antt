use Rattle.std.proofs.Common.{◌++◌, ap, ◌∙◌}
use Rattle.pages.specs.Bytes.{with_length}
use Rattle.store.specs.Running.{added, fresh}
use Rattle.house.proofs.FedLaws.{path_cut}
use Rattle.house.proofs.spelling.add_path.Goals as goal

pub returns : goal.returns
returns c =
    λ x f. c.add_bytes.ensures x f
    ∙ ap (λ y. added fresh (x ++ with_length y)) (path_cut c.args.entry.now _ c.put_bytes.new.out c.min-many.result c.told-entry c.min-many.ensures c.put_bytes.ensures)
