use Rattle.std.proofs.Common.{◌++◌, refl, ap, ◌∙◌}
use Rattle.pages.specs.Bytes.{with_length}
use Rattle.store.specs.Running.{added, fresh}
use Rattle.house.proofs.FedLaws.{sum_bytes}
use Rattle.house.proofs.spelling.add_sum.Goals as goal

pub returns : goal.returns
returns c =
    λ x f. c.add_bytes.ensures x f
    ∙ ap (λ y. added fresh (x ++ with_length y)) (sum_bytes c.args.words.now _ c.put_bytes.new.out c.requires refl c.put_bytes.ensures)
