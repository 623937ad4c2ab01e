use Rattle.std.proofs.Common.{sym, ap, ◌∙◌}
use Rattle.house.specs.Control.{opened}
use Rattle.house.proofs.control.Control.open.Goals as goal

pub returns : goal.returns
returns c = λ m. c.ask.ensures m ∙ ap (opened c.args.self.now m) (sym c.in-Some.is)
