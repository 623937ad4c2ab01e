use Rattle.std.proofs.Common.{◌∙◌}
use Rattle.plain.proofs.SideLaws.{alike_options}
use Rattle.plain.proofs.tree.alike.Goals as goal

pub returns : goal.returns
returns c = c.eq.ensures ∙ alike_options c.args.here c.args.there
