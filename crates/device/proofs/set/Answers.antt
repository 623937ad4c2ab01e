use Rattle.device.proofs.Holding.{set_is, set_past}
use Rattle.device.proofs.set.Goals as goal

pub returns-then-at-pages : goal.returns-then-at-pages
returns-then-at-pages c = set_is c.args.pages.now c.args.at c.args.page

pub returns-else-at-pages : goal.returns-else-at-pages
returns-else-at-pages c = set_past c.args.pages.now c.args.at c.args.page c.if-at-pages.false
