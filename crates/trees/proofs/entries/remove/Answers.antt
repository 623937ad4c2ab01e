use Rattle.trees.proofs.MoveLaws.{remove_laid}
use Rattle.trees.proofs.entries.remove.Goals as goal

pub returns : goal.returns
returns c = remove_laid c.args.n c.args.at c.args.body.now _ c.requires.0 c.requires.1 c.copy_within.ensures.after
