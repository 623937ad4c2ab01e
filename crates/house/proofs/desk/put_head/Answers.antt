use Rattle.house.proofs.ControlLaws.{head_made}
use Rattle.house.proofs.desk.put_head.Goals as goal

pub returns : goal.returns
returns c = head_made c.args.memory.now c.copy_words.new.memory c.args.page c.args.root c.args.tip c.requires c.copy_words.ensures
