use Rattle.std.proofs.Common.{rules}
use Rattle.std.proofs.lemmas.Slice.{put_mid-paste}
use Rattle.commands.proofs.writer.put.Goals as goal

pub returns : goal.returns
returns c = search (rules, put_mid-paste)
