use Rattle.plain.proofs.ReplyLaws.{refusals_right}
use Rattle.plain.proofs.refusal.refusals_are_right.Goals as goal

pub returns : goal.returns
returns c = refusals_right
