use Rattle.trees.proofs.AnswerLaws.{differs_right}
use Rattle.trees.proofs.laws.differences_are_marks.Goals as goal

pub returns : goal.returns
returns c = differs_right
