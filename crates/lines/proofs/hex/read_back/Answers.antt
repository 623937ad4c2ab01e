use Rattle.lines.proofs.HexLaws.{read_back}
use Rattle.lines.proofs.hex.read_back.Goals as goal

pub returns : goal.returns
returns c = read_back
