use Rattle.commands.specs.Laws.{ParsedBack}
use Rattle.commands.proofs.ParseLaws.{parsed_back}
use Rattle.commands.proofs.SpellLaws.{read_back}
use Rattle.commands.proofs.laws.parsed_back.Goals as goal

pub returns : goal.returns
unfolding ParsedBack
returns c = record { list = parsed_back; row = read_back }
