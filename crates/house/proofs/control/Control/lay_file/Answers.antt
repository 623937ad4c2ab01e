use Rattle.house.proofs.ControlSteps.{file_words, file_none, file_some}
use Rattle.house.proofs.control.Control.lay_file.Goals as goal

pub returns-in_default : goal.returns-in_default
returns-in_default c =
    file_none c.args.self.now c.args.memory.now c.compose_file.new.memory c.args.page c.compose_file.result c.refuse.result c.compose_file.ensures.answer c.in_default.is
    c.compose_file.ensures.memory c.refuse.ensures

pub lay-requires : goal.lay-requires
lay-requires c = file_words c.args.self.now c.args.memory.now c.in-Some.words c.compose_file.result c.compose_file.ensures.answer c.in-Some.is

pub returns : goal.returns
returns c =
    file_some c.args.self.now c.lay.new.self c.args.memory.now c.compose_file.new.memory c.name_file.new.memory c.args.page c.in-Some.words c.reference_at.result c.compose_file.result
    c.lay.result c.compose_file.ensures.answer c.in-Some.is c.compose_file.ensures.memory c.reference_at.ensures c.name_file.ensures (c.lay.ensures c.name_file.new.memory)
