use Rattle.std.proofs.Common.{◌∙◌}
use Rattle.objects_tests.specs.declared.keeper.Phase.TheVariants.{ToSweep, ToSurvey}
use Rattle.objects_tests.proofs.Keeping.{resumes_in}
use Rattle.objects_tests.proofs.keeper.KeeperClient.resume.Goals as goal

pub returns-in-ToSweep : goal.returns-in-ToSweep
returns-in-ToSweep c = c.start_sweep.ensures ∙ resumes_in c.args.self.now c.args.memory.now ToSweep c.if-memory-lt-END.false c.in-ToSweep.is

pub returns-in-ToSurvey : goal.returns-in-ToSurvey
returns-in-ToSurvey c = c.start_survey.ensures ∙ resumes_in c.args.self.now c.args.memory.now ToSurvey c.if-memory-lt-END.false c.in-ToSurvey.is
