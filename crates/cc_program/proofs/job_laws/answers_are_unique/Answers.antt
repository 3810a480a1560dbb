use Rattle.cc_program.proofs.UniqueAnswers.{answers_are_unique}
use Rattle.cc_program.proofs.job_laws.answers_are_unique.Goals as goal

pub returns : goal.returns
returns c = answers_are_unique
