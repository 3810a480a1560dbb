use Rattle.cc_machine.proofs.Answering.{popped_goes}
use Rattle.cc_machine.proofs.parts.Parts.answered.Goals as goal

pub returns-in-Some : goal.returns-in-Some
returns-in-Some c = popped_goes c.requires.linked c.in-Some.ensures c.answer.ensures
