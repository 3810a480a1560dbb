use Rattle.cc_program.proofs.EndingsInWords as law
use Rattle.cc_program.proofs.call_laws.messages_in_texts.Goals as goal

pub returns : goal.returns
returns c = law.messages_in_texts
