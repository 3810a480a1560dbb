use Rattle.cc_conversation.proofs.HeardOnce.{bytes_have_one_answer}
use Rattle.cc_conversation.proofs.SpokenOnce.{lines_have_one_answer}
use Rattle.cc_conversation.proofs.conversation_laws.lines_have_one_answer.Goals as goal

pub returns : goal.returns
returns c = record { lines = lines_have_one_answer; bytes = bytes_have_one_answer }
