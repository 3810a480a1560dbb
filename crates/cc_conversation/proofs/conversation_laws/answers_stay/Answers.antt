use Rattle.cc_conversation.proofs.HeardOnce.{heard_answers_stay}
use Rattle.cc_conversation.proofs.SpokenOnce.{answers_stay}
use Rattle.cc_conversation.proofs.conversation_laws.answers_stay.Goals as goal

pub returns : goal.returns
returns c = record { lines = answers_stay; bytes = heard_answers_stay }
