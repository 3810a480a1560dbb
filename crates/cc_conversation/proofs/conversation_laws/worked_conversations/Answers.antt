use Rattle.cc_conversation.proofs.WorkedConversations as worked
use Rattle.cc_conversation.proofs.conversation_laws.worked_conversations.Goals as goal

pub returns : goal.returns
returns c = record {
  nothing = worked.nothing_is_asked;
  strangers = worked.strangers_end_it;
  replies = worked.replies_end_with_an_empty_line;
  missing = worked.lines_are_missing;
  bad = worked.bad_lines_end_it;
}
