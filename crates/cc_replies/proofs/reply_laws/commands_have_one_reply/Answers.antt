use Rattle.cc_replies.proofs.PresentAfter.{texts_stay_present}
use Rattle.cc_replies.proofs.ReplyLaws.{replies_exist, replies_are_unique}
use Rattle.cc_replies.proofs.reply_laws.commands_have_one_reply.Goals as goal

pub returns-clause-stay : goal.returns-clause-stay
returns-clause-stay c = texts_stay_present

pub returns-clause-exist : goal.returns-clause-exist
returns-clause-exist c = replies_exist

pub returns-clause-unique : goal.returns-clause-unique
returns-clause-unique c = replies_are_unique
