use Rattle.cc_replies.proofs.OutputLaws.{outputs_exist, outputs_are_unique, outputs_are_joined}
use Rattle.cc_replies.proofs.reply_laws.commands_have_one_output.Goals as goal

pub returns-clause-exist : goal.returns-clause-exist
returns-clause-exist c = outputs_exist

pub returns-clause-unique : goal.returns-clause-unique
returns-clause-unique c = outputs_are_unique

pub returns-clause-joined : goal.returns-clause-joined
returns-clause-joined c = outputs_are_joined
