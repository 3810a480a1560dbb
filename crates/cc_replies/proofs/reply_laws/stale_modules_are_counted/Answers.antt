use Rattle.cc_replies.proofs.StaleLaws.{stale_exist, stale_is_one}
use Rattle.cc_replies.proofs.reply_laws.stale_modules_are_counted.Goals as goal

pub returns-clause-exist : goal.returns-clause-exist
returns-clause-exist c = stale_exist

pub returns-clause-unique : goal.returns-clause-unique
returns-clause-unique c = stale_is_one
