use Rattle.cc_program.proofs.ReplyPairs as law
use Rattle.cc_program.proofs.reply_laws.audits_tell_decisions.Goals as goal

pub returns-clause-told : goal.returns-clause-told
returns-clause-told c = law.audits_tell_decisions

pub returns-clause-decided : goal.returns-clause-decided
returns-clause-decided c = law.decisions_are_told
