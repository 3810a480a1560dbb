use Rattle.cc_replies.proofs.PolicyLaws as law
use Rattle.cc_replies.proofs.reply_laws.permitted_entries_are_run.Goals as goal

pub returns-clause-decided : goal.returns-clause-decided
returns-clause-decided c = law.told_decisions_are_decided

pub returns-clause-tested : goal.returns-clause-tested
returns-clause-tested c = law.permission_is_tested

pub returns-clause-run : goal.returns-clause-run
returns-clause-run c = law.permitted_entries_are_run

pub returns-clause-refused : goal.returns-clause-refused
returns-clause-refused c = law.other_entries_are_not_run
