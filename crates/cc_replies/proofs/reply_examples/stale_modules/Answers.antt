use Rattle.cc_replies.proofs.WorkedStaleModules as worked
use Rattle.cc_replies.proofs.reply_examples.stale_modules.Goals as goal

pub returns-clause-puts : goal.returns-clause-puts
returns-clause-puts c = worked.puts_find_none_stale

pub returns-clause-drops : goal.returns-clause-drops
returns-clause-drops c = worked.drops_find_none_stale

pub returns-clause-policies : goal.returns-clause-policies
returns-clause-policies c = worked.policies_find_none_stale

pub returns-clause-certificates : goal.returns-clause-certificates
returns-clause-certificates c = worked.certificates_find_none_stale

pub returns-clause-audits : goal.returns-clause-audits
returns-clause-audits c = worked.audits_and_guards_check

pub returns-clause-checks : goal.returns-clause-checks
returns-clause-checks c = worked.two_of_four_checks

pub returns-clause-put_again : goal.returns-clause-put_again
returns-clause-put_again c = worked.put_again_before_a_check

pub returns-clause-put_later : goal.returns-clause-put_later
returns-clause-put_later c = worked.put_again_behind_a_check
