use Rattle.cc_replies.proofs.WorkedRefusals as worked
use Rattle.cc_replies.proofs.reply_examples.refusals.Goals as goal

pub returns-clause-long_text : goal.returns-clause-long_text
returns-clause-long_text c = worked.long_text_is_refused

pub returns-clause-longest_text : goal.returns-clause-longest_text
returns-clause-longest_text c = worked.longest_text_is_put

pub returns-clause-too_many : goal.returns-clause-too_many
returns-clause-too_many c = worked.module_too_many_is_refused

pub returns-clause-last_module : goal.returns-clause-last_module
returns-clause-last_module c = worked.last_module_is_put

pub returns-clause-absent_drop : goal.returns-clause-absent_drop
returns-clause-absent_drop c = worked.absent_is_not_dropped

pub returns-clause-absent_signature : goal.returns-clause-absent_signature
returns-clause-absent_signature c = worked.absent_has_no_signature

pub returns-clause-nothing : goal.returns-clause-nothing
returns-clause-nothing c = worked.nothing_is_refused

pub returns-clause-no_module : goal.returns-clause-no_module
returns-clause-no_module c = worked.no_module_is_refused

pub returns-clause-refused_signature : goal.returns-clause-refused_signature
returns-clause-refused_signature c = worked.refused_has_no_signature

pub returns-clause-cycles : goal.returns-clause-cycles
returns-clause-cycles c = worked.cycles_are_refused

pub returns-clause-first_import : goal.returns-clause-first_import
returns-clause-first_import c = worked.refused_before_absent
