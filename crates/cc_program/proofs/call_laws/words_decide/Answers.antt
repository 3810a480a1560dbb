use Rattle.cc_program.proofs.CallsInBytes as law
use Rattle.cc_program.proofs.call_laws.words_decide.Goals as goal

pub returns-clause-job : goal.returns-clause-job
returns-clause-job c = law.no_word_asks_for_the_job c.words_ask_for_one_thing.ensures

pub returns-clause-workload : goal.returns-clause-workload
returns-clause-workload c = law.workloads_leave_the_source c.words_ask_for_one_thing.ensures

pub returns-clause-others : goal.returns-clause-others
returns-clause-others c = law.other_words_touch_nothing c.words_ask_for_one_thing.ensures

pub returns-clause-worked : goal.returns-clause-worked
returns-clause-worked c = law.bad_words_touch_nothing c.words_ask_for_one_thing.ensures c.worked_words.ensures.no_form
