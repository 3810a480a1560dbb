use Rattle.cc_program.proofs.EndingsInWords as law
use Rattle.cc_program.proofs.call_laws.the_name_is_no_word.Goals as goal

pub returns-clause-name : goal.returns-clause-name
returns-clause-name c = law.the_name_is_no_word

pub returns-clause-none : goal.returns-clause-none
returns-clause-none c = law.no_name_is_no_word

pub returns-clause-three : goal.returns-clause-three
returns-clause-three c = law.three_words_are_two
