use Rattle.cc_certificate_examples.proofs.WorkedJudging as worked
use Rattle.cc_certificate_examples.proofs.judging_facts.answers_in_words.Goals as goal

pub returns : goal.returns
returns c = worked.answers_in_words
