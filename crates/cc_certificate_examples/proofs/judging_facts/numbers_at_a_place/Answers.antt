use Rattle.cc_certificate_examples.proofs.WorkedJudging as worked
use Rattle.cc_certificate_examples.proofs.judging_facts.numbers_at_a_place.Goals as goal

pub returns : goal.returns
returns c = worked.numbers_at_a_place
