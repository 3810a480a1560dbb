use Rattle.cc_certificate_examples.proofs.WorkedJudging as worked
use Rattle.cc_certificate_examples.proofs.judging_facts.binders_at_premises.Goals as goal

pub returns : goal.returns
returns c = worked.binders_at_premises
