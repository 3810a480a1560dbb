use Rattle.cc_certificate_examples.proofs.WorkedJudging as worked
use Rattle.cc_certificate_examples.proofs.judging_facts.listed_nodes.Goals as goal

pub returns : goal.returns
returns c = worked.listed_nodes
