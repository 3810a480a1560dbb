use Rattle.cc_certificate_examples.proofs.WorkedJudging as worked
use Rattle.cc_certificate_examples.proofs.judging_facts.written_certificates.Goals as goal

pub returns : goal.returns
returns c = worked.written_certificates
