use Rattle.cc_judge.proofs.FindingTests as tests
use Rattle.cc_judge.proofs.finding_laws.same_findings_decides.Goals as goal

pub returns : goal.returns
returns c = tests.same_findings_decides
