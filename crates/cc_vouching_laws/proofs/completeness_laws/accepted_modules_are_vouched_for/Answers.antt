use Rattle.cc_vouching_laws.proofs.AcceptedAnswers.{accepted_modules_vouched}
use Rattle.cc_vouching_laws.proofs.completeness_laws.accepted_modules_are_vouched_for.Goals as goal

pub returns : goal.returns
returns c = accepted_modules_vouched
