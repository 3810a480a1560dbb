use Rattle.cc_vouching_laws.proofs.OneSubmission.{one_submission}
use Rattle.cc_vouching_laws.proofs.submission_laws.bytes_are_one_submission.Goals as goal

pub returns : goal.returns
returns c = one_submission
