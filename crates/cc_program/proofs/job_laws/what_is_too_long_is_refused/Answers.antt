use Rattle.cc_program.proofs.Exact.{too_long_is_refused}
use Rattle.cc_program.proofs.job_laws.what_is_too_long_is_refused.Goals as goal

pub returns : goal.returns
returns c = too_long_is_refused
