use Rattle.cc_program.proofs.Exact.{only_stale}
use Rattle.cc_program.proofs.job_laws.only_stale_modules_are_judged.Goals as goal

pub returns : goal.returns
returns c = only_stale
