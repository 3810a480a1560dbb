use Rattle.cc_program.proofs.Exact.{fault_is_told}
use Rattle.cc_program.proofs.job_laws.a_fault_is_told.Goals as goal

pub returns : goal.returns
returns c = fault_is_told
