use Rattle.cc_vouched_programs.proofs.VouchedPrograms.{vouched_programs_run_together}
use Rattle.cc_vouched_programs.proofs.program_laws.vouched_programs_run_together.Goals as goal

pub returns : goal.returns
returns c = vouched_programs_run_together
