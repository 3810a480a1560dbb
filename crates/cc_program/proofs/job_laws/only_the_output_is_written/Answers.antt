use Rattle.cc_program.proofs.Exact.{only_output}
use Rattle.cc_program.proofs.job_laws.only_the_output_is_written.Goals as goal

pub returns : goal.returns
returns c = only_output
