use Rattle.cc_program.proofs.CallsInBytes as law
use Rattle.cc_program.proofs.call_laws.workloads_in_bytes.Goals as goal

pub returns-clause-calls : goal.returns-clause-calls
returns-clause-calls c = law.workloads_in_bytes c.workloads_end_clean.ensures.clean

pub returns-clause-summaries : goal.returns-clause-summaries
returns-clause-summaries c = law.summaries_in_bytes
