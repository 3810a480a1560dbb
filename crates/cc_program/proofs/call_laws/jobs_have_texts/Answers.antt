use Rattle.cc_program.proofs.JobTexts as law
use Rattle.cc_program.proofs.call_laws.jobs_have_texts.Goals as goal

pub returns-clause-jobs : goal.returns-clause-jobs
returns-clause-jobs c = law.jobs_have_texts

pub returns-clause-workloads : goal.returns-clause-workloads
returns-clause-workloads c = law.workloads_are_jobs c.workload_items.ensures.items c.workload_items.ensures.names

pub returns-clause-one : goal.returns-clause-one
returns-clause-one c = law.text_of_one_module
