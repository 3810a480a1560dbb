use Rattle.std.proofs.Common.{refl}
use Rattle.std.specs.Fmt.{digits}
use Rattle.cc_workload.proofs.workload_laws.worked_workloads.Goals as goal

pub returns-clause-one : goal.returns-clause-one
unfolding digits
returns-clause-one c = refl

pub returns-clause-first_of_three : goal.returns-clause-first_of_three
unfolding digits
returns-clause-first_of_three c = refl

pub returns-clause-last_of_three : goal.returns-clause-last_of_three
unfolding digits
returns-clause-last_of_three c = refl

pub returns-clause-entry_of_three : goal.returns-clause-entry_of_three
unfolding digits
returns-clause-entry_of_three c = refl

pub returns-clause-last_of_most : goal.returns-clause-last_of_most
unfolding digits
returns-clause-last_of_most c = refl
