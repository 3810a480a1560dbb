use Rattle.cc_workload.proofs.ItemLaws.{workload_items, devices_differ}
use Rattle.cc_workload.proofs.workload_laws.workload_items.Goals as goal

pub returns-clause-names : goal.returns-clause-names
returns-clause-names c = devices_differ

pub returns-clause-items : goal.returns-clause-items
returns-clause-items c = workload_items
