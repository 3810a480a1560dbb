use Rattle.cc_core.specs.Captured.{variable_set}
use Rattle.cc_core.proofs.CallLemmas.{union-nothing}
use Rattle.cc_captured.proofs.captured.operation_variables.Goals as goal

pub returns-in-None : goal.returns-in-None
returns-in-None c = rw c.in-None.is (union-nothing c.variable_set.result (variable_set c.args.receiver) c.variable_set.ensures)
