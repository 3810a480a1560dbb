use Rattle.cc_core.proofs.CallLemmas.{variable-stays}
use Rattle.cc_core.proofs.acting.variable_stays.Goals as goal

pub returns-in-Ok : goal.returns-in-Ok
returns-in-Ok c = λ holds. variable-stays c.in-Ok.acted c.args.variable _ c.same_var.result c.same_var.ensures c.in-Ok.ensures holds
