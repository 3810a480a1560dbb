use Rattle.std.proofs.Common.{◌∙◌, ap}
use Rattle.cc_capture.specs.declared.var.Elem.TheVariants.{Var as Variable}
use Rattle.cc_capture.specs.Sets.{union}
use Rattle.cc_core.specs.Captured.{variable_set}
use Rattle.cc_core.proofs.CallLemmas.{insert-union}
use Rattle.cc_captured.proofs.captured.either_variables.Goals as goal

pub returns : goal.returns
returns c = c.in_ok-insert.ensures.ok ∙ insert-union (Variable c.args.test) c.in_ok-set.set ∙ ap (union (variable_set c.args.test)) c.in_ok-set.ensures
