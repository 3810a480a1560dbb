use Rattle.std.proofs.Common.{sym, ap, ◌∙◌}
use Rattle.cc_capture.proofs.Equality.{same_variable-decides}
use Rattle.cc_core.specs.Shapes.{TypeVariable}
use Rattle.cc_core.proofs.acting.variable_of.Goals as goal

pub returns-then-same_var : goal.returns-then-same_var
returns-then-same_var c =
    ap TypeVariable (sym ((same_variable-decides c.args.acted c.args.variable).0 (sym c.same_var.ensures ∙ c.if-same_var.true)))
