use Rattle.std.proofs.Common.{sym, ◌∙◌}
use Rattle.cc_capture.proofs.Equality.{same_variable-decides}
use Rattle.cc_known.proofs.keys.is_renamed_name.Goals as goal

pub returns : goal.returns
returns c = λ holds.
    (same_variable-decides c.args.other c.in-Some.renamed).0 (sym c.same_var.ensures ∙ holds) ∙ c.in-Some.ensures
