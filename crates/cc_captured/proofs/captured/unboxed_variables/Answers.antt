use Rattle.std.proofs.Common.{◌∙◌, sym}
use Rattle.cc_capture.proofs.Unions.{empty-union}
use Rattle.cc_core.specs.Captured.{variable_set}
use Rattle.cc_captured.proofs.captured.unboxed_variables.Goals as goal

pub returns-in-None : goal.returns-in-None
returns-in-None c = rw c.in-None.is (c.in_ok-captured.ensures ∙ sym (empty-union (variable_set c.args.content)))
