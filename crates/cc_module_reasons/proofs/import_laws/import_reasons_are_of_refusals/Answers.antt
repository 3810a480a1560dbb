use Rattle.cc_module_reasons.proofs.MissingImports.{import_reasons_are_of_refusals}
use Rattle.cc_module_reasons.proofs.import_laws.import_reasons_are_of_refusals.Goals as goal

pub returns : goal.returns
returns c = import_reasons_are_of_refusals
