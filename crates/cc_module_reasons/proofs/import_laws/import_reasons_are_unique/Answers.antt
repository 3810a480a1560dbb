use Rattle.cc_module_reasons.proofs.MissingImports.{import_reasons_are_unique}
use Rattle.cc_module_reasons.proofs.import_laws.import_reasons_are_unique.Goals as goal

pub returns : goal.returns
returns c = import_reasons_are_unique
