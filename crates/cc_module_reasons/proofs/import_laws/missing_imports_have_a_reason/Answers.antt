use Rattle.cc_module_reasons.proofs.MissingImports.{missing_imports_have_a_reason}
use Rattle.cc_module_reasons.proofs.import_laws.missing_imports_have_a_reason.Goals as goal

pub returns : goal.returns
returns c = missing_imports_have_a_reason
