-- How the reason of a module is told, line by line.
use Rattle.std.specs.Prelude.{◌≡◌, ℕ, List}
use Rattle.cc_elaboration_reasons.specs.ElaborationReasonTexts.{elaboration_cause_lines}
use Rattle.cc_module_reasons.specs.ImportReasonTexts.{import_reason_lines}
use Rattle.cc_module_reasons.specs.ModuleReasons.{ModuleReason, OfText, OfImport, OfElaboration, OfDefinition}
use Rattle.cc_reasons.specs.ReasonTexts.{AreLines}
use Rattle.cc_text_reasons.specs.TextReasonTexts.{text_reason_lines}

-- these are the lines of the reason, where so many devices are declared
abbrev pub AreModuleLines : ℕ → ModuleReason → List (List ℕ) → Type 0
AreModuleLines devices (OfText reason) lines = lines ≡ text_reason_lines reason
AreModuleLines devices (OfImport reason) lines = lines ≡ import_reason_lines reason
AreModuleLines devices (OfElaboration cause) lines = lines ≡ elaboration_cause_lines cause
AreModuleLines devices (OfDefinition reason names) lines = AreLines devices names reason lines
