-- The verdict of a text, from what the calls for its parts answer.
use Rattle.std.proofs.Common.{◌≡◌, ℕ, List, map, length, Some, None, sym, ap, ◌∙◌, subst, Result, IfOk}
use Rattle.std.proofs.lemmas.Result.{IfOk-weaker}
use Rattle.std.specs.List.{AllByRecursion}
use Rattle.std.specs.declared.alloc.AllocError.{AllocError}
use Rattle.cc_base.specs.declared.code.Diag.{Diag}
use Rattle.cc_base.specs.declared.device.DeviceDecl.{DeviceDecl}
use Rattle.cc_base.specs.declared.literal.Import.{Import}
use Rattle.cc_core.specs.declared.terms.CoreDef.{CoreDef}
use Rattle.cc_core.proofs.Lookups.{length_map}
use Rattle.cc_grammar.specs.Syntax.{ModuleSyntax}
use Rattle.cc_mnf.specs.CoreModules.{definition_of, core_module}
use Rattle.cc_mnf.specs.declared.elaborate.CoreModule.{CoreModule as DeclaredModule}
use Rattle.cc_mnf.specs.ElaboratedModules.{elaboration, device_names}
use Rattle.cc_mnf.specs.ElaboratedModules as elaborated
use Rattle.cc_parse.specs.declared.tree.Module.{Module}
use Rattle.cc_parse.specs.Trees.{import_syntax, module_syntax}
use Rattle.cc_verdicts.specs.ModuleLaws.{AreFit, FitsDevices, NamesOfDevicesDiffer}
use Rattle.cc_verdicts.specs.ModuleVerdicts.{Finding, ModuleVerdict, IsAccepted, IsRefused, first_missing, declared_context, with_findings, AreJudged, HasModuleVerdict, is_no_module, import_is_missing, is_not_elaborated, is_judged}
use Rattle.cc_verdicts.specs.ReadyDefinitions.{AreReady}
use Rattle.cc_verdicts.specs.Readings.{IsTree, IsNoModule, HasReading, reading_of_text}
use Rattle.cc_verdicts.proofs.GlobalContexts.{module_ready}
use Rattle.cc_verdicts.proofs.ModuleVerdictLaws.{accepted_modules_are_sound}
use Rattle.cc_verdicts.proofs.ReadingLaws.{text_has_one_reading}
use Rattle.cc_module.specs.declared.finding.Finding.{Finding as DeclaredFinding}
use Rattle.cc_module.specs.declared.judgement.ModuleVerdict.{ModuleVerdict as DeclaredVerdict}
use Rattle.cc_text_reading.specs.declared.reading.TextReading.{TextReading as DeclaredReading}
use Rattle.cc_text_reading.specs.declared.reading.TextReading.TheVariants as readings
use Rattle.cc_module.specs.Findings.{finding_of}
use Rattle.cc_module.specs.Judgements.{module_verdict_of, refusal_of, IsSoundIfAccepted}
use Rattle.cc_text_reading.specs.TextReadings.{text_reading_of}

-- elaborated definitions are ready
pub core_ready : (devices : List DeviceDecl) (tree : Module) (findings : List DeclaredFinding) (core : DeclaredModule)
    (defs : List CoreDef) → length findings ≡ length tree.imports.items
    → AllByRecursion (FitsDevices devices) (map finding_of findings)
    → first_missing (module_syntax tree).imports (map finding_of findings) ≡ None
    → elaboration (device_names devices) (module_syntax tree) ≡ elaborated.IsElaborated (core_module core)
    → defs ≡ core.defs.items
    → AreReady (with_findings (declared_context devices) (map finding_of findings)) (map definition_of defs)
core_ready devices tree findings core defs each fit found e is =
    subst (λ l. AreReady (with_findings (declared_context devices) (map finding_of findings)) (map definition_of l)) (sym is)
    (module_ready devices (module_syntax tree) (map finding_of findings) (core_module core)
    (length_map finding_of findings ∙ each ∙ sym (length_map import_syntax tree.imports.items)) fit found e)

pub core_judged : (devices : List DeviceDecl) (tree : Module) (findings : List DeclaredFinding) (core : DeclaredModule)
    (defs : List CoreDef) (answer : Result DeclaredVerdict AllocError)
    → first_missing (module_syntax tree).imports (map finding_of findings) ≡ None
    → elaboration (device_names devices) (module_syntax tree) ≡ elaborated.IsElaborated (core_module core)
    → defs ≡ core.defs.items
    → IfOk answer (λ v. AreJudged (length devices) (with_findings (declared_context devices) (map finding_of findings)) (map definition_of defs) (module_verdict_of v))
    → IfOk answer (λ v. (text : List ℕ) → HasReading text (IsTree (module_syntax tree)) → HasModuleVerdict devices text (map finding_of findings) (module_verdict_of v))
core_judged devices tree findings core defs answer found e is judged =
    IfOk-weaker answer _ _
    (λ v j text reading. is_judged reading found e
    (subst (λ l. AreJudged (length devices) (with_findings (declared_context devices) (map finding_of findings)) (map definition_of l) (module_verdict_of v)) is j))
    judged

pub core_refused : (devices : List DeviceDecl) (tree : ModuleSyntax) (findings : List Finding) (diag : Diag) (v : ModuleVerdict)
    → first_missing tree.imports findings ≡ None
    → elaboration (device_names devices) tree ≡ elaborated.IsRefused diag.code diag.place
    → v ≡ IsRefused diag.code diag.place → (text : List ℕ) → HasReading text (IsTree tree)
    → HasModuleVerdict devices text findings v
core_refused devices tree findings diag v found e refused text reading =
    subst (HasModuleVerdict devices text findings) (sym refused) (is_not_elaborated reading found e)

pub import_refused : (devices : List DeviceDecl) (tree : Module) (findings : List DeclaredFinding) (imports : List Import)
    (diag : Diag) (v : ModuleVerdict) → imports ≡ tree.imports.items
    → Some (refusal_of diag) ≡ first_missing (map import_syntax imports) (map finding_of findings)
    → v ≡ IsRefused diag.code diag.place → (text : List ℕ) → HasReading text (IsTree (module_syntax tree))
    → HasModuleVerdict devices text (map finding_of findings) v
import_refused devices tree findings imports diag v same is refused text reading =
    subst (HasModuleVerdict devices text (map finding_of findings)) (sym refused)
    (import_is_missing {missing = refusal_of diag} reading
    (ap (λ l. first_missing (map import_syntax l) (map finding_of findings)) (sym same) ∙ sym is))

pub tree_judged : (devices : List DeviceDecl) (text : List ℕ) (findings : List Finding) (reading : DeclaredReading)
    (tree : Module) (answer : Result DeclaredVerdict AllocError) → reading ≡ readings.Tree tree
    → text_reading_of reading ≡ reading_of_text text
    → IfOk answer (λ v. (text : List ℕ) → HasReading text (IsTree (module_syntax tree)) → HasModuleVerdict devices text findings (module_verdict_of v))
    → IfOk answer (λ v. HasModuleVerdict devices text findings (module_verdict_of v))
tree_judged devices text findings reading tree answer is read judged =
    IfOk-weaker answer _ _
    (λ v h. h text ((text_has_one_reading text (IsTree (module_syntax tree))).1 (ap text_reading_of (sym is) ∙ read)))
    judged

pub no_module_refused : (devices : List DeviceDecl) (text : List ℕ) (findings : List Finding) (reading : DeclaredReading)
    (diag : Diag) (v : ModuleVerdict) → reading ≡ readings.NoModule diag → text_reading_of reading ≡ reading_of_text text
    → v ≡ IsRefused diag.code diag.place → HasModuleVerdict devices text findings v
no_module_refused devices text findings reading diag v is read refused =
    subst (HasModuleVerdict devices text findings) (sym refused)
    (is_no_module ((text_has_one_reading text (IsNoModule diag.code diag.place)).1 (ap text_reading_of (sym is) ∙ read)))

-- the definitions of an accepted module are sound
sound_if_accepted : (devices : List DeviceDecl) (text : List ℕ) (findings : List Finding) (v : ModuleVerdict)
    → NamesOfDevicesDiffer devices → AreFit devices text findings → HasModuleVerdict devices text findings v
    → IsSoundIfAccepted devices findings v
sound_if_accepted devices text findings (IsAccepted checked) names fit has =
    accepted_modules_are_sound devices text findings checked names fit has
sound_if_accepted devices text findings (IsRefused code at) names fit has = tt

pub answered_sound : (devices : List DeviceDecl) (text : List ℕ) (findings : List Finding)
    (answer : Result DeclaredVerdict AllocError) → NamesOfDevicesDiffer devices → AreFit devices text findings
    → IfOk answer (λ v. HasModuleVerdict devices text findings (module_verdict_of v))
    → IfOk answer (λ v. IsSoundIfAccepted devices findings (module_verdict_of v))
answered_sound devices text findings answer names fit has =
    IfOk-weaker answer _ _ (λ v h. sound_if_accepted devices text findings (module_verdict_of v) names fit h) has
