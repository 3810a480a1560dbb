-- What is found of a tree, from what the calls for its parts answer.
use Rattle.std.proofs.Common.{◌≡◌, ℕ, Bool, true, false, ◌&&◌, List, [], ◌∷◌, ◌++◌, map, length, Option, Some, None, Result, refl, sym, ap, subst, ◌∙◌, arith}
use Rattle.std.proofs.lemmas.Result.{IfOk-weaker}
use Rattle.std.specs.List.{AllByRecursion, list_all}
use Rattle.std.specs.Option.{is_none, unwrap_or}
use Rattle.std.specs.Prelude.{IfOk, ◌↔◌}
use Rattle.std.specs.declared.alloc.AllocError.{AllocError}
use Rattle.cc_base.specs.declared.code.Code.{Code}
use Rattle.cc_base.specs.declared.code.Diag.{Diag}
use Rattle.cc_base.specs.declared.device.DeviceDecl.{DeviceDecl}
use Rattle.cc_base.specs.declared.place.Place.{Place}
use Rattle.cc_core.proofs.Lookups.{length_map}
use Rattle.cc_core.specs.declared.terms.CoreDef.{CoreDef}
use Rattle.cc_grammar.specs.Syntax.{ImportSyntax}
use Rattle.cc_mnf.specs.CoreModules.{definition_of, core_module}
use Rattle.cc_mnf.specs.ElaboratedModules.{elaboration, device_names, import_names}
use Rattle.cc_mnf.specs.ElaboratedModules as elaborated
use Rattle.cc_mnf.specs.declared.elaborate.CoreModule.{CoreModule as DeclaredModule}
use Rattle.cc_module.specs.Findings.{finding_of}
use Rattle.cc_text_reading.specs.TextReadings.{text_reading_of}
use Rattle.cc_module.specs.declared.finding.Finding.{Finding as DeclaredFinding}
use Rattle.cc_text_reading.specs.declared.reading.TextReading.{TextReading as DeclaredReading}
use Rattle.cc_text_reading.specs.declared.reading.TextReading.TheVariants as readings
use Rattle.cc_parse.specs.Trees.{def_syntax, import_syntax, module_syntax}
use Rattle.cc_parse.specs.declared.tree.Module.{Module}
use Rattle.cc_reasons.specs.RefusedDefinitions.{names_of_binders}
use Rattle.cc_verdicts.proofs.GlobalContexts.{module_ready}
use Rattle.cc_verdicts.proofs.ReadingLaws.{text_has_one_reading}
use Rattle.cc_verdicts.specs.ModuleLaws.{AreFit, FitsDevices}
use Rattle.cc_verdicts.specs.ModuleVerdicts.{Finding, ModuleVerdict, Refusal, code_of, missing_or, first_missing, declared_context, with_findings}
use Rattle.cc_verdicts.specs.PresentTexts.{Texts, findings_for}
use Rattle.cc_verdicts.specs.ReadyDefinitions.{AreReady}
use Rattle.cc_verdicts.specs.Readings.{IsTree, IsNoModule, HasReading, imports_in, reading_of_text}
use Rattle.cc_why.proofs.FoundReasons.{as_many, text_told, imports_told, cause_told, definitions_told}
use Rattle.cc_why.specs.ToldReasons.{is_found, TellsReason, TellsText, TellsImports, TellsElaboration, TellsDefinitions}
use Rattle.cc_why.specs.declared.why.ReasonLines.{ReasonLines}

-- IMPORTS

missing_by : (at : Place) (code : Option Code) (rest : Bool) (later : Option Refusal) → (rest ≡ true) ↔ (later ≡ None)
    → ((is_none code && rest) ≡ true) ↔ (missing_or at code later ≡ None)
missing_by at (Some code) rest later both = (λ e. cc, λ e. cc)
missing_by at None rest later both = both

-- where a definition is found each time, no import is missing
pub none_missing : (findings : List DeclaredFinding) (imports : List ImportSyntax) → length imports ≡ length findings
    → (list_all (λ one. is_found (finding_of one)) findings ≡ true) ↔ (first_missing imports (map finding_of findings) ≡ None)
none_missing [] [] even = (λ e. refl, λ e. refl)
none_missing [] (one ∷ imports) even = absurd (omega arith)
none_missing (finding ∷ findings) [] even = absurd (omega arith)
none_missing (finding ∷ findings) (one ∷ imports) even =
    missing_by one.at (code_of (finding_of finding)) (list_all (λ it. is_found (finding_of it)) findings)
    (first_missing imports (map finding_of findings)) (none_missing findings imports (omega arith))

-- DEFINITIONS

module _ (devices : List DeviceDecl) (tree : Module) (findings : List DeclaredFinding) where
  -- it is told of the tree, where its text is this and this is found for its imports
  abbrev pub TellsTree : Option ReasonLines → Type 0
  TellsTree told =
      (texts : Texts) (all : List ℕ → ModuleVerdict) (name text : List ℕ) → HasReading text (IsTree (module_syntax tree))
      → map finding_of findings ≡ findings_for texts all name text → TellsReason devices texts all name text told

  module _ (found : first_missing (module_syntax tree).imports (map finding_of findings) ≡ None) where
    found_by : (texts : Texts) (all : List ℕ → ModuleVerdict) (name text : List ℕ) → map finding_of findings ≡ findings_for texts all name text
        → first_missing (module_syntax tree).imports (findings_for texts all name text) ≡ None
    found_by texts all name text are = ap (first_missing (module_syntax tree).imports) (sym are) ∙ found

    pub cause_found : (diag : Diag) (answer : Result (Option ReasonLines) AllocError)
        → elaboration (device_names devices) (module_syntax tree) ≡ elaborated.IsRefused diag.code diag.place
        → IfOk answer (TellsElaboration devices (module_syntax tree)) → IfOk answer TellsTree
    cause_found diag answer refused =
        IfOk-weaker answer _ _
        (λ told it texts all name text reads are.
        cause_told devices texts all name text (module_syntax tree) reads (found_by texts all name text are) diag.code diag.place refused told it)

    module _ (core : DeclaredModule) (defs : List CoreDef) (same : defs ≡ core.defs.items)
        (elaborates : elaboration (device_names devices) (module_syntax tree) ≡ elaborated.IsElaborated (core_module core)) where
      pub definitions_even : length tree.defs.items ≡ length defs
      definitions_even =
          sym (length_map def_syntax tree.defs.items)
          ∙ as_many (device_names devices) (module_syntax tree) (core_module core) elaborates
          ∙ length_map definition_of core.defs.items ∙ ap length (sym same)

      module _ (each : length findings ≡ length tree.imports.items) (fit : AllByRecursion (FitsDevices devices) (map finding_of findings)) where
        ready : AreReady (with_findings (declared_context devices) (map finding_of findings)) (map definition_of core.defs.items)
        ready =
            module_ready devices (module_syntax tree) (map finding_of findings) (core_module core)
            (length_map finding_of findings ∙ each ∙ sym (length_map import_syntax tree.imports.items)) fit found elaborates

        pub definitions_ready : AreReady (with_findings (declared_context devices) (map finding_of findings)) (map definition_of defs)
        definitions_ready =
            subst (λ ds. AreReady (with_findings (declared_context devices) (map finding_of findings)) (map definition_of ds)) (sym same) ready

        -- what is told of the definitions, where this is found for the imports
        abbrev TellsThem : List Finding → Option ReasonLines → Type 0
        TellsThem list =
            TellsDefinitions (length devices) (with_findings (declared_context devices) list)
            (device_names devices ++ import_names (module_syntax tree).imports) (core_module core).definitions
            (names_of_binders (module_syntax tree).defs)

        pub definitions_found : (answer : Result (Option ReasonLines) AllocError)
            → IfOk answer (TellsDefinitions (length devices) (with_findings (declared_context devices) (map finding_of findings))
            (device_names devices ++ import_names (map import_syntax tree.imports.items)) (map definition_of defs)
            (names_of_binders (map def_syntax tree.defs.items)))
            → IfOk answer TellsTree
        definitions_found answer =
            IfOk-weaker answer _ _
            (λ told it texts all name text reads are.
            definitions_told devices texts all name text (module_syntax tree) reads (found_by texts all name text are) (core_module core) elaborates
            (subst (λ list. AreReady (with_findings (declared_context devices) list) (core_module core).definitions) are ready) told
            (subst (λ list. TellsThem list told) are
            (subst (λ ds.
            TellsDefinitions (length devices) (with_findings (declared_context devices) (map finding_of findings))
            (device_names devices ++ import_names (map import_syntax tree.imports.items)) (map definition_of ds)
            (names_of_binders (map def_syntax tree.defs.items)) told) same it)))

-- TEXTS

-- the reading of a tree
pub tree_read : (text : List ℕ) (reading : DeclaredReading) (tree : Module) → reading ≡ readings.Tree tree
    → text_reading_of reading ≡ reading_of_text text → HasReading text (IsTree (module_syntax tree))
tree_read text reading tree is read =
    (text_has_one_reading text (IsTree (module_syntax tree))).1 (ap text_reading_of (sym is) ∙ read)

-- the reading of what is no module
pub none_read : (text : List ℕ) (reading : DeclaredReading) (diag : Diag) → reading ≡ readings.NoModule diag
    → text_reading_of reading ≡ reading_of_text text → IsNoModule diag.code diag.place ≡ reading_of_text text
none_read text reading diag is read = ap text_reading_of (sym is) ∙ read

-- findings that fit the text of a tree are one for each import, over the devices
pub fits_tree : (devices : List DeviceDecl) (text : List ℕ) (tree : Module) (findings : List DeclaredFinding)
    → HasReading text (IsTree (module_syntax tree)) → AreFit devices text (map finding_of findings)
    → (length findings ≡ length tree.imports.items) × AllByRecursion (FitsDevices devices) (map finding_of findings)
fits_tree devices text tree findings reads fit = (
  sym (length_map finding_of findings) ∙ fit.one_each
      ∙ ap (λ r. length (unwrap_or (imports_in r) [])) (sym ((text_has_one_reading text (IsTree (module_syntax tree))).0 reads))
      ∙ length_map import_syntax tree.imports.items,
  fit.over_devices,
)
