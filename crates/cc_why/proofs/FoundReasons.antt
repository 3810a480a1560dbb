-- What is found of a text, of imports, of elaboration and of definitions is what there is to tell of a module.
use Rattle.std.proofs.Common.{◌≡◌, ℕ, List, [], ◌++◌, map, length, Option, Some, None, sym, ap, subst, ◌∙◌}
use Rattle.std.specs.Option.{unwrap_or}
use Rattle.cc_base.specs.declared.code.Code.{Code}
use Rattle.cc_base.specs.declared.device.DeviceDecl.{DeviceDecl}
use Rattle.cc_base.specs.declared.place.Place.{Place}
use Rattle.cc_core.proofs.Lookups.{length_map}
use Rattle.cc_elaboration_reasons.proofs.FirstRefusals.{refusals_have_a_cause}
use Rattle.cc_elaboration_reasons.specs.ElaborationCauses.{ElaborationCause, refused}
use Rattle.cc_grammar.specs.Syntax.{ModuleSyntax}
use Rattle.cc_mnf.proofs.ElaboratedDefinitions.{definitions_are_in_order}
use Rattle.cc_mnf.specs.ElaboratedModules.{CoreModule, elaboration, device_names, import_names}
use Rattle.cc_mnf.specs.ElaboratedModules as elaborated
use Rattle.cc_mnf.specs.ElaborationLaws.{heading, heading_in_text}
use Rattle.cc_mnf.specs.Scopes.{Name}
use Rattle.cc_module_reasons.proofs.OneModuleReason.{accepted_modules_have_no_reason}
use Rattle.cc_module_reasons.specs.ModuleReasons.{ModuleReason, OfText, OfImport, OfElaboration, OfDefinition, IsReason, of_text, of_import, of_elaboration, of_definition}
use Rattle.cc_reasons.proofs.RefusedModules.{refused_definitions_have_a_reason}
use Rattle.cc_reasons.specs.DefinitionReasons.{DefinitionReason}
use Rattle.cc_reasons.specs.RefusedDefinitions.{names_of_binders, IsRefusedFirst, IsOfDefinition}
use Rattle.cc_verdicts.proofs.JudgedDefinitions.{judged_exist}
use Rattle.cc_verdicts.proofs.ReadingLaws.{text_has_one_reading}
use Rattle.cc_verdicts.specs.ModuleVerdicts.{Finding, ModuleVerdict, IsAccepted, IsRefused, first_missing, declared_context, with_findings, AreJudged, is_judged}
use Rattle.cc_verdicts.specs.PresentTexts.{Texts, finding_for, findings_for}
use Rattle.cc_verdicts.specs.ReadyDefinitions.{AreReady}
use Rattle.cc_verdicts.specs.Readings.{IsTree, IsNoModule, HasReading, imports_in, reading_of_text}
use Rattle.cc_why.specs.ToldReasons.{TellsReason, TellsText, TellsImports, TellsElaboration, TellsDefinitions}
use Rattle.cc_why.specs.declared.why.ReasonLines.{ReasonLines}

same_tree : {one other : ModuleSyntax} → IsTree one ≡ IsTree other → one ≡ other
same_tree e = cc

same_core : {one other : CoreModule} → elaborated.IsElaborated one ≡ elaborated.IsElaborated other → one ≡ other
same_core e = cc

-- a text has one tree
one_tree : (text : List ℕ) (one other : ModuleSyntax) → HasReading text (IsTree one) → HasReading text (IsTree other) → one ≡ other
one_tree text one other reads also =
    same_tree ((text_has_one_reading text (IsTree one)).0 reads ∙ sym ((text_has_one_reading text (IsTree other)).0 also))

no_tree : (tree : ModuleSyntax) (code : Code) (at : Place) → IsTree tree ≡ IsNoModule code at → ⊥
no_tree tree code at e = cc

not_refused : (cause : ElaborationCause) (at : Place) → None ≡ refused cause at → ⊥
not_refused cause at e = cc

-- an elaborated module has a definition for each of the text
pub as_many : (devices : List Name) (tree : ModuleSyntax) (core : CoreModule) → elaboration devices tree ≡ elaborated.IsElaborated core
    → length tree.defs ≡ length core.definitions
as_many devices tree core elaborates =
    sym (length_map heading_in_text tree.defs)
    ∙ ap length (sym ((definitions_are_in_order devices tree core elaborates).1))
    ∙ length_map heading core.definitions

module _ (devices : List DeviceDecl) (texts : Texts) (all : List ℕ → ModuleVerdict) (name text : List ℕ) where
  -- what is found for the imports of the tree
  pub found_of_tree : (tree : ModuleSyntax) → HasReading text (IsTree tree)
      → findings_for texts all name text ≡ map (finding_for texts all name) tree.imports
  found_of_tree tree reads =
      ap (λ r. map (finding_for texts all name) (unwrap_or (imports_in r) [])) (sym ((text_has_one_reading text (IsTree tree)).0 reads))

  pub text_told : (code : Code) (at : Place) → IsNoModule code at ≡ reading_of_text text → (told : Option ReasonLines)
      → TellsText text told → TellsReason devices texts all name text told
  text_told code at read (Some told) (reason, place, has, lines) = (OfText reason, place, of_text has, lines)
  text_told code at read None (tree, reads) =
      absurd (no_tree tree code at ((text_has_one_reading text (IsTree tree)).0 reads ∙ sym read))

  pub imports_told : (tree : ModuleSyntax) → HasReading text (IsTree tree)
      → (first_missing tree.imports (findings_for texts all name text) ≡ None → ⊥) → (told : Option ReasonLines)
      → TellsImports texts all name tree.imports told → TellsReason devices texts all name text told
  imports_told tree reads missing (Some told) (reason, at, first, lines) =
      (OfImport reason, at, of_import (record { tree = tree; reads = reads; first = first }), lines)
  imports_told tree reads missing None none = absurd (missing (ap (first_missing tree.imports) (found_of_tree tree reads) ∙ none))

  module _ (tree : ModuleSyntax) (reads : HasReading text (IsTree tree))
      (found : first_missing tree.imports (findings_for texts all name text) ≡ None) where
    pub cause_told : (code : Code) (at : Place) → elaboration (device_names devices) tree ≡ elaborated.IsRefused code at
        → (told : Option ReasonLines) → TellsElaboration devices tree told → TellsReason devices texts all name text told
    cause_told code at elaborates (Some told) (cause, place, first, lines) =
        (OfElaboration cause, place, of_elaboration (record { tree = tree; reads = reads; found = found; first = first }), lines)
    cause_told code at elaborates None none =
        let (cause, same, first) = refusals_have_a_cause (device_names devices) tree code at elaborates in
        absurd (not_refused cause at (sym none ∙ first))

    module _ (core : CoreModule) (elaborates : elaboration (device_names devices) tree ≡ elaborated.IsElaborated core) where
      -- the first of the definitions that is refused is for the reason
      abbrev FirstIs : ModuleSyntax → CoreModule → DefinitionReason → Place → List Name → Type 0
      FirstIs t c reason at inside =
          IsRefusedFirst (length devices) (with_findings (declared_context devices) (findings_for texts all name text))
          (device_names devices ++ import_names t.imports) c.definitions (names_of_binders t.defs) reason at inside

      first_of : (reason : DefinitionReason) (at : Place) (inside : List Name)
          → IsOfDefinition devices text (findings_for texts all name text) reason at inside → FirstIs tree core reason at inside
      first_of reason at inside it =
          let trees : it.tree ≡ tree = one_tree text it.tree tree it.reads reads in
          let cores : it.core ≡ core = same_core (sym it.elaborates ∙ ap (elaboration (device_names devices)) trees ∙ elaborates) in
          subst (λ (t : ModuleSyntax). FirstIs t core reason at inside) trees
          (subst (λ (c : CoreModule). FirstIs it.tree c reason at inside) cores it.first)

      none_refused : ((reason : DefinitionReason) (at : Place) (inside : List Name) → FirstIs tree core reason at inside → ⊥)
          → (verdict : ModuleVerdict)
          → AreJudged (length devices) (with_findings (declared_context devices) (findings_for texts all name text)) core.definitions verdict
          → (reason : ModuleReason) (at : Place) → IsReason devices texts all name text reason at → ⊥
      none_refused none (IsAccepted definitions) judged reason at is =
          accepted_modules_have_no_reason devices texts all name text definitions reason at (is_judged reads found elaborates judged) is
      none_refused none (IsRefused code place) judged reason at is =
          let (why, inside, same, it) = refused_definitions_have_a_reason devices text (findings_for texts all name text) tree core code place
          reads found elaborates judged in
          none why place inside (first_of why place inside it)

      pub definitions_told : AreReady (with_findings (declared_context devices) (findings_for texts all name text)) core.definitions
          → (told : Option ReasonLines)
          → TellsDefinitions (length devices) (with_findings (declared_context devices) (findings_for texts all name text))
          (device_names devices ++ import_names tree.imports) core.definitions (names_of_binders tree.defs) told
          → TellsReason devices texts all name text told
      definitions_told ready (Some told) (reason, at, inside, first, lines) = (
        OfDefinition reason inside,
        at,
        of_definition (record { tree = tree; core = core; reads = reads; found = found; elaborates = elaborates; first = first }),
        lines,
      )
      definitions_told ready None none =
          let (verdict, judged) = judged_exist (length devices)
          (with_findings (declared_context devices) (findings_for texts all name text)) core.definitions ready in
          none_refused none verdict judged
