-- A module that is refused has one reason, with the code and the place of its verdict.
use Rattle.std.proofs.Common.{◌≡◌, ℕ, List, refl, sym, ap, subst, ◌∙◌, arith}
use Rattle.cc_base.specs.declared.code.Code.{Code}
use Rattle.cc_base.specs.declared.code.Code.TheVariants.{E01, E02, E03, E04, E05, E06, E07, E08, E09, E10, E11, E12, E19}
use Rattle.cc_base.specs.declared.device.DeviceDecl.{DeviceDecl}
use Rattle.cc_base.specs.declared.place.Place.{Place}
use Rattle.cc_elaboration_reasons.proofs.TextRefusals.{causes_are_of_verdicts, refused_modules_have_a_cause, causes_of_modules_are_unique}
use Rattle.cc_elaboration_reasons.specs.ElaborationCauses as elaboration
use Rattle.cc_elaboration_reasons.specs.ElaborationCauses.{ElaborationCause}
use Rattle.cc_module_reasons.proofs.MissingImports.{import_reasons_are_of_refusals, missing_imports_have_a_reason, import_reasons_are_unique}
use Rattle.cc_text_reasons.proofs.RefusedTexts.{text_reasons_are_of_refusals, refused_texts_have_a_reason, text_reasons_are_unique}
use Rattle.cc_module_reasons.specs.ImportReasons as imports
use Rattle.cc_module_reasons.specs.ImportReasons.{ImportReason, import_code}
use Rattle.cc_module_reasons.specs.ModuleReasons.{ModuleReason, OfText, OfImport, OfElaboration, OfDefinition, module_code, IsReason, of_text, of_import, of_elaboration, of_definition, ModuleReasonsAreOfRefusals, RefusedModulesHaveAReason, ModuleReasonsAreUnique, AcceptedModulesHaveNoReason}
use Rattle.cc_text_reasons.specs.TextReasons as texts
use Rattle.cc_text_reasons.specs.TextReasons.{TextReason, text_code}
use Rattle.cc_reasons.proofs.RefusedModules.{reasons_of_definitions_are_of_refusals, refused_definitions_have_a_reason, reasons_of_definitions_are_unique}
use Rattle.cc_reasons.specs.Causes as causes
use Rattle.cc_reasons.specs.Causes.{Cause}
use Rattle.cc_reasons.specs.DefinitionReasons as definitions
use Rattle.cc_reasons.specs.DefinitionReasons.{DefinitionReason, code_of_reason}
use Rattle.cc_verdicts.proofs.ModuleVerdictLaws.{verdicts_are_unique}
use Rattle.cc_verdicts.specs.ModuleVerdicts.{CheckedDefinition, ModuleVerdict, IsAccepted, IsRefused, HasModuleVerdict, is_no_module, import_is_missing, is_not_elaborated, is_judged, AreJudged}
use Rattle.cc_verdicts.specs.PresentTexts.{Texts, findings_for}

pub module_reasons_are_of_refusals : ModuleReasonsAreOfRefusals
module_reasons_are_of_refusals devices texts verdicts name text reason at (of_text it) = is_no_module (text_reasons_are_of_refusals text _ at it)
module_reasons_are_of_refusals devices texts verdicts name text reason at (of_import it) = import_reasons_are_of_refusals devices texts verdicts name text _ at it
module_reasons_are_of_refusals devices texts verdicts name text reason at (of_elaboration it) =
    causes_are_of_verdicts devices text (findings_for texts verdicts name text) _ at it
module_reasons_are_of_refusals devices texts verdicts name text reason at (of_definition it) =
    reasons_of_definitions_are_of_refusals devices text (findings_for texts verdicts name text) _ at _ it

code_same : {one other : Code} {at place : Place} → IsRefused one at ≡ IsRefused other place → one ≡ other
code_same e = cc

place_same : {one other : Code} {at place : Place} → IsRefused one at ≡ IsRefused other place → at ≡ place
place_same e = cc

module _ (devices : List DeviceDecl) (texts : Texts) (verdicts : List ℕ → ModuleVerdict) (name text : List ℕ) where
  -- the module has a reason with the code at the place
  abbrev HasSome : Code → Place → Type 0
  HasSome code at = (reason : ModuleReason) × (code ≡ module_code reason) × IsReason devices texts verdicts name text reason at

  moved : (code other : Code) (at place : Place) → IsRefused code at ≡ IsRefused other place → HasSome code at → HasSome other place
  moved code other at place e it = subst (λ c. HasSome c place) (code_same e) (subst (HasSome code) (place_same e) it)

  some_reason : (verdict : ModuleVerdict) (code : Code) (at : Place) → verdict ≡ IsRefused code at
      → HasModuleVerdict devices text (findings_for texts verdicts name text) verdict → HasSome code at
  some_reason verdict code at e (is_no_module reads) =
      let (reason, same, it) = refused_texts_have_a_reason text _ _ reads in
      moved _ code _ at e (OfText reason, same, of_text it)
  some_reason verdict code at e (import_is_missing {tree = tree} {missing = missing} reads first) =
      let (reason, same, it) = missing_imports_have_a_reason texts verdicts name text tree missing reads first in
      moved _ code _ at e (OfImport reason, same, of_import it)
  some_reason verdict code at e (is_not_elaborated {tree = tree} reads found refused) =
      let (cause, same, it) = refused_modules_have_a_cause devices text (findings_for texts verdicts name text) tree _ _ reads found refused in
      moved _ code _ at e (OfElaboration cause, same, of_elaboration it)
  some_reason verdict code at e (is_judged {tree = tree} {core = core} reads found elaborates judged) =
      let (reason, names, same, it) = refused_definitions_have_a_reason devices text (findings_for texts verdicts name text) tree core code at
      reads found elaborates (subst (AreJudged _ _ core.definitions) e judged) in
      (OfDefinition reason names, same, of_definition it)

pub refused_modules_have_a_reason : RefusedModulesHaveAReason
refused_modules_have_a_reason devices texts verdicts name text code at it = some_reason devices texts verdicts name text (IsRefused code at) code at refl it

-- codes belong to texts, to imports, to elaboration or to definitions
abbrev class : Code → ℕ
class E01 = 0
class E02 = 0
class E03 = 0
class E04 = 0
class E05 = 1
class E06 = 1
class E07 = 1
class E08 = 1
class E09 = 2
class E10 = 2
class E11 = 2
class E12 = 2
class E19 = 2
class _ = 3

of_texts : (reason : TextReason) → class (text_code reason) ≡ 0
of_texts (texts.NotUtf8 byte) = refl
of_texts (texts.Broken break) = refl
of_texts (texts.Unwanted found wanted) = refl
of_texts texts.TooHigh = refl

of_imports : (reason : ImportReason) → class (import_code reason) ≡ 1
of_imports (imports.NoModule missing) = refl
of_imports (imports.NoDefinition missing) = refl
of_imports (imports.RefusedModule missing code at) = refl
of_imports (imports.InCircle missing circle) = refl

of_elaborations : (cause : ElaborationCause) → class (elaboration.code_of cause) ≡ 2
of_elaborations (elaboration.Repeated name first) = refl
of_elaborations (elaboration.UnknownName name) = refl
of_elaborations (elaboration.UnknownType name) = refl
of_elaborations (elaboration.NotAValue form) = refl
of_elaborations (elaboration.OmittedSet around) = refl

of_causes : (cause : Cause) → class (causes.code_of cause) ≡ 3
of_causes (causes.WrongHead scene found wanted) = refl
of_causes (causes.WrongType scene found wanted) = refl
of_causes (causes.WrongShape scene found wanted) = refl
of_causes causes.NothingThere = refl
of_causes (causes.Unavoidable scene position type) = refl
of_causes (causes.TooLarge scene type) = refl

of_definitions : (reason : DefinitionReason) → class (code_of_reason reason) ≡ 3
of_definitions (definitions.OfStep cause) = of_causes cause
of_definitions (definitions.NotBelow scene left right) = refl
of_definitions (definitions.WithCap locals set) = refl

differ : {B : Type 0} (one other : Code) (n m : ℕ) → one ≡ other → class one ≡ n → class other ≡ m → (n ≡ m → ⊥) → B
differ one other n m same is that not = absurd (not (sym is ∙ ap class same ∙ that))

module _ (devices : List DeviceDecl) (present : Texts) (verdicts : List ℕ → ModuleVerdict) (name text : List ℕ) where
  one_reason : (one other : ModuleReason) (at place : Place) → module_code one ≡ module_code other
      → IsReason devices present verdicts name text one at → IsReason devices present verdicts name text other place → one ≡ other
  one_reason one other at place code (of_text it) (of_text that) = ap OfText ((text_reasons_are_unique text _ _ at place it that).0)
  one_reason one other at place code (of_text {reason = r} it) (of_import {reason = s} that) = differ _ _ 0 1 code (of_texts r) (of_imports s) (λ e. omega (arith, e))
  one_reason one other at place code (of_text {reason = r} it) (of_elaboration {cause = s} that) = differ _ _ 0 2 code (of_texts r) (of_elaborations s) (λ e. omega (arith, e))
  one_reason one other at place code (of_text {reason = r} it) (of_definition {reason = s} that) = differ _ _ 0 3 code (of_texts r) (of_definitions s) (λ e. omega (arith, e))
  one_reason one other at place code (of_import {reason = r} it) (of_text {reason = s} that) = differ _ _ 1 0 code (of_imports r) (of_texts s) (λ e. omega (arith, e))
  one_reason one other at place code (of_import it) (of_import that) = ap OfImport ((import_reasons_are_unique present verdicts name text _ _ at place it that).0)
  one_reason one other at place code (of_import {reason = r} it) (of_elaboration {cause = s} that) = differ _ _ 1 2 code (of_imports r) (of_elaborations s) (λ e. omega (arith, e))
  one_reason one other at place code (of_import {reason = r} it) (of_definition {reason = s} that) = differ _ _ 1 3 code (of_imports r) (of_definitions s) (λ e. omega (arith, e))
  one_reason one other at place code (of_elaboration {cause = r} it) (of_text {reason = s} that) = differ _ _ 2 0 code (of_elaborations r) (of_texts s) (λ e. omega (arith, e))
  one_reason one other at place code (of_elaboration {cause = r} it) (of_import {reason = s} that) = differ _ _ 2 1 code (of_elaborations r) (of_imports s) (λ e. omega (arith, e))
  one_reason one other at place code (of_elaboration it) (of_elaboration that) =
      ap OfElaboration ((causes_of_modules_are_unique devices text (findings_for present verdicts name text) _ _ at place it that).0)
  one_reason one other at place code (of_elaboration {cause = r} it) (of_definition {reason = s} that) = differ _ _ 2 3 code (of_elaborations r) (of_definitions s) (λ e. omega (arith, e))
  one_reason one other at place code (of_definition {reason = r} it) (of_text {reason = s} that) = differ _ _ 3 0 code (of_definitions r) (of_texts s) (λ e. omega (arith, e))
  one_reason one other at place code (of_definition {reason = r} it) (of_import {reason = s} that) = differ _ _ 3 1 code (of_definitions r) (of_imports s) (λ e. omega (arith, e))
  one_reason one other at place code (of_definition {reason = r} it) (of_elaboration {cause = s} that) = differ _ _ 3 2 code (of_definitions r) (of_elaborations s) (λ e. omega (arith, e))
  one_reason one other at place code (of_definition {names = n} it) (of_definition {reason = s} {names = m} that) =
      let (same, there, names) = reasons_of_definitions_are_unique devices text (findings_for present verdicts name text) _ _ at place _ _ it that in
      (λ i. OfDefinition (same i) (names i))

pub module_reasons_are_unique : ModuleReasonsAreUnique
module_reasons_are_unique devices texts verdicts name text one other at place it that =
    let same = verdicts_are_unique devices text (findings_for texts verdicts name text) _ _
    (module_reasons_are_of_refusals devices texts verdicts name text one at it)
    (module_reasons_are_of_refusals devices texts verdicts name text other place that) in
    (one_reason devices texts verdicts name text one other at place (code_same same) it that, place_same same)

both : (definitions : List CheckedDefinition) (code : Code) (at : Place) → IsAccepted definitions ≡ IsRefused code at → ⊥
both definitions code at e = cc

pub accepted_modules_have_no_reason : AcceptedModulesHaveNoReason
accepted_modules_have_no_reason devices texts verdicts name text definitions reason at accepted it =
    both definitions _ at
    (verdicts_are_unique devices text (findings_for texts verdicts name text) _ _ accepted
    (module_reasons_are_of_refusals devices texts verdicts name text reason at it))
