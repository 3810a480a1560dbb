-- Why a module is refused has one answer, which says the module's verdict.
use Rattle.std.proofs.Common.{◌≡◌, ℕ, Bool, true, false, List, [], length, map, Option, Some, None, refl, sym, ap, subst, ◌∙◌}
use Rattle.std.specs.Option.{unwrap_or, is_some}
use Rattle.cc_base.specs.declared.device.DeviceDecl.{DeviceDecl}
use Rattle.cc_base.specs.declared.place.Place.{Place}
use Rattle.cc_elaboration_reasons.specs.ElaborationReasonTexts.{elaboration_cause_lines}
use Rattle.cc_elaboration_reasons.specs.RefusedModules.{IsOfElaboration}
use Rattle.cc_grammar.specs.Syntax.{ImportSyntax}
use Rattle.cc_graph.specs.Graph.{reaches}
use Rattle.cc_mnf.specs.Scopes.{Name}
use Rattle.cc_module_reasons.proofs.OneModuleReason.{module_reasons_are_of_refusals, refused_modules_have_a_reason, module_reasons_are_unique, accepted_modules_have_no_reason}
use Rattle.cc_module_reasons.specs.ImportReasonTexts.{import_reason_lines}
use Rattle.cc_module_reasons.specs.ImportReasons.{ImportReason, IsMissing, no_module, no_definition, refused_module, in_circle, IsMissingFirst, missing_first, found_first}
use Rattle.cc_module_reasons.specs.ModuleLines.{AreModuleLines}
use Rattle.cc_module_reasons.specs.ModuleReasons.{ModuleReason, OfText, OfImport, OfElaboration, OfDefinition, module_code, IsReason, of_text, of_import, of_elaboration, of_definition}
use Rattle.cc_module_reasons.specs.WhyAnswers.{Why, NoSuchModule, NotRefused, RefusedSince, IsWhyBy, no_such_module, not_refused, refused_since}
use Rattle.cc_module_reasons.specs.WhyLaws.{SaysVerdict, WhySaysTheVerdict, WhyHasAnAnswer, WhyHasOneAnswer}
use Rattle.cc_reasons.proofs.OneTelling.{lines_are_unique}
use Rattle.cc_reasons.proofs.ToldModules.{reasons_of_definitions_have_lines}
use Rattle.cc_reasons.specs.RefusedDefinitions.{IsOfDefinition}
use Rattle.cc_text_reasons.specs.TextReasonTexts.{text_reason_lines}
use Rattle.cc_verdicts.proofs.Asking.{some_of, found_by, found_by_same}
use Rattle.cc_verdicts.proofs.ModuleVerdictLaws.{verdicts_are_unique}
use Rattle.cc_verdicts.proofs.PresentLaws.{present_verdicts_exist, present_verdicts_are_unique, present_findings_fit}
use Rattle.cc_verdicts.specs.ModuleLaws.{AreFit}
use Rattle.cc_verdicts.specs.ModuleVerdicts.{Finding, RefusedModule, CheckedDefinition, ModuleVerdict, IsAccepted, IsRefused, HasModuleVerdict, code_of}
use Rattle.cc_verdicts.specs.PresentTexts.{Texts, text_of, graph_of, finding_in, finding_for, findings_for, AreVerdicts}
use Rattle.cc_verdicts.specs.Readings.{imports_of}

-- Of modules that are not present no verdict is asked: what is answered by verdicts is answered by others that agree with them
-- where modules are present.
module _ (devices : List DeviceDecl) (texts : Texts) (first second : List ℕ → ModuleVerdict)
    (agree : (name text : List ℕ) → text_of texts name ≡ Some text → first name ≡ second name) (name : Name) where
  agree_there : (other : List ℕ) → is_some (text_of texts other) ≡ true → first other ≡ second other
  agree_there other present = let (text, is) = some_of (text_of texts other) present in agree other text is

  finding_same : (one : ImportSyntax) → finding_for texts first name one ≡ finding_for texts second name one
  unfolding finding_for
  finding_same one =
      found_by_same (is_some (text_of texts one.source)) (reaches (graph_of texts) one.source name)
      (finding_in (first one.source) one.name) (finding_in (second one.source) one.name)
      (λ present ahead. ap (λ verdict. finding_in verdict one.name) (agree_there one.source present))

  findings_same : (text : List ℕ) → findings_for texts first name text ≡ findings_for texts second name text
  findings_same text = ap (λ finding. map finding (unwrap_or (imports_of text) [])) (λ i one. finding_same one i)

  -- a module that is found to be refused is present
  present_there : (one : ImportSyntax) → finding_for texts first name one ≡ RefusedModule → is_some (text_of texts one.source) ≡ true
  unfolding finding_for
  present_there one e = by (is_some (text_of texts one.source)) (reaches (graph_of texts) one.source name) (finding_in (first one.source) one.name) e
    where
      by : (present cyclic : Bool) (finding : Finding) → found_by present cyclic finding ≡ RefusedModule → present ≡ true
      by false cyclic finding e = cc
      by true cyclic finding e = refl

  missing_alike : (one : ImportSyntax) (reason : ImportReason) → IsMissing texts first name one reason → IsMissing texts second name one reason
  missing_alike one reason (no_module e) = no_module (sym (finding_same one) ∙ e)
  missing_alike one reason (no_definition e) = no_definition (sym (finding_same one) ∙ e)
  missing_alike one reason (refused_module e is) =
      refused_module (sym (finding_same one) ∙ e) (sym (agree_there one.source (present_there one e)) ∙ is)
  missing_alike one reason (in_circle e chain) = in_circle (sym (finding_same one) ∙ e) chain

  missing_first_alike : (imports : List ImportSyntax) (reason : ImportReason) (at : Place) → IsMissingFirst texts first name imports reason at
      → IsMissingFirst texts second name imports reason at
  missing_first_alike imports reason at (missing_first {one = one} it) = missing_first (missing_alike one reason it)
  missing_first_alike imports reason at (found_first {one = one} {rest = rest} none it) =
      found_first (ap code_of (sym (finding_same one)) ∙ none) (missing_first_alike rest reason at it)

  reason_alike : (text : List ℕ) (reason : ModuleReason) (at : Place) → IsReason devices texts first name text reason at
      → IsReason devices texts second name text reason at
  reason_alike text reason at (of_text it) = of_text it
  reason_alike text reason at (of_import {reason = missing} it) =
      of_import (record { tree = it.tree; reads = it.reads; first = missing_first_alike it.tree.imports missing at it.first })
  reason_alike text reason at (of_elaboration {cause = cause} it) =
      of_elaboration (subst (λ findings. IsOfElaboration devices text findings cause at) (findings_same text) it)
  reason_alike text reason at (of_definition {reason = refused} {names = names} it) =
      of_definition (subst (λ findings. IsOfDefinition devices text findings refused at names) (findings_same text) it)

  answer_alike : (answer : Why) → IsWhyBy devices texts first name answer → IsWhyBy devices texts second name answer
  answer_alike answer (no_such_module absent) = no_such_module absent
  answer_alike answer (not_refused {text = text} present is) = not_refused present (sym (agree name text present) ∙ is)
  answer_alike answer (refused_since {text = text} {reason = reason} {at = at} present it told) =
      refused_since present (reason_alike text reason at it) told

-- the lines of a reason of a module: there are such, and no others
lines_are_one : (devices : ℕ) (reason : ModuleReason) (one other : List (List ℕ)) → AreModuleLines devices reason one → AreModuleLines devices reason other
    → one ≡ other
lines_are_one devices (OfText reason) one other is that = is ∙ sym that
lines_are_one devices (OfImport reason) one other is that = is ∙ sym that
lines_are_one devices (OfElaboration cause) one other is that = is ∙ sym that
lines_are_one devices (OfDefinition reason names) one other is that = lines_are_unique devices names reason one other is that

has_lines : (devices : List DeviceDecl) (texts : Texts) (verdicts : List ℕ → ModuleVerdict) (name text : List ℕ) (reason : ModuleReason) (at : Place)
    → AreFit devices text (findings_for texts verdicts name text) → IsReason devices texts verdicts name text reason at
    → (lines : List (List ℕ)) × AreModuleLines (length devices) reason lines
has_lines devices texts verdicts name text reason at fit (of_text {reason = broken} it) = (text_reason_lines broken, refl)
has_lines devices texts verdicts name text reason at fit (of_import {reason = missing} it) = (import_reason_lines missing, refl)
has_lines devices texts verdicts name text reason at fit (of_elaboration {cause = cause} it) = (elaboration_cause_lines cause, refl)
has_lines devices texts verdicts name text reason at fit (of_definition {reason = refused} {names = names} it) =
    reasons_of_definitions_have_lines devices text (findings_for texts verdicts name text) refused at names fit it

not_absent : {B : Type 0} {o : Option (List ℕ)} {text : List ℕ} → o ≡ None → o ≡ Some text → B
not_absent absent present = cc

same_text : {o : Option (List ℕ)} {one other : List ℕ} → o ≡ Some one → o ≡ Some other → one ≡ other
same_text is that = cc

module _ (devices : List DeviceDecl) (texts : Texts) (verdicts : List ℕ → ModuleVerdict) (are : AreVerdicts devices texts verdicts) (name : Name) where
  -- the verdict of the module, where its text is this
  verdict_is : (text : List ℕ) (verdict : ModuleVerdict) → text_of texts name ≡ Some text → verdicts name ≡ verdict
      → HasModuleVerdict devices text (findings_for texts verdicts name text) verdict
  verdict_is text verdict present is =
      subst (HasModuleVerdict devices text (findings_for texts verdicts name text)) is (are name text present)

  says_verdict : (answer : Why) → IsWhyBy devices texts verdicts name answer → SaysVerdict texts verdicts name answer
  says_verdict answer (no_such_module absent) = absent
  says_verdict answer (not_refused {text = text} {definitions = definitions} present is) = (text, definitions, present, is)
  says_verdict answer (refused_since {text = text} {reason = reason} {at = at} present it told) = (
    text,
    present,
    verdicts_are_unique devices text (findings_for texts verdicts name text) (verdicts name) (IsRefused (module_code reason) at)
        (are name text present) (module_reasons_are_of_refusals devices texts verdicts name text reason at it),
  )

  some_answer : ((text : List ℕ) → text_of texts name ≡ Some text → AreFit devices text (findings_for texts verdicts name text))
      → (found : Option (List ℕ)) (verdict : ModuleVerdict) → text_of texts name ≡ found → verdicts name ≡ verdict
      → (answer : Why) × IsWhyBy devices texts verdicts name answer
  some_answer fit None verdict absent is = (NoSuchModule, no_such_module absent)
  some_answer fit (Some text) (IsAccepted definitions) present is = (NotRefused, not_refused present is)
  some_answer fit (Some text) (IsRefused code at) present is =
      let (reason, same, it) = refused_modules_have_a_reason devices texts verdicts name text code at (verdict_is text (IsRefused code at) present is) in
      let (lines, told) = has_lines devices texts verdicts name text reason at (fit text present) it in
      (RefusedSince (module_code reason) at lines, refused_since present it told)

  -- what is accepted is not refused
  not_both : {B : Type 0} (text : List ℕ) (definitions : List CheckedDefinition) (reason : ModuleReason) (at : Place)
      → text_of texts name ≡ Some text → verdicts name ≡ IsAccepted definitions → IsReason devices texts verdicts name text reason at → B
  not_both text definitions reason at present is it =
      absurd
      (accepted_modules_have_no_reason devices texts verdicts name text definitions reason at
      (verdict_is text (IsAccepted definitions) present is) it)

  -- the module has one text, so what a text of it is refused for is what this one is refused for
  reason_of_text : (one other : List ℕ) (reason : ModuleReason) (at : Place) → text_of texts name ≡ Some one → text_of texts name ≡ Some other
      → IsReason devices texts verdicts name other reason at → IsReason devices texts verdicts name one reason at
  reason_of_text one other reason at present there it =
      subst (λ text. IsReason devices texts verdicts name text reason at) (same_text there present) it

  one_answer : (one other : Why) → IsWhyBy devices texts verdicts name one → IsWhyBy devices texts verdicts name other → one ≡ other
  one_answer one other (no_such_module absent) (no_such_module absent') = refl
  one_answer one other (no_such_module absent) (not_refused present is) = not_absent absent present
  one_answer one other (no_such_module absent) (refused_since present it told) = not_absent absent present
  one_answer one other (not_refused present is) (no_such_module absent) = not_absent absent present
  one_answer one other (not_refused present is) (not_refused present' is') = refl
  one_answer one other (not_refused {text = text} {definitions = definitions} present is) (refused_since {text = again} {reason = reason} {at = at} there it told) =
      not_both text definitions reason at present is (reason_of_text text again reason at present there it)
  one_answer one other (refused_since present it told) (no_such_module absent) = not_absent absent present
  one_answer one other (refused_since {text = again} {reason = reason} {at = at} there it told) (not_refused {text = text} {definitions = definitions} present is) =
      not_both text definitions reason at present is (reason_of_text text again reason at present there it)
  one_answer one other (refused_since {text = text} {reason = reason} {at = at} {lines = lines} present it told)
      (refused_since {text = again} {reason = that} {at = place} {lines = others} there those told') =
      let (same, stands) = module_reasons_are_unique devices texts verdicts name text reason that at place it
      (reason_of_text text again that place present there those) in
      let alike = lines_are_one (length devices) reason lines others told
      (subst (λ r. AreModuleLines (length devices) r others) (sym same) told') in
      λ i. RefusedSince (module_code (same i)) (stands i) (alike i)

pub why_says_the_verdict : WhySaysTheVerdict
why_says_the_verdict devices texts verdicts name answer present are (others, those, it) =
    says_verdict devices texts verdicts are name answer
    (answer_alike devices texts others verdicts (present_verdicts_are_unique devices texts others verdicts present those are) name answer it)

pub why_has_an_answer : WhyHasAnAnswer
why_has_an_answer devices texts name differ present =
    let (verdicts, are) = present_verdicts_exist devices texts differ present in
    let (answer, it) = some_answer devices texts verdicts are name
    (λ text is. present_findings_fit devices texts verdicts differ present are name text is)
    (text_of texts name) (verdicts name) refl refl in
    (answer, (verdicts, are, it))

pub why_has_one_answer : WhyHasOneAnswer
why_has_one_answer devices texts name one other present (verdicts, are, it) (others, those, that) =
    one_answer devices texts verdicts are name one other it
    (answer_alike devices texts others verdicts (present_verdicts_are_unique devices texts others verdicts present those are) name other that)
