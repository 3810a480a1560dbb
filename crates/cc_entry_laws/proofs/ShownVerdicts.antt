-- What a verdict of a module shows of definitions is a verdict of definitions that are judged.
use Rattle.std.proofs.Common.{◌≡◌, ℕ, List, [], ◌∷◌, length, Some, None, refl, sym, subst}
use Rattle.std.specs.List.{AllByRecursion}
use Rattle.cc_base.specs.declared.code.Code.{Code}
use Rattle.cc_base.specs.declared.device.DeviceDecl.{DeviceDecl}
use Rattle.cc_base.specs.declared.place.Place.{Place}
use Rattle.cc_core.specs.Contexts.{Context, entry_of}
use Rattle.cc_grammar.specs.Syntax.{ModuleSyntax}
use Rattle.cc_mnf.specs.ElaboratedModules.{CoreDefinition, CoreModule, IsElaborated, elaboration, device_names}
use Rattle.cc_mnf.proofs.RefusalCodes.{refusals_have_codes}
use Rattle.cc_checking.specs.Verdicts.{Accepted, HasVerdict}
use Rattle.cc_checking.specs.Verdicts as definitions
use Rattle.cc_verdicts.specs.ModuleVerdicts.{CheckedDefinition, ModuleVerdict, IsAccepted, IsRefused, first_missing}
use Rattle.cc_verdicts.specs.ModuleVerdicts.{declared_context, with_findings, to_be_checked, checked_as}
use Rattle.cc_verdicts.specs.ModuleVerdicts.{after_definition, AreJudged, no_more, refused_first, accepted_first}
use Rattle.cc_verdicts.specs.ModuleVerdicts.{HasModuleVerdict, is_no_module, import_is_missing, is_not_elaborated}
use Rattle.cc_verdicts.specs.ModuleVerdicts.{is_judged}
use Rattle.cc_verdicts.specs.PresentTexts.{Texts, text_of, findings_for}
use Rattle.cc_verdicts.specs.Readings.{IsTree, HasReading}
use Rattle.cc_entry_laws.specs.PresentFiles.{IsJudgedAmong, the_first, a_later, IsJudged, IsCodeOfDefinition}
use Rattle.cc_entry_laws.specs.PresentFiles.{HasRefused, HasAccepted, ShownRefusalsAreJudged, ShownDefinitionsAreJudged}
use Rattle.cc_entry_laws.proofs.OtherCodes.{no_module_other, missing_other, elaboration_other}

-- ---- definitions in order
-- one of them is refused so
record RefusedAmong (devices : ℕ) (context : Context) (list : List CoreDefinition) (code : Code) (at : Place) :
    Type 0 where
  globals : Context
  definition : CoreDefinition
  among : IsJudgedAmong devices context list globals definition
  refused : HasVerdict devices globals (to_be_checked definition) (definitions.IsRefused code at)

-- one of them is accepted as this one
record AcceptedAmong (devices : ℕ) (context : Context) (list : List CoreDefinition) (shown : CheckedDefinition) :
    Type 0 where
  globals : Context
  definition : CoreDefinition
  among : IsJudgedAmong devices context list globals definition
  accepted : HasVerdict devices globals (to_be_checked definition) (definitions.IsAccepted shown.accepted)
  shows : shown ≡ checked_as definition shown.accepted

refused_itself : (devices : ℕ) (context : Context) (first : CoreDefinition) (rest : List CoreDefinition)
    (code other : Code) (at there : Place)
    → HasVerdict devices context (to_be_checked first) (definitions.IsRefused other there)
    → IsRefused other there ≡ IsRefused code at → RefusedAmong devices context (first ∷ rest) code at
refused_itself devices context first rest code other at there has same =
    let codes : other ≡ code = cc in
    let places : there ≡ at = cc in
    let V : definitions.Verdict → Type 0 = λ v. HasVerdict devices context (to_be_checked first) v in
    record {
      globals = context;
      definition = first;
      among = the_first;
      refused = subst V (λ j. definitions.IsRefused (codes j) (places j)) has;
    }

refused_later : (devices : ℕ) (context : Context) (first : CoreDefinition) (rest : List CoreDefinition) (code : Code)
    (at : Place) (accepted : Accepted)
    → HasVerdict devices context (to_be_checked first) (definitions.IsAccepted accepted)
    → RefusedAmong devices (entry_of accepted.signature ∷ context) rest code at
    → RefusedAmong devices context (first ∷ rest) code at
refused_later devices context first rest code at accepted has it =
    record { globals = it.globals; definition = it.definition; among = a_later has it.among; refused = it.refused }

still_refused : (one : CheckedDefinition) (verdict : ModuleVerdict) (code : Code) (at : Place)
    → after_definition one verdict ≡ IsRefused code at → verdict ≡ IsRefused code at
still_refused one (IsAccepted list) code at same = cc
still_refused one (IsRefused other there) code at same = same

refused_among : (devices : ℕ) (context : Context) (list : List CoreDefinition) (verdict : ModuleVerdict) (code : Code)
    (at : Place) → AreJudged devices context list verdict → verdict ≡ IsRefused code at
    → RefusedAmong devices context list code at
refused_among devices context [] verdict code at no_more same = cc
refused_among devices context (first ∷ rest) verdict code at (refused_first {code = other} {at = there} has) same =
    refused_itself devices context first rest code other at there has same
refused_among devices context (first ∷ rest) verdict code at (accepted_first {accepted = accepted} {verdict = next} has others) same =
    refused_later devices context first rest code at accepted has
    (refused_among devices (entry_of accepted.signature ∷ context) rest next code at others
    (still_refused (checked_as first accepted) next code at same))

accepted_later : (devices : ℕ) (context : Context) (first : CoreDefinition) (rest : List CoreDefinition)
    (accepted : Accepted) → HasVerdict devices context (to_be_checked first) (definitions.IsAccepted accepted)
    → (shown : List CheckedDefinition)
    → AllByRecursion (AcceptedAmong devices (entry_of accepted.signature ∷ context) rest) shown
    → AllByRecursion (AcceptedAmong devices context (first ∷ rest)) shown
accepted_later devices context first rest accepted has [] all = tt
accepted_later devices context first rest accepted has (one ∷ others) all = (
  record {
    globals = all.0.globals;
    definition = all.0.definition;
    among = a_later has all.0.among;
    accepted = all.0.accepted;
    shows = all.0.shows;
  },
  accepted_later devices context first rest accepted has others all.1,
)

-- the verdict with one more is accepted where that without it is, with that one before the others
record IsBehind (one : CheckedDefinition) (verdict : ModuleVerdict) (shown : List CheckedDefinition) : Type 0 where
  others : List CheckedDefinition
  is : verdict ≡ IsAccepted others
  stands : one ∷ others ≡ shown

accepted_behind : (one : CheckedDefinition) (verdict : ModuleVerdict) (shown : List CheckedDefinition)
    → after_definition one verdict ≡ IsAccepted shown → IsBehind one verdict shown
accepted_behind one (IsAccepted others) shown same =
    let whole : one ∷ others ≡ shown = cc in record { others = others; is = refl; stands = whole }
accepted_behind one (IsRefused code at) shown same = cc

accepted_among : (devices : ℕ) (context : Context) (list : List CoreDefinition) (verdict : ModuleVerdict)
    (shown : List CheckedDefinition) → AreJudged devices context list verdict → verdict ≡ IsAccepted shown
    → AllByRecursion (AcceptedAmong devices context list) shown
accepted_among devices context [] verdict shown no_more same =
    let none : [] ≡ shown = cc in
    subst (λ list. AllByRecursion (AcceptedAmong devices context []) list) none tt
accepted_among devices context (first ∷ rest) verdict shown (refused_first has) same = cc
accepted_among devices context (first ∷ rest) verdict shown (accepted_first {accepted = accepted} {verdict = next} has others) same =
    let behind = accepted_behind (checked_as first accepted) next shown same in
    let later = accepted_among devices (entry_of accepted.signature ∷ context) rest next behind.others others behind.is in
    subst (λ list. AllByRecursion (AcceptedAmong devices context (first ∷ rest)) list) behind.stands (
      record { globals = context; definition = first; among = the_first; accepted = has; shows = refl },
      accepted_later devices context first rest accepted has behind.others later,
    )

-- ---- modules
module _ (devices : List DeviceDecl) (texts : Texts) (verdicts : List ℕ → ModuleVerdict) (name text : List ℕ)
    (there : text_of texts name ≡ Some text) where
  -- the context of the module's definitions
  abbrev begin : Context
  begin = with_findings (declared_context devices) (findings_for texts verdicts name text)

  module _ (tree : ModuleSyntax) (reading : HasReading text (IsTree tree))
      (found : first_missing tree.imports (findings_for texts verdicts name text) ≡ None) (core : CoreModule)
      (elaborated : elaboration (device_names devices) tree ≡ IsElaborated core) where
    one_judged : (globals : Context) (definition : CoreDefinition)
        → IsJudgedAmong (length devices) begin core.definitions globals definition
        → IsJudged devices texts verdicts globals definition
    one_judged globals definition among = record {
      module_name = name;
      text = text;
      there = there;
      tree = tree;
      reading = reading;
      found = found;
      core = core;
      elaborated = elaborated;
      among = among;
    }

    one_refused : (code : Code) (at : Place) → RefusedAmong (length devices) begin core.definitions code at
        → HasRefused devices texts verdicts name code at
    unfolding one_judged
    one_refused code at it = record {
      globals = it.globals;
      definition = it.definition;
      judged = one_judged it.globals it.definition it.among;
      of_module = refl;
      refused = it.refused;
    }

    each_accepted : (shown : List CheckedDefinition)
        → AllByRecursion (AcceptedAmong (length devices) begin core.definitions) shown
        → AllByRecursion (HasAccepted devices texts verdicts name) shown
    unfolding one_judged
    each_accepted [] all = tt
    each_accepted (one ∷ others) all = (
      record {
        globals = all.0.globals;
        definition = all.0.definition;
        judged = one_judged all.0.globals all.0.definition all.0.among;
        of_module = refl;
        accepted = all.0.accepted;
        shows = all.0.shows;
      },
      each_accepted others all.1,
    )

  refused_by : (code : Code) (at : Place) → IsCodeOfDefinition code → (verdict : ModuleVerdict)
      → HasModuleVerdict devices text (findings_for texts verdicts name text) verdict → verdict ≡ IsRefused code at
      → HasRefused devices texts verdicts name code at
  refused_by code at is verdict (is_no_module {code = other} {at = place} reading) same =
      let codes : other ≡ code = cc in
      absurd (no_module_other text other place reading (subst IsCodeOfDefinition (sym codes) is))
  refused_by code at is verdict (import_is_missing {tree = tree} {missing = missing} reading first) same =
      let codes : missing.code ≡ code = cc in
      absurd
      (missing_other tree.imports (findings_for texts verdicts name text) missing first
      (subst IsCodeOfDefinition (sym codes) is))
  refused_by code at is verdict (is_not_elaborated {tree = tree} {code = other} {at = place} reading found refused) same =
      let codes : other ≡ code = cc in
      absurd
      (elaboration_other other (refusals_have_codes (device_names devices) tree other place refused)
      (subst IsCodeOfDefinition (sym codes) is))
  refused_by code at is verdict (is_judged {tree = tree} {core = core} reading found elaborated judged) same =
      one_refused tree reading found core elaborated code at
      (refused_among (length devices) begin core.definitions verdict code at judged same)

  accepted_by : (shown : List CheckedDefinition) (verdict : ModuleVerdict)
      → HasModuleVerdict devices text (findings_for texts verdicts name text) verdict → verdict ≡ IsAccepted shown
      → AllByRecursion (HasAccepted devices texts verdicts name) shown
  accepted_by shown verdict (is_no_module reading) same = cc
  accepted_by shown verdict (import_is_missing reading first) same = cc
  accepted_by shown verdict (is_not_elaborated reading found refused) same = cc
  accepted_by shown verdict (is_judged {tree = tree} {core = core} reading found elaborated judged) same =
      each_accepted tree reading found core elaborated shown
      (accepted_among (length devices) begin core.definitions verdict shown judged same)

pub shown_refusals_are_judged : ShownRefusalsAreJudged
shown_refusals_are_judged devices texts verdicts are name text code at there same is =
    refused_by devices texts verdicts name text there code at is (verdicts name) (are name text there) same

pub shown_definitions_are_judged : ShownDefinitionsAreJudged
shown_definitions_are_judged devices texts verdicts are name text shown there same =
    accepted_by devices texts verdicts name text there shown (verdicts name) (are name text there) same
