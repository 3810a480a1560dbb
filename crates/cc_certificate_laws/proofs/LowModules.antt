-- The signatures of accepted modules are low.
use Rattle.std.proofs.Common.{◌≡◌, ℕ, ◌≤◌, Bool, true, false, List, [], ◌∷◌, map, length, Some, refl, sym, subst, arith, if◌then◌else◌}
use Rattle.std.specs.List.{AllByRecursion}
use Rattle.std.specs.Option.{unwrap_or, is_some}
use Rattle.std.specs.Str.{bytes_eq}
use Rattle.cc_base.specs.declared.device.DeviceDecl.{DeviceDecl}
use Rattle.cc_core.specs.Contexts.{Context, entry_of}
use Rattle.cc_graph.specs.Graph.{reaches}
use Rattle.cc_grammar.specs.Syntax.{ImportSyntax}
use Rattle.cc_mnf.specs.ElaboratedModules.{CoreDefinition, device_names}
use Rattle.cc_verdicts.specs.Readings.{imports_of}
use Rattle.cc_verdicts.specs.ModuleVerdicts.{Finding, NoModule, InCycle, CheckedDefinition, ModuleVerdict, IsAccepted, IsRefused, to_be_checked, checked_as, after_definition, AreJudged, no_more, refused_first, accepted_first, HasModuleVerdict, is_no_module, import_is_missing, is_not_elaborated, is_judged}
use Rattle.cc_verdicts.specs.PresentTexts.{Texts, text_of, graph_of, definition_named, found_or_none, finding_in, finding_for, AreVerdicts}
use Rattle.cc_verdicts.proofs.Asking.{some_of}
use Rattle.cc_certificate_laws.specs.ModuleLimits.{HasLowSignature, IsLowFinding, SignaturesOfModulesAreLow, FindingsAreLow}
use Rattle.cc_certificate_laws.specs.TextLimits.{IsOfText}
use Rattle.cc_certificate_laws.proofs.LowDefinitions.{signatures_low}
use Rattle.cc_certificate_laws.proofs.TextDefinitions.{definitions_of_texts_low}

-- what an accepted verdict has behind its first definition
pub after_parts : (one : CheckedDefinition) (v : ModuleVerdict) (checked : List CheckedDefinition)
    → after_definition one v ≡ IsAccepted checked
    → (others : List CheckedDefinition) × (v ≡ IsAccepted others) × (checked ≡ one ∷ others)
after_parts one (IsAccepted others) checked e = (others, refl, cc)
after_parts one (IsRefused code at) checked e = cc

pub accepted_parts : (one other : List CheckedDefinition) → IsAccepted one ≡ IsAccepted other → one ≡ other
accepted_parts one other e = cc

within : (n : ℕ) → n ≤ 100 → n ≤ 4096
within n h = omega arith

judged_low : (devices : ℕ) (g : Context) (defs : List CoreDefinition) (v : ModuleVerdict)
    (checked : List CheckedDefinition)
    → AreJudged devices g defs v → AllByRecursion IsOfText defs → v ≡ IsAccepted checked
    → AllByRecursion HasLowSignature checked
judged_low devices g [] v checked no_more good e =
    subst (AllByRecursion HasLowSignature) (accepted_parts [] checked e) tt
judged_low devices g (first ∷ rest) v checked (refused_first has) good e = cc
judged_low devices g (first ∷ rest) v checked (accepted_first {accepted = accepted} {verdict = next} has others) good e
    =
    let parts = after_parts (checked_as first accepted) next checked e in
    subst (AllByRecursion HasLowSignature) (sym parts.2) (
      signatures_low devices g (to_be_checked first) accepted has (within _ good.0.note),
      judged_low devices (entry_of accepted.signature ∷ g) rest next parts.0 others good.1 parts.1,
    )

low_by : (devices : List DeviceDecl) (text : List ℕ) (findings : List Finding) (checked : List CheckedDefinition)
    (v : ModuleVerdict)
    → HasModuleVerdict devices text findings v → v ≡ IsAccepted checked → AllByRecursion HasLowSignature checked
low_by devices text findings checked v (is_no_module reading) e = cc
low_by devices text findings checked v (import_is_missing reading missing) e = cc
low_by devices text findings checked v (is_not_elaborated reading found is) e = cc
low_by devices text findings checked v (is_judged {tree = tree} {core = core} {verdict = verdict} reading found is
    judged) e =
    judged_low (length devices) _ core.definitions verdict checked judged
    (definitions_of_texts_low (device_names devices) text tree core reading is) e

pub module_signatures_low : SignaturesOfModulesAreLow
module_signatures_low devices text findings definitions has =
    low_by devices text findings definitions (IsAccepted definitions) has refl

-- what is found in a module
named_low : (name : List ℕ) (definitions : List CheckedDefinition) → AllByRecursion HasLowSignature definitions
    → IsLowFinding (found_or_none (definition_named name definitions))
named_low name [] low = tt
named_low name (first ∷ rest) low = by_test (named_low name rest low.1) (bytes_eq first.name name)
  where
    by_test : IsLowFinding (found_or_none (definition_named name rest)) → (b : Bool)
        → IsLowFinding (found_or_none (if b then Some first else definition_named name rest))
    by_test others true = low.0
    by_test others false = others

found_low : (devices : List DeviceDecl) (text : List ℕ) (findings : List Finding) (v : ModuleVerdict) (name : List ℕ)
    → HasModuleVerdict devices text findings v → IsLowFinding (finding_in v name)
found_low devices text findings (IsAccepted definitions) name has =
    named_low name definitions (module_signatures_low devices text findings definitions has)
found_low devices text findings (IsRefused code at) name has = tt

by_present : (present cyclic : Bool) (finding : Finding) → (present ≡ true → IsLowFinding finding)
    → IsLowFinding (if present then (if cyclic then InCycle else finding) else NoModule)
by_present false cyclic finding low = tt
by_present true true finding low = tt
by_present true false finding low = low refl

one_low : (devices : List DeviceDecl) (texts : Texts) (verdicts : List ℕ → ModuleVerdict)
    → AreVerdicts devices texts verdicts
    → (name : List ℕ) (one : ImportSyntax) → IsLowFinding (finding_for texts verdicts name one)
unfolding finding_for
one_low devices texts verdicts are name one =
    by_present (is_some (text_of texts one.source)) (reaches (graph_of texts) one.source name)
    (finding_in (verdicts one.source) one.name)
    (λ present. let source = some_of (text_of texts one.source) present in
    found_low devices source.0 _ (verdicts one.source) one.name (are one.source source.0 source.1))

all_low : (devices : List DeviceDecl) (texts : Texts) (verdicts : List ℕ → ModuleVerdict)
    → AreVerdicts devices texts verdicts
    → (name : List ℕ) (imports : List ImportSyntax) → AllByRecursion IsLowFinding
    (map (finding_for texts verdicts name) imports)
all_low devices texts verdicts are name [] = tt
all_low devices texts verdicts are name (one ∷ imports) =
    (one_low devices texts verdicts are name one, all_low devices texts verdicts are name imports)

pub findings_low : FindingsAreLow
findings_low devices texts verdicts are name text =
    all_low devices texts verdicts are name (unwrap_or (imports_of text) [])
