-- What an accepted module imports is found.
use Rattle.std.proofs.Common.{◌≡◌, ℕ, List, [], ◌∷◌, map, Option, Some, None, refl, sym, ap, ◌∙◌, subst, inl, inr}
use Rattle.std.specs.Option.{unwrap_or}
use Rattle.cc_base.specs.declared.code.Code.{Code}
use Rattle.cc_base.specs.declared.device.DeviceDecl.{DeviceDecl}
use Rattle.cc_base.specs.declared.place.Place.{Place}
use Rattle.cc_core.specs.Shapes.{CapturingType}
use Rattle.cc_grammar.specs.Syntax.{ImportSyntax}
use Rattle.cc_graph.proofs.Paths.{IsAmong}
use Rattle.cc_verdicts.specs.ModuleVerdicts.{Finding, FoundDefinition, NoModule, InCycle, RefusedModule, NoDefinition}
use Rattle.cc_verdicts.specs.ModuleVerdicts.{CheckedDefinition, ModuleVerdict, IsAccepted, Refusal, code_of, missing_or}
use Rattle.cc_verdicts.specs.ModuleVerdicts.{first_missing, HasModuleVerdict, is_no_module, import_is_missing}
use Rattle.cc_verdicts.specs.ModuleVerdicts.{is_not_elaborated, is_judged}
use Rattle.cc_verdicts.specs.PresentTexts.{Texts, finding_for, findings_for}
use Rattle.cc_verdicts.specs.Readings.{IsTree, imports_in, imports_of}
use Rattle.cc_verdicts.proofs.ReadingLaws.{text_has_one_reading}

none_missing : (at : Place) (code : Option Code) (others : Option Refusal) → missing_or at code others ≡ None
    → (code ≡ None) × (others ≡ None)
none_missing at None others none = (refl, none)
none_missing at (Some code) others none = cc

code_found : (finding : Finding) → code_of finding ≡ None
    → (signature : CapturingType) × (finding ≡ FoundDefinition signature)
code_found (FoundDefinition signature) none = (signature, refl)
code_found NoModule none = cc
code_found InCycle none = cc
code_found RefusedModule none = cc
code_found NoDefinition none = cc

each_found : (f : ImportSyntax → Finding) (imports : List ImportSyntax) → first_missing imports (map f imports) ≡ None
    → (one : ImportSyntax) → IsAmong one imports → (signature : CapturingType) × (f one ≡ FoundDefinition signature)
each_found f [] none one among = absurd among
each_found f (first ∷ rest) none one (inl same) =
    let P : ImportSyntax → Type 0 = λ i. (signature : CapturingType) × (f i ≡ FoundDefinition signature) in
    subst P same
    (code_found (f first) (none_missing first.at (code_of (f first)) (first_missing rest (map f rest)) none).0)
each_found f (first ∷ rest) none one (inr among) =
    each_found f rest (none_missing first.at (code_of (f first)) (first_missing rest (map f rest)) none).1 one among

-- the text has these imports, and for each of them a definition is found
pub record FoundImports (texts : Texts) (verdicts : List ℕ → ModuleVerdict) (name text : List ℕ) : Type 0 where
  pub imports : List ImportSyntax
  pub is : imports_of text ≡ Some imports
  pub found : (one : ImportSyntax) → IsAmong one imports
      → (signature : CapturingType) × (finding_for texts verdicts name one ≡ FoundDefinition signature)

pub found_imports : (devices : List DeviceDecl) (texts : Texts) (verdicts : List ℕ → ModuleVerdict)
    (name text : List ℕ) (findings : List Finding) (verdict : ModuleVerdict) (definitions : List CheckedDefinition)
    → findings ≡ findings_for texts verdicts name text → HasModuleVerdict devices text findings verdict
    → verdict ≡ IsAccepted definitions → FoundImports texts verdicts name text
found_imports devices texts verdicts name text findings verdict definitions same (is_no_module reading) is = cc
found_imports devices texts verdicts name text findings verdict definitions same (import_is_missing reading missing) is = cc
found_imports devices texts verdicts name text findings verdict definitions same (is_not_elaborated reading found e) is = cc
found_imports devices texts verdicts name text findings verdict definitions same (is_judged {tree = tree} reading found e judged) is =
    let reads : imports_of text ≡ Some tree.imports =
    sym (ap (λ r. imports_in r) ((text_has_one_reading text (IsTree tree)).0 reading)) in
    let none : first_missing tree.imports (map (finding_for texts verdicts name) tree.imports) ≡ None =
    sym (ap (λ fs. first_missing tree.imports fs)
    (same ∙ ap (λ o. map (finding_for texts verdicts name) (unwrap_or o [])) reads)) ∙ found in
    record {
      imports = tree.imports;
      is = reads;
      found = each_found (finding_for texts verdicts name) tree.imports none;
    }
