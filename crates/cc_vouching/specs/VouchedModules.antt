-- What is answered to a module with its claims, and to modules one after the other.
use Rattle.std.specs.Prelude.{◌≡◌, ℕ, List, [], ◌∷◌, ◌++◌, map, Option, Some, None}
use Rattle.std.specs.Map.{lookup}
use Rattle.std.specs.Str.{bytes_eq}
use Rattle.cc_base.specs.declared.code.Code.{Code}
use Rattle.cc_base.specs.declared.device.DeviceDecl.{DeviceDecl}
use Rattle.cc_base.specs.declared.place.Place.{Place}
use Rattle.cc_core.specs.Programs.{Definition, definition_named}
use Rattle.cc_grammar.specs.Syntax.{ImportSyntax, ModuleSyntax}
use Rattle.cc_mnf.specs.ElaboratedModules.{CoreDefinition, CoreModule, elaboration, device_names}
use Rattle.cc_mnf.specs.ElaboratedModules as elaborated
use Rattle.cc_verdicts.specs.Readings.{IsTree, IsNoModule, HasReading}
use Rattle.cc_verdicts.specs.ModuleVerdicts.{Finding, FoundDefinition, NoModule, RefusedModule, NoDefinition, Refusal}
use Rattle.cc_verdicts.specs.ModuleVerdicts.{first_missing}
use Rattle.cc_vouching.specs.Submissions.{Claim, ClaimedModule}
use Rattle.cc_vouching.specs.VouchedDefinitions.{Reason, IsVouchedFor, IsNotVouchedFor, Surroundings, HasOutcome}

-- What is answered to a module: its definitions, in order, as they are vouched for; or that its text is refused; or the
-- first definition that is not vouched for, with the reason.
pub data Answer : Type 0 where
  Vouches : (definitions : List Definition) → Answer
  RefusesText : (code : Code) (at : Place) → Answer
  RefusesDefinition : (name : List ℕ) (reason : Reason) → Answer

-- the modules so far by name, each with its answer, in order
abbrev pub Answered : Type 0
Answered = List (List ℕ × Answer)

-- what is found where the definition is this one, if there is one
abbrev pub found_or_none : Option Definition → Finding
found_or_none (Some definition) = FoundDefinition definition.signature
found_or_none None = NoDefinition

-- what is found for the name in a module with this answer, if there is one
abbrev pub found_in : Option Answer → List ℕ → Finding
found_in None name = NoModule
found_in (Some (Vouches definitions)) name = found_or_none (definition_named name definitions)
found_in (Some (RefusesText code at)) name = RefusedModule
found_in (Some (RefusesDefinition definition reason)) name = RefusedModule

-- what is found for an import: a definition of a module before, as it was vouched for
abbrev pub vouched_finding : Answered → ImportSyntax → Finding
vouched_finding answered one = found_in (lookup (bytes_eq one.source) answered) one.name

abbrev pub vouched_findings : Answered → List ImportSyntax → List Finding
vouched_findings answered imports = map (vouched_finding answered) imports

-- What is answered to definitions behind these, which are vouched for: the first one that is not decides.
pub data AreAnswered (devices : List DeviceDecl) (imports : List ImportSyntax) (findings : List Finding)
    (claims : List Claim) : List Definition → List CoreDefinition → Answer → Type 0 where
  no_more : {before : List Definition} → AreAnswered devices imports findings claims before [] (Vouches before)
  refused_first : {before : List Definition} {first : CoreDefinition} {rest : List CoreDefinition} {reason : Reason}
      → HasOutcome (record { devices = devices; imports = imports; findings = findings; before = before }) first claims
      (IsNotVouchedFor reason)
      → AreAnswered devices imports findings claims before (first ∷ rest) (RefusesDefinition first.name reason)
  vouched_first : {before : List Definition} {first : CoreDefinition} {rest : List CoreDefinition}
      {definition : Definition} {answer : Answer}
      → HasOutcome (record { devices = devices; imports = imports; findings = findings; before = before }) first claims
      (IsVouchedFor definition)
      → AreAnswered devices imports findings claims (before ++ definition ∷ []) rest answer
      → AreAnswered devices imports findings claims before (first ∷ rest) answer

-- What is answered to a module beside the devices, behind those that were answered. A text that is no module is refused as
-- such; then the first import for which no definition is found; then what names and normal form refuse; then the
-- definitions are gone through in order.
pub data HasAnswer (devices : List DeviceDecl) (answered : Answered) (it : ClaimedModule) : Answer → Type 0 where
  is_no_module : {code : Code} {at : Place} → HasReading it.source (IsNoModule code at)
      → HasAnswer devices answered it (RefusesText code at)
  import_is_missing : {tree : ModuleSyntax} {missing : Refusal} → HasReading it.source (IsTree tree)
      → first_missing tree.imports (vouched_findings answered tree.imports) ≡ Some missing
      → HasAnswer devices answered it (RefusesText missing.code missing.at)
  is_not_elaborated : {tree : ModuleSyntax} {code : Code} {at : Place} → HasReading it.source (IsTree tree)
      → first_missing tree.imports (vouched_findings answered tree.imports) ≡ None
      → elaboration (device_names devices) tree ≡ elaborated.IsRefused code at
      → HasAnswer devices answered it (RefusesText code at)
  is_gone_through : {tree : ModuleSyntax} {core : CoreModule} {answer : Answer} → HasReading it.source (IsTree tree)
      → first_missing tree.imports (vouched_findings answered tree.imports) ≡ None
      → elaboration (device_names devices) tree ≡ elaborated.IsElaborated core
      → AreAnswered devices tree.imports (vouched_findings answered tree.imports) it.claims [] core.definitions answer
      → HasAnswer devices answered it answer

-- What is answered to modules in order, behind those that were answered.
pub data HaveAnswers (devices : List DeviceDecl) : Answered → List ClaimedModule → List Answer → Type 0 where
  none_left : {answered : Answered} → HaveAnswers devices answered [] []
  and_then : {answered : Answered} {first : ClaimedModule} {rest : List ClaimedModule} {answer : Answer}
      {answers : List Answer} → HasAnswer devices answered first answer
      → HaveAnswers devices (answered ++ (first.name, answer) ∷ []) rest answers
      → HaveAnswers devices answered (first ∷ rest) (answer ∷ answers)
