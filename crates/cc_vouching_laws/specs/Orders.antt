-- Accepted modules, each behind those that it imports from, are vouched for one after another.
use Rattle.std.specs.Prelude.{◌≡◌, ℕ, Bool, List, [], ◌∷◌, ◌++◌, map, IsTrue, Some}
use Rattle.std.specs.List.{AllByRecursion, list_any}
use Rattle.std.specs.Str.{bytes_eq}
use Rattle.cc_base.specs.declared.device.DeviceDecl.{DeviceDecl}
use Rattle.cc_grammar.specs.Syntax.{ImportSyntax}
use Rattle.cc_verdicts.specs.ModuleVerdicts.{CheckedDefinition, ModuleVerdict, IsAccepted, in_program}
use Rattle.cc_verdicts.specs.PresentTexts.{Texts, ArePresent, text_of, findings_for, AreVerdicts}
use Rattle.cc_verdicts.specs.Readings.{imports_of}
use Rattle.cc_certificate_laws.specs.ModuleCertificates.{AreNamed}
use Rattle.cc_vouching.specs.Submissions.{ClaimedModule}
use Rattle.cc_vouching.specs.VouchedModules.{Answer, Vouches, HaveAnswers}
use Rattle.cc_vouching_laws.specs.Completeness.{claims_behind, AreFew}

-- An accepted present module whose definitions have derivations with few enough nodes.
pub record AcceptedModule (devices : List DeviceDecl) (texts : Texts) (verdicts : List ℕ → ModuleVerdict) : Type 0 where
  pub name : List ℕ
  pub text : List ℕ
  pub imports : List ImportSyntax
  pub checked : List CheckedDefinition
  pub present : text_of texts name ≡ Some text
  pub imports_are : imports_of text ≡ Some imports
  pub accepted : verdicts name ≡ IsAccepted checked
  pub few : AreFew devices (findings_for texts verdicts name text) [] checked

module _ (devices : List DeviceDecl) (texts : Texts) (verdicts : List ℕ → ModuleVerdict) where
  -- the module with the certificates of its definitions
  abbrev pub submitted : AcceptedModule devices texts verdicts → ClaimedModule
  submitted it = record {
    name = it.name;
    source = it.text;
    claims = claims_behind devices it.imports (findings_for texts verdicts it.name it.text) [] it.checked;
  }

  -- that its definitions are vouched for, with their signatures
  abbrev pub vouched_so : AcceptedModule devices texts verdicts → Answer
  vouched_so it = Vouches (map in_program it.checked)

  -- whether one of the modules has the name
  abbrev pub is_among : List (AcceptedModule devices texts verdicts) → List ℕ → Bool
  is_among modules name = list_any (λ it. bytes_eq name it.name) modules

  -- each of the modules imports from those before it alone
  abbrev pub AreInOrder : List (AcceptedModule devices texts verdicts) → List (AcceptedModule devices texts verdicts)
      → Type 0
  AreInOrder before [] = Unit {0}
  AreInOrder before (first ∷ rest) =
      AllByRecursion (λ (one : ImportSyntax). IsTrue (is_among before one.source)) first.imports
      × AreInOrder (before ++ first ∷ []) rest

abbrev pub AcceptedModulesInOrderAreVouchedFor : Type 0
AcceptedModulesInOrderAreVouchedFor =
    (devices : List DeviceDecl) (texts : Texts) (verdicts : List ℕ → ModuleVerdict)
    (modules : List (AcceptedModule devices texts verdicts)) → AreNamed devices → ArePresent texts
    → AreVerdicts devices texts verdicts → AreInOrder devices texts verdicts [] modules
    → HaveAnswers devices [] (map (submitted devices texts verdicts) modules)
    (map (vouched_so devices texts verdicts) modules)
