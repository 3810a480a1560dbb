-- Verdicts of present texts, by computation.
use Rattle.std.proofs.Common.{◌≡◌, ℕ, List, [], ◌∷◌, Some, refl, sym, subst, inl, inr}
use Rattle.std.proofs.lemmas.Bool.{cases_Bool}
use Rattle.std.proofs.lemmas.Option.{same_Some}
use Rattle.std.specs.List.{AllByRecursion}
use Rattle.std.specs.Str.{bytes_eq}
use Rattle.cc_base.specs.declared.code.Code.{Code}
use Rattle.cc_base.specs.declared.device.DeviceDecl.{DeviceDecl}
use Rattle.cc_base.specs.declared.place.Place.{Place}
use Rattle.cc_graph.proofs.NameLemmas.{same_name}
use Rattle.cc_grammar.specs.Syntax.{ModuleSyntax}
use Rattle.cc_verdicts.specs.ModuleVerdicts.{Finding, ModuleVerdict, IsAccepted, IsRefused, HasModuleVerdict, is_no_module}
use Rattle.cc_verdicts.specs.PresentTexts.{Texts, text_of, findings_for, AreVerdicts}
use Rattle.cc_verdicts.specs.Readings.{IsTree, IsNoModule, HasReading, reading_of_text}
use Rattle.cc_verdicts.proofs.ReadingLaws.{text_has_one_reading}

-- what holds of each present text holds of the text of a name
of_text : (P : List ℕ → List ℕ → Type 0) (texts : Texts) → AllByRecursion (λ one. P one.0 one.1) texts
    → (name text : List ℕ) → text_of texts name ≡ Some text → P name text
of_text P [] all name text is = cc
of_text P (first ∷ rest) all name text is =
    elim (cases_Bool (bytes_eq name first.0)) [
      | inl same ↦
          (let found = rw same at is in
          subst (λ n. P n text) (sym (same_name name first.0 same))
          (subst (λ t. P first.0 t) (same_Some first.1 text found) all.0))
      | inr other ↦ of_text P rest all.1 name text (rw other at is)
    ]

-- each present text has its verdict
abbrev pub HasItsVerdict : List DeviceDecl → Texts → (List ℕ → ModuleVerdict) → List ℕ → List ℕ → Type 0
HasItsVerdict devices texts verdicts name text =
    HasModuleVerdict devices text (findings_for texts verdicts name text) (verdicts name)

pub are_verdicts : (devices : List DeviceDecl) (texts : Texts) (verdicts : List ℕ → ModuleVerdict)
    → AllByRecursion (λ one. HasItsVerdict devices texts verdicts one.0 one.1) texts → AreVerdicts devices texts verdicts
are_verdicts devices texts verdicts all name text is = of_text (HasItsVerdict devices texts verdicts) texts all name text is

-- no text is present
pub none_present : (devices : List DeviceDecl) (verdicts : List ℕ → ModuleVerdict) → AreVerdicts devices [] verdicts
none_present devices verdicts = are_verdicts devices [] verdicts tt

pub tree_of : (text : List ℕ) (tree : ModuleSyntax) → IsTree tree ≡ reading_of_text text → HasReading text (IsTree tree)
tree_of text tree is = (text_has_one_reading text (IsTree tree)).1 is

-- a text that is no module
pub no_module : (devices : List DeviceDecl) (text : List ℕ) (findings : List Finding) (code : Code) (at : Place)
    → IsNoModule code at ≡ reading_of_text text → HasModuleVerdict devices text findings (IsRefused code at)
no_module devices text findings code at is = is_no_module ((text_has_one_reading text (IsNoModule code at)).1 is)
