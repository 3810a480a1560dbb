-- The verdicts of present texts are those of their types: a module's verdict is accepted exactly where the module is
-- one of those that are accepted one behind another, as the same definitions.
use Rattle.std.specs.Prelude.{◌≡◌, ◌↔◌, ℕ, List, length, Some, IsTrue}
use Rattle.std.specs.List.{AllByRecursion, IsDistinct}
use Rattle.std.specs.Str.{bytes_eq}
use Rattle.cc_base.specs.declared.code.Code.{Code}
use Rattle.cc_base.specs.declared.device.DeviceDecl.{DeviceDecl}
use Rattle.cc_base.specs.declared.place.Place.{Place}
use Rattle.cc_core.specs.Programs.{Module, is_listed}
use Rattle.cc_device.specs.Declarations.{declared_bases}
use Rattle.cc_grammar.specs.Syntax.{ModuleSyntax}
use Rattle.cc_mnf.specs.ElaboratedModules.{CoreModule, device_names}
use Rattle.cc_verdicts.specs.ModuleVerdicts.{ModuleVerdict, IsRefused}
use Rattle.cc_verdicts.specs.PresentTexts.{Texts, ArePresent, text_of, AreVerdicts}
use Rattle.cc_entry_laws.specs.LinkOrders.{is_accepted_module}
use Rattle.cc_entry_laws.specs.PresentEntries.{program_module, present_module}
use Rattle.cc_entry_laws.specs.PresentFiles.{IsCodeOfDefinition}
use Rattle.cc_sound_laws.specs.DefinedAs.{OneHasNoType}
use Rattle.cc_sound_laws.specs.AcceptedModules.{IsReadBehind, globals_behind, AreAccepted}
use Rattle.cc_sound_laws.specs.SoundTexts.{OthersHaveNoTypes}

-- Where these modules are accepted the text is refused for its types.
abbrev pub IsRefusedForItsTypes : List DeviceDecl → List Module → List ℕ → Type 0
IsRefusedForItsTypes devices accepted text =
    (tree : ModuleSyntax) × (core : CoreModule) × IsReadBehind (device_names devices) accepted text tree core
    × OneHasNoType (length (declared_bases devices)) (globals_behind (declared_bases devices) accepted tree)
    core.definitions

-- The verdicts of present texts are by the types of these modules.
pub record AreByTypes (devices : List DeviceDecl) (texts : Texts) (verdicts : List ℕ → ModuleVerdict)
    (accepted : List Module) : Type 0 where
  -- they are accepted, one behind another
  pub are_accepted : AreAccepted (device_names devices) (declared_bases devices) texts accepted
  -- each other one that may be asked for its types has none
  pub others : OthersHaveNoTypes (device_names devices) (declared_bases devices) texts accepted
  -- a module is one of them exactly where it is present and its verdict is accepted
  pub exactly : (name : List ℕ) → IsTrue (is_listed accepted name) ↔ IsTrue (is_accepted_module texts verdicts name)
  -- each has the imports of its text and the definitions of its verdict, with the same values and signatures
  pub as_judged : AllByRecursion (λ current. current ≡ program_module (present_module texts verdicts current.name))
      accepted
  -- one that is refused with a code for definitions is refused for its types
  pub for_types : (name text : List ℕ) (code : Code) (at : Place) → text_of texts name ≡ Some text
      → verdicts name ≡ IsRefused code at → IsCodeOfDefinition code → IsRefusedForItsTypes devices accepted text

abbrev pub VerdictsAreByTypes : Type 0
VerdictsAreByTypes =
    (devices : List DeviceDecl) (texts : Texts) (verdicts : List ℕ → ModuleVerdict)
    → IsDistinct bytes_eq (device_names devices) → ArePresent texts → AreVerdicts devices texts verdicts
    → (accepted : List Module) × AreByTypes devices texts verdicts accepted
