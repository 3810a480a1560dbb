-- Modules that are accepted one behind another, each with what it imports before it. Where imports lead in a circle,
-- none of the modules in it can be the first, so none is accepted.
use Rattle.std.specs.Prelude.{◌≡◌, ℕ, false, List, length, map, reverse, Some, IsTrue, is_some}
use Rattle.std.specs.List.{AllByRecursion}
use Rattle.cc_base.specs.declared.literal.Base.{Base}
use Rattle.cc_core.specs.Contexts.{Context}
use Rattle.cc_core.specs.Programs.{Import, Module, imported, device_context, import_context, OfEachModule, is_listed}
use Rattle.cc_grammar.specs.Syntax.{ModuleSyntax}
use Rattle.cc_mnf.specs.ElaboratedModules.{CoreModule, IsElaborated, elaboration}
use Rattle.cc_verdicts.specs.PresentTexts.{Texts, text_of}
use Rattle.cc_entry_laws.specs.PresentEntries.{import_of}
use Rattle.cc_sound_laws.specs.DefinedAs.{AreAcceptedAs}
use Rattle.cc_sound_laws.specs.ModuleTexts.{IsModuleText}

-- what a tree imports, by names alone
abbrev pub imports_in : ModuleSyntax → List Import
imports_in tree = map import_of tree.imports

-- The text may be asked for its types behind earlier modules: it is a module; each of its imports names a definition of
-- one of them; and its names, beside those of the devices, and its normal form are not refused.
pub record IsReadBehind (names : List (List ℕ)) (earlier : List Module) (text : List ℕ) (tree : ModuleSyntax)
    (core : CoreModule) : Type 0 where
  pub is_module : IsModuleText text tree
  pub found : AllByRecursion (λ one. IsTrue (is_some (imported earlier one))) (imports_in tree)
  pub elaborated : elaboration names tree ≡ IsElaborated core

-- the globals of its first definition: the devices of the shapes, and the signatures of what it imports
abbrev pub globals_behind : List Base → List Module → ModuleSyntax → Context
globals_behind shapes earlier tree = import_context (device_context shapes) earlier (reverse (imports_in tree))

-- The module is accepted behind earlier ones, beside devices of the names and shapes: it is none of them, its text may
-- be asked for its types behind them, and its definitions are accepted as these.
pub record IsAcceptedBehind (names : List (List ℕ)) (shapes : List Base) (texts : Texts) (earlier : List Module)
    (current : Module) : Type 0 where
  pub is_new : is_listed earlier current.name ≡ false
  pub text : List ℕ
  pub there : text_of texts current.name ≡ Some text
  pub tree : ModuleSyntax
  pub core : CoreModule
  pub reads : IsReadBehind names earlier text tree core
  pub has_imports : current.imports ≡ imports_in tree
  pub accepted : AreAcceptedAs (length shapes) (globals_behind shapes earlier tree) core.definitions current.definitions

-- the modules are accepted one behind another, the newest first
abbrev pub AreAccepted : List (List ℕ) → List Base → Texts → List Module → Type 0
AreAccepted names shapes texts = OfEachModule (IsAcceptedBehind names shapes texts)
