-- Present texts are sound: some modules are accepted, others that may be asked for their types have none, and the
-- programs of accepted modules run together.
use Rattle.std.specs.Prelude.{◌≡◌, ℕ, false, List, length, map, Some}
use Rattle.std.specs.List.{AllByRecursion, IsDistinct}
use Rattle.std.specs.Str.{bytes_eq}
use Rattle.cc_base.specs.declared.device.Kind.{Kind}
use Rattle.cc_base.specs.declared.literal.Base.{Base}
use Rattle.cc_core.specs.Programs.{Module, Entry, is_listed}
use Rattle.cc_device.specs.Declarations.{declared_base}
use Rattle.cc_device.specs.Devices.{Devices}
use Rattle.cc_grammar.specs.Syntax.{ModuleSyntax}
use Rattle.cc_mnf.specs.ElaboratedModules.{CoreModule}
use Rattle.cc_runs.specs.SafeRuns.{HaveShapes}
use Rattle.cc_verdicts.specs.PresentTexts.{Texts, ArePresent, text_of}
use Rattle.cc_sound_laws.specs.RunningTogether.{RunTogether}
use Rattle.cc_sound_laws.specs.DefinedAs.{OneHasNoType}
use Rattle.cc_sound_laws.specs.AcceptedModules.{IsReadBehind, globals_behind, AreAccepted}
use Rattle.cc_sound_laws.specs.AcceptedEntries.{IsAcceptedEntry}

-- Where these modules are accepted, each other present text that may be asked for its types is refused for them: behind
-- definitions that are accepted one has no type.
abbrev pub OthersHaveNoTypes : List (List ℕ) → List Base → Texts → List Module → Type 0
OthersHaveNoTypes names shapes texts accepted =
    (name text : List ℕ) → text_of texts name ≡ Some text → is_listed accepted name ≡ false
    → (tree : ModuleSyntax) (core : CoreModule) → IsReadBehind names accepted text tree core
    → OneHasNoType (length shapes) (globals_behind shapes accepted tree) core.definitions

-- What holds of present texts beside devices of these names and shapes: modules of theirs are accepted, others are
-- refused, and the programs of all entries of accepted modules run together, on devices of the shapes in any states.
pub record AreSoundTexts (names : List (List ℕ)) (shapes : List Base) (texts : Texts) : Type 0 where
  pub accepted : List Module
  pub are_accepted : AreAccepted names shapes texts accepted
  pub others : OthersHaveNoTypes names shapes texts accepted
  pub run_together : (entries : List Entry) → AllByRecursion (IsAcceptedEntry names shapes texts) entries
      → (states : Devices) → HaveShapes states shapes → RunTogether entries states

-- Present texts are sound beside devices that are declared by different names, each of a kind.
abbrev pub PresentTextsAreSound : Type 0
PresentTextsAreSound =
    (devices : List (List ℕ × Kind)) (texts : Texts) → IsDistinct bytes_eq (map (λ one. one.0) devices)
    → ArePresent texts → AreSoundTexts (map (λ one. one.0) devices) (map (λ one. declared_base one.1) devices) texts
