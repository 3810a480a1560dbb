-- Accepted modules and one that is refused for its types, by example, beside a console `out`.
use Rattle.std.specs.Prelude.{ℕ, codes, List, [], ◌∷◌}
use Rattle.cc_core.specs.Programs.{Module}
use Rattle.cc_device.specs.Declarations.{declared_bases}
use Rattle.cc_mnf.specs.ElaboratedModules.{device_names}
use Rattle.cc_verdicts.specs.ExampleModules.{console, two_lines}
use Rattle.cc_verdicts.specs.PresentTexts.{Texts}
use Rattle.cc_entry_laws.specs.ExampleEntries.{two_texts, main_entry}
use Rattle.cc_entry_laws.specs.PresentEntries.{program_entry}
use Rattle.cc_sound_laws.specs.AcceptedModules.{IsAcceptedBehind}
use Rattle.cc_sound_laws.specs.AcceptedEntries.{IsAcceptedEntry}
use Rattle.cc_sound_laws.specs.VerdictsByTypes.{IsRefusedForItsTypes}

-- The worked entry, of app.main, is one of accepted modules: lib, and app behind it.
abbrev pub MainIsAccepted : Type 0
MainIsAccepted = IsAcceptedEntry (device_names console) (declared_bases console) two_texts (program_entry main_entry)

-- def a = 1
-- def b = fun (u: Unit) => u(u)
abbrev pub untyped_text : List ℕ
untyped_text = two_lines (codes "def a = 1") (codes "def b = fun (u: Unit) => u(u)")

abbrev pub untyped_texts : Texts
untyped_texts = (codes "m", untyped_text) ∷ []

-- The first definition is accepted, and the second has no type, since a unit is no function.
abbrev pub UnitsAreNoFunctions : Type 0
UnitsAreNoFunctions = IsRefusedForItsTypes console [] untyped_text

-- import x.f
-- def a = 1
abbrev pub importing_texts : Texts
importing_texts = (codes "m", two_lines (codes "import x.f") (codes "def a = 1")) ∷ []

-- Behind no module none is accepted that imports something.
abbrev pub ImportsWantEarlierModules : Type 0
ImportsWantEarlierModules =
    (current : Module)
    → IsAcceptedBehind (device_names console) (declared_bases console) importing_texts [] current → ⊥
