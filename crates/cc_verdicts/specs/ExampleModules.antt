-- Worked verdicts of modules, each given as its text, beside a console `out`.
use Rattle.std.specs.Prelude.{◌≡◌, ℕ, false, codes, List, [], ◌∷◌, ◌++◌}
use Rattle.cc_base.specs.declared.code.Code.TheVariants.{E05, E06, E13}
use Rattle.cc_base.specs.declared.device.DeviceDecl.{DeviceDecl}
use Rattle.cc_base.specs.declared.device.Kind.TheVariants as kinds
use Rattle.cc_capture.specs.Sets.{empty}
use Rattle.cc_core.specs.Shapes.{BoxShape, capturing}
use Rattle.cc_checking.specs.ComparisonExamples.{number}
use Rattle.cc_checking.specs.ExampleChecks.{place}
use Rattle.cc_checking.specs.Verdicts.{Accepted}
use Rattle.cc_verdicts.specs.ModuleVerdicts.{NoModule, InCycle, NoDefinition, CheckedDefinition, IsAccepted, IsRefused}
use Rattle.cc_verdicts.specs.ModuleVerdicts.{HasModuleVerdict}

-- the declared devices
abbrev pub console : List DeviceDecl
console = record { name = codes "out"; kind = kinds.Console } ∷ []

-- a text of two lines
abbrev pub two_lines : List ℕ → List ℕ → List ℕ
two_lines one other = one ++ 10 ∷ other

-- import x.f
-- import y.g
-- The first import for which no definition is found decides, whatever is found for the second.
abbrev pub FirstImportDecides : Type 0
FirstImportDecides =
    HasModuleVerdict console (two_lines (codes "import x.f") (codes "import y.g")) (NoModule ∷ InCycle ∷ [])
    (IsRefused E05 (place 1 8))

-- import x.f
-- def out = 1
-- An import comes before the names, also where a name is refused.
abbrev pub ImportsComeBeforeNames : Type 0
ImportsComeBeforeNames =
    HasModuleVerdict console (two_lines (codes "import x.f") (codes "def out = 1")) (NoDefinition ∷ [])
    (IsRefused E06 (place 1 8))

-- def a = 1
-- def b = fun (u: Unit) => u(u)
-- The first definition is accepted, and the second decides.
abbrev pub SecondDefinitionIsRefused : Type 0
SecondDefinitionIsRefused =
    HasModuleVerdict console (two_lines (codes "def a = 1") (codes "def b = fun (u: Unit) => u(u)")) []
    (IsRefused E13 (place 2 26))

-- a definition of the name that is not recursive
abbrev pub named : List ℕ → Accepted → CheckedDefinition
named name accepted = record { name = name; recursive = false; accepted = accepted }

-- def a = 1
-- def b = box a
-- Both are accepted: a: Int, and b: Box[Int].
abbrev pub SecondNamesTheFirst : Type 0
SecondNamesTheFirst =
    (one other : Accepted)
    × HasModuleVerdict console (two_lines (codes "def a = 1") (codes "def b = box a")) []
    (IsAccepted (named (codes "a") one ∷ named (codes "b") other ∷ []))
    × (one.signature ≡ capturing number empty) × (other.signature ≡ capturing (BoxShape number empty) empty)
