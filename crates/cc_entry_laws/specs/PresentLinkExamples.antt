-- Links of definitions by example.
use Rattle.std.specs.Prelude.{◌≡◌, ◌↔◌, ℕ, Bool, true, false, codes, List, [], ◌∷◌}
use Rattle.cc_capture.specs.declared.var.Var.TheVariants.{Free}
use Rattle.cc_capture.specs.declared.var.Elem.TheVariants.{Var as Variable, Cap}
use Rattle.cc_capture.specs.Sets.{Set, from_list}
use Rattle.cc_core.specs.Shapes.{capturing}
use Rattle.cc_core.specs.Terms.{Absent}
use Rattle.cc_explain.specs.Chains.{IsChain}
use Rattle.cc_grammar.specs.Syntax.{ImportSyntax}
use Rattle.cc_entry_laws.specs.ExampleEntries.{main, two_texts, two_verdicts, printer, first_line}
use Rattle.cc_verdicts.specs.ExampleModules.{console}
use Rattle.cc_verdicts.specs.ModuleVerdicts.{CheckedDefinition}
use Rattle.cc_verdicts.specs.StandingDefinitions.{Standing}
use Rattle.cc_entry_laws.specs.PresentLinks.{Target, DefinitionOf, DeviceAt, Universal, standing_entry, entry_in}

-- a definition of the name, with the set in its type
abbrev pub captures : List ℕ → Bool → Set → CheckedDefinition
captures name recursive set = record {
  name = name;
  recursive = recursive;
  accepted = record {
    note = Absent;
    filled = main.accepted.filled;
    type = capturing printer set;
    signature = capturing printer set;
  };
}

-- two imports
abbrev pub imports : List ImportSyntax
imports =
    record { source = codes "logger"; at = first_line 8; name = codes "line"; name_at = first_line 15 }
    ∷ record { source = codes "counter"; at = first_line 8; name = codes "next"; name_at = first_line 16 }
    ∷ []

-- Beside one device, after two imports and one definition, where the set has all that may be named: the device, the
-- imports, the definition before, and the universal capability. They stand in the order of positions, whatever the order
-- in which the set was made.
abbrev pub all_set : Set
all_set = from_list (Cap ∷ Variable (Free 3) ∷ Variable (Free 1) ∷ Variable (Free 0) ∷ Variable (Free 2) ∷ [])

abbrev pub third : Bool → Set → Standing
third recursive set = record {
  imports = imports;
  findings = [];
  before = captures (codes "helper") false (from_list []) ∷ [];
  definition = captures (codes "run") recursive set;
}

abbrev pub PositionsInOrder : Type 0
PositionsInOrder =
    standing_entry console (codes "app") (third false all_set)
    ≡ DeviceAt 0
    ∷ DefinitionOf (codes "logger") (codes "line")
    ∷ DefinitionOf (codes "counter") (codes "next")
    ∷ DefinitionOf (codes "app") (codes "helper")
    ∷ Universal
    ∷ []

-- the position behind those is a recursive definition's own, and no other's
abbrev pub OwnPositionIsLast : Type 0
OwnPositionIsLast =
    (standing_entry console (codes "app") (third true (from_list (Variable (Free 4) ∷ [])))
    ≡ DefinitionOf (codes "app") (codes "run") ∷ [])
    × (standing_entry console (codes "app") (third false (from_list (Variable (Free 4) ∷ []))) ≡ [])

-- In two modules main names the imported line, and line the console.
abbrev pub app_main : Target
app_main = DefinitionOf (codes "app") (codes "main")

abbrev pub lib_line : Target
lib_line = DefinitionOf (codes "lib") (codes "line")

abbrev pub EntriesOfTwoModules : Type 0
EntriesOfTwoModules =
    (entry_in console two_texts two_verdicts app_main ≡ lib_line ∷ [])
    × (entry_in console two_texts two_verdicts lib_line ≡ DeviceAt 0 ∷ [])
    × (entry_in console two_texts two_verdicts (DefinitionOf (codes "app") (codes "five")) ≡ [])
    × (entry_in console two_texts two_verdicts (DefinitionOf (codes "app") (codes "line")) ≡ [])

-- So it is by line that main has the console, and by nothing else.
abbrev pub ChainThroughTheLibrary : Type 0
ChainThroughTheLibrary =
    (chain : List Target)
    → IsChain (entry_in console two_texts two_verdicts) app_main (DeviceAt 0) chain
    ↔ (chain ≡ app_main ∷ lib_line ∷ DeviceAt 0 ∷ [])
