-- Modules that stand beside others, by example: what is found for their imports, the import graph, and the context and the
-- names before a definition.
use Rattle.std.specs.Prelude.{◌≡◌, ℕ, Bool, true, false, pos, codes, List, [], ◌∷◌, Some, None, Ok, Err}
use Rattle.std.specs.Prelude.{if◌then◌else◌}
use Rattle.std.specs.Str.{bytes_eq}
use Rattle.cc_base.specs.Literals.{NumberLiteral}
use Rattle.cc_base.specs.declared.code.Code.TheVariants.{E05, E06, E07, E08, E13, E32, E33, E34}
use Rattle.cc_base.specs.declared.literal.Base.TheVariants as bases
use Rattle.cc_capture.specs.Sets.{empty}
use Rattle.cc_core.specs.Contexts.{entry_of}
use Rattle.cc_core.specs.Shapes.{BaseShape, BoxShape, CapturingType, capturing}
use Rattle.cc_core.specs.Terms.{Absent, LiteralTerm}
use Rattle.cc_grammar.specs.Syntax.{ImportSyntax}
use Rattle.cc_verdicts.specs.ModuleVerdicts.{CheckedDefinition, Finding, FoundDefinition, NoModule, InCycle}
use Rattle.cc_verdicts.specs.ModuleVerdicts.{RefusedModule, NoDefinition, ModuleVerdict, IsAccepted, IsRefused}
use Rattle.cc_verdicts.specs.ModuleVerdicts.{declared_context}
use Rattle.cc_verdicts.specs.PresentTexts.{Texts, text_of, others_present, graph_of, definition_named, finding_for}
use Rattle.cc_verdicts.specs.StandingDefinitions.{context_behind, names_behind, first_named, standing_in}
use Rattle.cc_worked_texts.specs.TextVerdicts.{devices, place, RefusesWith, AcceptsWith, number_found}

-- An import for which no definition is found is refused by what is found for it.
pub record CodesOfImports : Type 0 where
  pub no_module : RefusesWith (NoModule ∷ []) (codes "import m.d") E05 (place 1 8)
  pub no_definition : RefusesWith (NoDefinition ∷ []) (codes "import m.d") E06 (place 1 8)
  pub refused_module : RefusesWith (RefusedModule ∷ []) (codes "import m.d") E07 (place 1 8)
  pub in_a_cycle : RefusesWith (InCycle ∷ []) (codes "import m.d") E08 (place 1 8)
  pub found : AcceptsWith (number_found ∷ []) (codes "import m.d") []

-- numbers, and boxes of them
abbrev pub number : CapturingType
number = capturing (BaseShape bases.Int) empty

abbrev pub box : CapturingType
box = capturing (BoxShape (BaseShape bases.Int) empty) empty

-- a checked definition of the name and the type, which is recursive or not
abbrev pub checked : List ℕ → Bool → CapturingType → CheckedDefinition
checked name recursive type = record {
  name = name;
  recursive = recursive;
  accepted =
      record { note = Absent; filled = LiteralTerm (NumberLiteral (pos 1)); type = type; signature = type };
}

-- an import from the module
abbrev pub import_from : List ℕ → List ℕ → ImportSyntax
import_from source name = record { source = source; at = place 1 8; name = name; name_at = place 1 10 }

-- two imports, and definitions behind them
abbrev pub imports : List ImportSyntax
imports = import_from (codes "m") (codes "i") ∷ import_from (codes "n") (codes "j") ∷ []

abbrev pub before : List CheckedDefinition
before = checked (codes "a") false number ∷ checked (codes "b") true box ∷ []

-- A definition stands behind the devices, what is found for the imports, and the definitions before it, each in order; a
-- recursive one has itself behind these.
pub record BehindOthers : Type 0 where
  pub names : names_behind devices imports before (checked (codes "c") false number)
      ≡ codes "out" ∷ codes "hits" ∷ codes "i" ∷ codes "j" ∷ codes "a" ∷ codes "b" ∷ []
  pub names_and_itself : names_behind devices imports before (checked (codes "c") true number)
      ≡ codes "out" ∷ codes "hits" ∷ codes "i" ∷ codes "j" ∷ codes "a" ∷ codes "b" ∷ codes "c" ∷ []
  pub names_of_no_import : names_behind devices [] before (checked (codes "c") false number)
      ≡ codes "out" ∷ codes "hits" ∷ codes "a" ∷ codes "b" ∷ []
  pub names_of_no_device : names_behind [] imports [] (checked (codes "c") true number)
      ≡ codes "i" ∷ codes "j" ∷ codes "c" ∷ []
  pub context : context_behind devices (FoundDefinition box ∷ FoundDefinition number ∷ []) before
      (checked (codes "c") false box)
      ≡ entry_of box ∷ entry_of number ∷ entry_of number ∷ entry_of box ∷ declared_context devices
  pub context_and_itself : context_behind devices (FoundDefinition box ∷ FoundDefinition number ∷ []) before
      (checked (codes "c") true box)
      ≡ entry_of box ∷ entry_of box ∷ entry_of number ∷ entry_of number ∷ entry_of box ∷ declared_context devices

-- The first definition of a name counts.
pub record FirstOfTheName : Type 0 where
  pub first : first_named (codes "a") before ≡ Some ([], checked (codes "a") false number)
  pub second : first_named (codes "b") before
      ≡ Some (checked (codes "a") false number ∷ [], checked (codes "b") true box)
  pub none : first_named (codes "c") before ≡ None
  pub first_of_two : first_named (codes "a") (checked (codes "a") false box ∷ before)
      ≡ Some ([], checked (codes "a") false box)
  pub named : definition_named (codes "b") before ≡ Some (checked (codes "b") true box)
  pub not_named : definition_named (codes "c") before ≡ None
  pub first_that_is_named : definition_named (codes "a") (checked (codes "a") false box ∷ before)
      ≡ Some (checked (codes "a") false box)

-- texts of modules: `a` imports from `b`; `c` and `d` from each other, and `c` from `a`; `e` from itself; `g` is no module
abbrev pub texts : Texts
texts =
    (codes "a", codes "import b.f") ∷ (codes "b", codes "def f = 1") ∷ (codes "c", codes "import a.x import d.x")
    ∷ (codes "d", codes "import c.x") ∷ (codes "e", codes "import e.x") ∷ (codes "g", codes "def") ∷ []

-- where all are refused but `b`
abbrev pub verdict_of : List ℕ → ModuleVerdict
verdict_of name =
    if bytes_eq name (codes "b")
    then IsAccepted (checked (codes "f") false number ∷ [])
    else IsRefused E13 (place 1 1)

-- what is found for the import in the module of the name
abbrev pub Finds : List ℕ → ImportSyntax → Finding → Type 0
Finds name one finding = finding_for texts verdict_of name one ≡ finding

-- The import graph has the modules among the present texts, with the modules that they import from.
pub record ImportsOfTexts : Type 0 where
  pub graph : graph_of texts
      ≡ (codes "a", codes "b" ∷ []) ∷ (codes "b", []) ∷ (codes "c", codes "a" ∷ codes "d" ∷ [])
      ∷ (codes "d", codes "c" ∷ []) ∷ (codes "e", codes "e" ∷ []) ∷ []
  pub present : text_of texts (codes "b") ≡ Some (codes "def f = 1")
  pub absent : text_of texts (codes "f") ≡ None
  pub others : others_present (codes "b") texts ≡ 5
  pub others_of_an_absent_one : others_present (codes "f") texts ≡ 6
  -- what is found by the module that is named
  pub definition : Finds (codes "a") (import_from (codes "b") (codes "f")) (FoundDefinition number)
  pub no_definition : Finds (codes "a") (import_from (codes "b") (codes "a")) NoDefinition
  pub no_module : Finds (codes "a") (import_from (codes "f") (codes "f")) NoModule
  pub in_a_cycle : Finds (codes "c") (import_from (codes "d") (codes "x")) InCycle
  pub in_its_own_cycle : Finds (codes "e") (import_from (codes "e") (codes "x")) InCycle
  pub behind_a_cycle : Finds (codes "g") (import_from (codes "d") (codes "x")) RefusedModule
  pub imported_by_a_cycle : Finds (codes "c") (import_from (codes "a") (codes "x")) RefusedModule
  pub not_a_module : Finds (codes "a") (import_from (codes "g") (codes "x")) RefusedModule

-- A definition stands in an accepted present module; or else the first of these is missing.
pub record StandingByName : Type 0 where
  pub stands : standing_in texts verdict_of (codes "b") (codes "f")
      ≡ Ok (record { imports = []; findings = []; before = []; definition = checked (codes "f") false number })
  pub no_module : standing_in texts verdict_of (codes "f") (codes "f") ≡ Err E32
  pub no_definition : standing_in texts verdict_of (codes "b") (codes "b") ≡ Err E33
  pub refused : standing_in texts verdict_of (codes "a") (codes "f") ≡ Err E34
