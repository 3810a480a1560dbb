-- The entry of two modules by example, and a definition that has none.
use Rattle.std.specs.Prelude.{◌≡◌, ℕ, pos, false, codes, List, [], ◌∷◌, Some, Ok, Err, if◌then◌else◌}
use Rattle.std.specs.Str.{bytes_eq}
use Rattle.cc_base.specs.declared.code.Code.TheVariants.{E35}
use Rattle.cc_base.specs.declared.literal.Base.TheVariants as bases
use Rattle.cc_base.specs.declared.literal.Op.TheVariants as operations
use Rattle.cc_base.specs.declared.place.Place.{Place}
use Rattle.cc_base.specs.Literals.{NumberLiteral}
use Rattle.cc_capture.specs.declared.var.Var.TheVariants.{Bound, Free}
use Rattle.cc_capture.specs.Sets.{empty}
use Rattle.cc_core.specs.Captured.{variable_set}
use Rattle.cc_core.specs.Shapes.{Shape, FunctionShape, capturing}
use Rattle.cc_core.specs.Terms.{Absent, Written, LiteralTerm, FunctionTerm, Application, Let, Operation}
use Rattle.cc_checking.specs.ComparisonExamples.{number, nothing, printing}
use Rattle.cc_verdicts.specs.ExampleModules.{console, two_lines}
use Rattle.cc_verdicts.specs.ModuleVerdicts.{CheckedDefinition, ModuleVerdict, IsAccepted}
use Rattle.cc_verdicts.specs.PresentTexts.{Texts}
use Rattle.cc_entry_laws.specs.PresentEntries.{CheckedEntry, started_in, IsEntryOf}

-- Module lib, beside a console out:
--   def line: ((x: Int) -> Unit)^{out} = fun (x: Int) => out.print(x)
abbrev pub line : CheckedDefinition
line = record {
  name = codes "line";
  recursive = false;
  accepted = record {
    note = Written printing (variable_set (Free 0));
    filled = FunctionTerm number empty (Operation operations.Print (Free 0) (Some (Bound 0)));
    type = capturing printing (variable_set (Free 0));
    signature = capturing printing (variable_set (Free 0));
  };
}

abbrev pub library_text : List ℕ
library_text = codes "def line: ((x: Int) -> Unit)^{out} = fun (x: Int) => out.print(x)"

-- Module app, in which main captures line, and so the console:
--   import lib.line
--   def main = fun (u: Unit) => line(5)
--   def five = 5
abbrev pub printer : Shape
printer = FunctionShape nothing empty nothing empty

abbrev pub main : CheckedDefinition
main = record {
  name = codes "main";
  recursive = false;
  accepted = record {
    note = Absent;
    filled = FunctionTerm nothing empty
        (Let Absent (LiteralTerm (NumberLiteral (pos 5))) (Application (Free 1) (Bound 0)));
    type = capturing printer (variable_set (Free 1));
    signature = capturing printer (variable_set (Free 0));
  };
}

abbrev pub five : CheckedDefinition
five = record {
  name = codes "five";
  recursive = false;
  accepted = record {
    note = Absent;
    filled = LiteralTerm (NumberLiteral (pos 5));
    type = capturing number empty;
    signature = capturing number empty;
  };
}

abbrev pub application_text : List ℕ
application_text =
    two_lines (codes "import lib.line") (two_lines (codes "def main = fun (u: Unit) => line(5)") (codes "def five = 5"))

-- the present texts
abbrev pub two_texts : Texts
two_texts = (codes "app", application_text) ∷ (codes "lib", library_text) ∷ []

-- their verdicts
abbrev pub two_verdicts : List ℕ → ModuleVerdict
two_verdicts name = if bytes_eq name (codes "lib") then IsAccepted (line ∷ []) else IsAccepted (main ∷ five ∷ [])

abbrev pub first_line : ℕ → Place
first_line column = record { line = 1; col = column }

-- The entry app.main: lib comes first, since app imports from it. The import has its places, and the definitions have
-- their notes and the types that they were found to have.
abbrev pub main_entry : CheckedEntry
main_entry = record {
  devices = bases.Console ∷ [];
  modules =
      record { name = codes "lib"; imports = []; definitions = line ∷ [] }
      ∷ record {
        name = codes "app";
        imports =
            record { source = codes "lib"; at = first_line 8; name = codes "line"; name_at = first_line 12 } ∷ [];
        definitions = main ∷ five ∷ [];
      }
      ∷ [];
  module_name = codes "app";
  definition_name = codes "main";
  authority = 0 ∷ [];
}

-- It is that of main, which may operate the console.
abbrev pub MainHasItsEntry : Type 0
MainHasItsEntry =
    (started_in two_texts two_verdicts (codes "app") (codes "main") ≡ Ok main)
    × IsEntryOf console two_texts two_verdicts (codes "app") (codes "main") main main_entry

-- A number takes no unit.
abbrev pub NumbersHaveNone : Type 0
NumbersHaveNone = started_in two_texts two_verdicts (codes "app") (codes "five") ≡ Err E35
