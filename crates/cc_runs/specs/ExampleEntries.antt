-- Entries with their modules, by example: what they are linked to, and that they are entries.
use Rattle.std.specs.Prelude.{◌≡◌, ℕ, Bool, true, false, List, [], ◌∷◌, reverse, codes}
use Rattle.cc_base.specs.declared.literal.Base.TheVariants as bases
use Rattle.cc_base.specs.declared.literal.Operator.TheVariants as operators
use Rattle.cc_capture.specs.declared.var.Var.TheVariants.{Bound, Free}
use Rattle.cc_capture.specs.Sets.{Set, empty}
use Rattle.cc_core.specs.Shapes.{Shape, FunctionShape, capturing}
use Rattle.cc_core.specs.Terms.{Written, Term, FunctionTerm, Application, Primitive, Conditional}
use Rattle.cc_core.specs.Captured.{variable_set}
use Rattle.cc_core.specs.Programs.{Import, Definition, Module, Entry, are_in_order, AreInOrder, IsEntry}
use Rattle.cc_runs.specs.ExamplePrograms.{number, whole_numbers, nothing, of_number, val, two_devices, two_cells}
use Rattle.cc_runs.specs.ExamplePrograms.{out, prints_number, defining, printed, done_with_unit, RunsTo}
use Rattle.cc_runs.specs.Interleavings.{state_of}
use Rattle.cc_runs.specs.Links.{entry_store, entry_position, program_start}

-- a definition that does not name itself, and one that may
abbrev pub defined : List ℕ → Term → Shape → Set → Definition
defined name value shape set =
    record { name = name; value = value; signature = capturing shape set; is_recursive = false }

abbrev pub recursive : List ℕ → Term → Shape → Set → Definition
recursive name value shape set =
    record { name = name; value = value; signature = capturing shape set; is_recursive = true }

-- the shape of functions of one type to another that capture nothing of their own
abbrev pub functions : Shape → Set → Shape → Shape
functions takes set gives = FunctionShape takes set gives empty

-- Module lib:
--   def line: ((x: Int) -> Unit)^{out} = fun (x: Int) => out.print(x)
--   def rec down: (n: Int) -> Int = fun (n: Int) =>
--     val one = 1; val ends = n < one; if [Int] ends then 0 else val next = n - one; down(next)
abbrev pub counts_down : Term → Term
counts_down calls_next =
    of_number
    (val (number 1)
    (val (Primitive operators.Less (Bound 1) (Bound 0))
    (Conditional (Written whole_numbers empty) (Bound 0) (number 0)
    (val (Primitive operators.Sub (Bound 2) (Bound 1)) calls_next))))

-- the function that is called is a position, and the argument is the variable of the newest binder
abbrev pub call_of : ℕ → Term
call_of function = Application (Free function) (Bound 0)

abbrev pub library : Module
library = record {
  name = codes "lib";
  imports = [];
  definitions =
      defined (codes "line") prints_number (functions whole_numbers empty nothing) (variable_set out)
      ∷ recursive (codes "down") (counts_down (call_of 3)) (functions whole_numbers empty whole_numbers) empty
      ∷ [];
}

-- Module app, whose parameter has a set:
--   import lib.down
--   import lib.line
--   def from = 3
--   def main: ((u: Unit^{out}) -> Unit)^{out} = fun (u: Unit^{out}) => val end = down(from); line(end)
abbrev pub prints_what_is_left : ℕ → ℕ → ℕ → Term
prints_what_is_left down from line =
    FunctionTerm nothing (variable_set out) (val (Application (Free down) (Free from)) (call_of line))

abbrev pub application : Module
application = record {
  name = codes "app";
  imports =
      record { module_name = codes "lib"; definition_name = codes "down" }
      ∷ record { module_name = codes "lib"; definition_name = codes "line" }
      ∷ [];
  definitions =
      defined (codes "from") (number 3) whole_numbers empty
      ∷ defined (codes "main") (prints_what_is_left 2 4 3)
      (functions nothing (variable_set out) nothing) (variable_set out)
      ∷ [];
}

-- the entry app.main, over the console out and the counter hits
abbrev pub main_entry : Entry
main_entry = record {
  devices = bases.Console ∷ bases.Counter ∷ [];
  modules = library ∷ application ∷ [];
  module_name = codes "app";
  definition_name = codes "main";
  authority = 0 ∷ [];
}

-- it has all that an entry has
abbrev pub MainIsAnEntry : Type 0
MainIsAnEntry = IsEntry main_entry

-- In the linked store line and down stand before from and main, whatever the order of the imports, and down names
-- itself.
abbrev pub MainIsLinked : Type 0
MainIsLinked =
    (entry_store main_entry
    ≡ defining (prints_number ∷ counts_down (call_of 3) ∷ number 3 ∷ prints_what_is_left 3 4 2 ∷ []) two_cells)
    × (entry_position main_entry ≡ 5)

-- Its run counts down to 0, and prints that.
abbrev pub MainRuns : Type 0
MainRuns = RunsTo 100 (state_of two_devices (program_start main_entry)) (printed 0 ∷ []) done_with_unit 38

-- modules without definitions, and an import from one
abbrev pub module_with : List ℕ → List Import → Module
module_with name imports = record { name = name; imports = imports; definitions = [] }

abbrev pub import_from : List ℕ → Import
import_from name = record { module_name = name; definition_name = codes "f" }

abbrev pub importing : Module
importing = module_with (codes "a") (import_from (codes "z") ∷ [])

abbrev pub earlier_by_name : Module
earlier_by_name = module_with (codes "b") []

abbrev pub imported_from : Module
imported_from = module_with (codes "z") []

-- whether the modules stand in order
abbrev pub stand_in_order : List Module → Bool
stand_in_order modules = are_in_order [] (reverse modules)

-- Of three modules, where a imports from z: b is first, since it comes before z by name; a waits until z is listed.
abbrev pub ModulesStandInOrder : Type 0
ModulesStandInOrder =
    (stand_in_order (earlier_by_name ∷ imported_from ∷ importing ∷ []) ≡ true)
    × (stand_in_order (imported_from ∷ earlier_by_name ∷ importing ∷ []) ≡ false)
    × (stand_in_order (imported_from ∷ importing ∷ earlier_by_name ∷ []) ≡ false)
    × (stand_in_order (importing ∷ earlier_by_name ∷ imported_from ∷ []) ≡ false)
    × AreInOrder main_entry.modules
