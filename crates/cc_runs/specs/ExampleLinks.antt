-- Entries by example: modules that have a definition of one name each, an entry with every authority, and one with a
-- boundary.
use Rattle.std.specs.Prelude.{◌≡◌, ℕ, List, [], ◌∷◌, Some, None, codes}
use Rattle.cc_base.specs.declared.literal.Base.TheVariants as bases
use Rattle.cc_capture.specs.declared.var.Elem.TheVariants.{Cap}
use Rattle.cc_capture.specs.declared.var.Var.TheVariants.{Bound, Free}
use Rattle.cc_capture.specs.Sets.{empty}
use Rattle.cc_core.specs.Terms.{Term, VariableTerm, Application}
use Rattle.cc_core.specs.Substitution.{single}
use Rattle.cc_core.specs.Captured.{variable_set}
use Rattle.cc_core.specs.Programs.{Module, Entry, IsEntry}
use Rattle.cc_runs.specs.ExampleEntries.{defined, functions}
use Rattle.cc_runs.specs.ExamplePrograms.{number, nothing, entry_with, val, two_devices, two_cells, out, print}
use Rattle.cc_runs.specs.ExamplePrograms.{defining, printed, done_with_unit, RunsTo}
use Rattle.cc_runs.specs.ExampleTasks.{boundary_entry}
use Rattle.cc_runs.specs.Interleavings.{state_of}
use Rattle.cc_runs.specs.Links.{entry_store, entry_position, position_of, program_start}

-- fun (u: Unit) => val w = out.print(n); u
abbrev pub prints_and_gives_back : ℕ → Term
prints_and_gives_back n = entry_with (val (val (number n) (print (Bound 0))) (VariableTerm (Bound 1)))

-- a module of the name, with
--   def f: ((u: Unit) -> Unit)^{out} = fun (u: Unit) => val w = out.print(n); u
abbrev pub printing : List ℕ → ℕ → Module
printing name n = record {
  name = name;
  imports = [];
  definitions =
      defined (codes "f") (prints_and_gives_back n) (functions nothing empty nothing) (variable_set out) ∷ [];
}

-- Module app:
--   import b.f
--   def main: ((u: Unit) -> Unit)^{out} = fun (u: Unit) => f(u)
abbrev pub calls : ℕ → Term
calls function = entry_with (Application (Free function) (Bound 0))

abbrev pub importing_one : Module
importing_one = record {
  name = codes "app";
  imports = record { module_name = codes "b"; definition_name = codes "f" } ∷ [];
  definitions = defined (codes "main") (calls 2) (functions nothing empty nothing) (variable_set out) ∷ [];
}

-- the entry of the definition of the module, over the console out and the counter hits, with three modules before app
abbrev pub entry_in : List ℕ → List ℕ → Entry
entry_in module_name name = record {
  devices = bases.Console ∷ bases.Counter ∷ [];
  modules = printing (codes "a") 1 ∷ printing (codes "b") 2 ∷ printing (codes "c") 3 ∷ importing_one ∷ [];
  module_name = module_name;
  definition_name = name;
  authority = 0 ∷ [];
}

abbrev pub app_main : Entry
app_main = entry_in (codes "app") (codes "main")

-- Each f stands at its module's place, whatever the others are called; the import is that of b, which is neither the
-- first nor the last; and no module has the others' definitions.
abbrev pub EqualNamesAreApart : Type 0
EqualNamesAreApart =
    (entry_store app_main
    ≡ defining (prints_and_gives_back 1 ∷ prints_and_gives_back 2 ∷ prints_and_gives_back 3 ∷ calls 3 ∷ []) two_cells)
    × (entry_position app_main ≡ 5)
    × (position_of app_main (codes "a") (codes "f") ≡ Some 2)
    × (position_of app_main (codes "b") (codes "f") ≡ Some 3)
    × (position_of app_main (codes "c") (codes "f") ≡ Some 4)
    × (position_of app_main (codes "app") (codes "f") ≡ None)
    × (position_of app_main (codes "c") (codes "main") ≡ None)

-- it has all that an entry has
abbrev pub AppIsAnEntry : Type 0
AppIsAnEntry = IsEntry app_main

-- with the number printed the entry's run comes to the unit that it was applied to, in so many steps
abbrev pub GivesItsUnitBack : Entry → ℕ → ℕ → Type 0
GivesItsUnitBack entry n steps =
    RunsTo 100 (state_of two_devices (program_start entry)) (printed n ∷ []) done_with_unit steps

-- The import runs the f of b, and each f may be run by its module's name.
abbrev pub EqualNamesRunApart : Type 0
EqualNamesRunApart =
    GivesItsUnitBack app_main 2 6
    × GivesItsUnitBack (entry_in (codes "a") (codes "f")) 1 5
    × GivesItsUnitBack (entry_in (codes "b") (codes "f")) 2 5
    × GivesItsUnitBack (entry_in (codes "c") (codes "f")) 3 5

-- Module m:
--   def main: ((u: Unit) -> Unit)^{cap} = fun (u: Unit) => val n = 9; out.print(n)
-- Its authority is over all devices, whatever it operates.
abbrev pub with_cap : Entry
with_cap = record {
  devices = bases.Console ∷ bases.Counter ∷ [];
  modules = record {
    name = codes "m";
    imports = [];
    definitions =
        defined (codes "main") (entry_with (val (number 9) (print (Bound 0)))) (functions nothing empty nothing)
        (single Cap) ∷ [];
  } ∷ [];
  module_name = codes "m";
  definition_name = codes "main";
  authority = 0 ∷ 1 ∷ [];
}

-- That one is an entry, and so is one whose definition has a boundary that it leaves.
abbrev pub CapIsAnEntry : Type 0
CapIsAnEntry = IsEntry with_cap

abbrev pub BoundaryIsAnEntry : Type 0
BoundaryIsAnEntry = IsEntry boundary_entry
