-- The authority of sets by example, and entries whose starts are sound: what they may operate at any fuel.
use Rattle.std.specs.Prelude.{◌≡◌, ℕ, [], ◌∷◌}
use Rattle.cc_base.specs.declared.literal.Base.TheVariants as bases
use Rattle.cc_base.specs.declared.literal.Op.{Op}
use Rattle.cc_base.specs.Literals.{Literal, UnitLiteral}
use Rattle.cc_capture.specs.declared.var.Var.TheVariants.{Bound, Free}
use Rattle.cc_capture.specs.declared.var.Elem.TheVariants.{Cap}
use Rattle.cc_capture.specs.Sets.{empty, union}
use Rattle.cc_core.specs.Shapes.{Shape, BaseShape, FunctionShape, BoxShape}
use Rattle.cc_core.specs.Terms.{VariableTerm, LiteralTerm, BoxTerm, Application}
use Rattle.cc_core.specs.Contexts.{TermEntry, Context}
use Rattle.cc_core.specs.Substitution.{single}
use Rattle.cc_core.specs.Captured.{variable_set}
use Rattle.cc_core.specs.Stores.{Store, authority}
use Rattle.cc_device.specs.Events.{Operated}
use Rattle.cc_runs.specs.ExamplePrograms.{number, whole_numbers, nothing, entry_with, val, defining, two_cells}
use Rattle.cc_runs.specs.ExamplePrograms.{two_devices, out, hits, print, prints_number}
use Rattle.cc_runs.specs.Runs.{State, run}
use Rattle.cc_runs.specs.SoundRuns.{IsSoundStart, start}
use Rattle.cc_runs.specs.SafeRuns.{IsAmong}

-- Over two devices: no device for the empty set, those that are named, in the order of their positions, and all for the
-- universal capability. Other positions name no device.
abbrev pub AuthoritiesOfSets : Type 0
AuthoritiesOfSets =
    (authority 2 empty ≡ [])
    × (authority 2 (variable_set out) ≡ 0 ∷ [])
    × (authority 2 (variable_set hits) ≡ 1 ∷ [])
    × (authority 2 (union (variable_set hits) (variable_set out)) ≡ 0 ∷ 1 ∷ [])
    × (authority 2 (single Cap) ≡ 0 ∷ 1 ∷ [])
    × (authority 2 (variable_set (Free 2)) ≡ [])
    × (authority 0 (single Cap) ≡ [])

-- A program with its declared types:
--   def f: ((x: Int) -> Unit)^{out} = fun (x: Int) => out.print(x)
--   def b: Box[((x: Int) -> Unit)^{out}] = box f
--   def idle: (u: Unit) -> Box[((x: Int) -> Unit)^{out}] = fun (u: Unit) => b
--   def main: ((u: Unit) -> Unit)^{out} = fun (u: Unit) => f(5)
--   def rec loop: ((u: Unit) -> Unit)^{out} = fun (u: Unit) => val w = out.print(1); loop(u)
abbrev pub worked_store : Store
worked_store =
    defining (prints_number
    ∷ BoxTerm (Free 2)
    ∷ entry_with (VariableTerm (Free 3))
    ∷ entry_with (val (number 5) (Application (Free 2) (Bound 0)))
    ∷ entry_with (val (val (number 1) (print (Bound 0))) (Application (Free 6) (Bound 1)))
    ∷ LiteralTerm UnitLiteral
    ∷ []) two_cells

-- the declared shape of f
abbrev pub printing : Shape
printing = FunctionShape whole_numbers empty nothing empty

-- the declared shape of b
abbrev pub boxed_printing : Shape
boxed_printing = BoxShape printing (variable_set out)

-- the declared shape of idle
abbrev pub idle_shape : Shape
idle_shape = FunctionShape nothing empty boxed_printing empty

-- the declared shape of main, and of loop
abbrev pub main_shape : Shape
main_shape = FunctionShape nothing empty nothing empty

-- the declared types of all cells, the newest first
abbrev pub worked_context : Context
worked_context =
    TermEntry nothing empty
    ∷ TermEntry main_shape (variable_set out)
    ∷ TermEntry main_shape (variable_set out)
    ∷ TermEntry idle_shape empty
    ∷ TermEntry boxed_printing empty
    ∷ TermEntry printing (variable_set out)
    ∷ TermEntry (BaseShape bases.Counter) (single Cap)
    ∷ TermEntry (BaseShape bases.Console) (single Cap)
    ∷ []

-- the start of the entry at the position; unit is at position 7
abbrev pub starting : ℕ → State
starting entry = start worked_store entry 7 two_devices

-- each starts soundly
abbrev pub EntriesStartSoundly : Type 0
EntriesStartSoundly =
    IsSoundStart worked_store worked_context 4 7 2 idle_shape empty two_devices
    × IsSoundStart worked_store worked_context 5 7 2 main_shape (variable_set out) two_devices
    × IsSoundStart worked_store worked_context 6 7 2 main_shape (variable_set out) two_devices

-- The box that idle gives back holds a function that prints, and still no event of idle operates a device, whatever its
-- fuel.
abbrev pub IdleOperatesNothing : Type 0
IdleOperatesNothing =
    (fuel device : ℕ) (operation : Op) (literal : Literal)
    → IsAmong (Operated device operation literal) (run fuel (starting 4)).events
    → ⊥

-- each event of the entry that operates a device operates the console
abbrev pub OperatesTheConsoleAlone : ℕ → Type 0
OperatesTheConsoleAlone entry =
    (fuel device : ℕ) (operation : Op) (literal : Literal)
    → IsAmong (Operated device operation literal) (run fuel (starting entry)).events
    → device ≡ 0

-- Main and loop, which goes on for ever, operate the console alone.
abbrev pub OthersOperateTheConsole : Type 0
OthersOperateTheConsole = OperatesTheConsoleAlone 5 × OperatesTheConsoleAlone 6
