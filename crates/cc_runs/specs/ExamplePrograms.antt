-- What the worked examples are written with.
use Rattle.std.specs.Prelude.{◌≡◌, ℕ, pos, List, [], ◌∷◌, length, Some, None}
use Rattle.cc_base.specs.declared.literal.Base.TheVariants as bases
use Rattle.cc_base.specs.declared.literal.Op.TheVariants as operations
use Rattle.cc_base.specs.Literals.{Literal, UnitLiteral, NumberLiteral, TextLiteral}
use Rattle.cc_capture.specs.declared.var.Var.{Var}
use Rattle.cc_capture.specs.declared.var.Var.TheVariants.{Bound, Free}
use Rattle.cc_capture.specs.Sets.{empty}
use Rattle.cc_core.specs.Shapes.{Shape, BaseShape}
use Rattle.cc_core.specs.Terms.{Absent, Term, LiteralTerm, FunctionTerm, Let, Operation}
use Rattle.cc_core.specs.Stores.{ValueCell, DeviceCell, Store}
use Rattle.cc_device.specs.Devices.{Devices, Console, Counter}
use Rattle.cc_device.specs.Endings.{Shown, ShownLiteral, Done, OutOfFuel}
use Rattle.cc_device.specs.Events.{Event, Operated}
use Rattle.cc_runs.specs.Runs.{State, Ending, Ends, run}
use Rattle.cc_runs.specs.SoundRuns.{start}

-- the literal of a number
abbrev pub number : ℕ → Term
number n = LiteralTerm (NumberLiteral (pos n))

-- the shape of numbers
abbrev pub whole_numbers : Shape
whole_numbers = BaseShape bases.Int

-- the shape of unit
abbrev pub nothing : Shape
nothing = BaseShape bases.Unit

-- a function of unit, as entries are
abbrev pub entry_with : Term → Term
entry_with body = FunctionTerm nothing empty body

-- a function of a number
abbrev pub of_number : Term → Term
of_number body = FunctionTerm whole_numbers empty body

-- val x = RIGHT; BODY, without a written type
abbrev pub val : Term → Term → Term
val right body = Let Absent right body

-- the console `out` and the counter `hits`, in this order
abbrev pub two_devices : Devices
two_devices = Console [] ∷ Counter (pos 0) ∷ []

-- their cells, which stand first
abbrev pub two_cells : Store
two_cells = DeviceCell 1 bases.Counter ∷ DeviceCell 0 bases.Console ∷ []

-- the console
abbrev pub out : Var
out = Free 0

-- the counter
abbrev pub hits : Var
hits = Free 1

-- out.print(x)
abbrev pub print : Var → Term
print x = Operation operations.Print out (Some x)

-- out.say(x)
abbrev pub say : Var → Term
say x = Operation operations.Say out (Some x)

-- hits.tick()
abbrev pub tick : Term
tick = Operation operations.Tick hits None

-- fun (x: Int) => out.print(x)
abbrev pub prints_number : Term
prints_number = of_number (print (Bound 0))

-- the store with the cells of definitions after others, in the order in which they are written
abbrev pub defining : List Term → Store → Store
defining [] store = store
defining (first ∷ others) store = defining others (ValueCell first ∷ store)

-- the start on the devices: the entry at the position is applied to unit, whose cell follows the store's
abbrev pub started_on : Devices → ℕ → Store → State
started_on devices entry store = start (ValueCell (LiteralTerm UnitLiteral) ∷ store) entry (length store) devices

-- the start of a program of these definitions on `out` and `hits`; the position of the first definition is 2
abbrev pub started : ℕ → List Term → State
started entry definitions = started_on two_devices entry (defining definitions two_cells)

-- the number was printed on `out`
abbrev pub printed : ℕ → Event
printed n = Operated 0 operations.Print (NumberLiteral (pos n))

-- the text was said on `out`
abbrev pub said : List ℕ → Event
said text = Operated 0 operations.Say (TextLiteral text)

-- `hits` answered the number
abbrev pub ticked : ℕ → Event
ticked n = Operated 1 operations.Tick (NumberLiteral (pos n))

-- the run came to its end with what is shown
abbrev pub done_showing : Shown → Ending
done_showing shows = Ends (Done shows)

-- it came to its end with the literal
abbrev pub done_with : Literal → Ending
done_with literal = done_showing (ShownLiteral literal)

-- it came to its end with the number
abbrev pub done_with_number : ℕ → Ending
done_with_number n = done_with (NumberLiteral (pos n))

-- it came to its end with unit
abbrev pub done_with_unit : Ending
done_with_unit = done_with UnitLiteral

-- the run had no fuel left
abbrev pub out_of_fuel : Ending
out_of_fuel = Ends OutOfFuel

-- with so much fuel the state's run has the events, ends so, and takes so many steps
abbrev pub RunsTo : ℕ → State → List Event → Ending → ℕ → Type 0
RunsTo fuel state events ending steps =
    ((run fuel state).events ≡ events) × ((run fuel state).ending ≡ ending) × ((run fuel state).steps ≡ steps)
