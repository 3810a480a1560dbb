-- What the program's devices, events and ends of runs stand for.
use Rattle.std.specs.Prelude.{map}
use Rattle.std.specs.Rc.{rc_str_bytes}
use Rattle.std.specs.Str.{chars}
use Rattle.cc_base.specs.Literals.{Literal, UnitLiteral, TruthLiteral, NumberLiteral, TextLiteral, literal_of}
use Rattle.cc_device.specs.declared.states.DeviceState.{DeviceState as DeclaredState}
use Rattle.cc_device.specs.declared.states.DeviceState.TheVariants as states
use Rattle.cc_device.specs.declared.events.Event.{Event as DeclaredEvent}
use Rattle.cc_device.specs.declared.events.Event.TheVariants as events
use Rattle.cc_device.specs.declared.ends.ShownLit.{ShownLit}
use Rattle.cc_device.specs.declared.ends.ShownLit.TheVariants as shown_literals
use Rattle.cc_device.specs.declared.ends.Shown.{Shown as DeclaredShown}
use Rattle.cc_device.specs.declared.ends.Shown.TheVariants as shown_values
use Rattle.cc_device.specs.declared.ends.End.{End as DeclaredEnd}
use Rattle.cc_device.specs.declared.ends.End.TheVariants as ends
use Rattle.cc_device.specs.Devices.{DeviceState, Console, File, Counter}
use Rattle.cc_device.specs.Endings.{Shown, ShownLiteral, ShownFunction, ShownTypeFunction, ShownBox, ShownDevice}
use Rattle.cc_device.specs.Endings.{ShownLabel, End, Done, OutOfFuel}
use Rattle.cc_device.specs.Events.{Event, Operated, Entered, Ended, Exited}

-- the state of a device
abbrev pub state_of : DeclaredState → DeviceState
state_of (states.Console lines) = Console (map literal_of lines.items)
state_of (states.File numbers place) = File numbers.items place
state_of (states.Counter count) = Counter count

-- the event
abbrev pub event_of : DeclaredEvent → Event
event_of (events.Device device operation literal) = Operated device operation (literal_of literal)
event_of (events.Enter label) = Entered label
event_of (events.Ended label) = Ended label
event_of (events.Exited label) = Exited label

-- the literal
abbrev pub shown_literal : ShownLit → Literal
shown_literal shown_literals.Unit = UnitLiteral
shown_literal (shown_literals.Bool truth) = TruthLiteral truth
shown_literal (shown_literals.Int number) = NumberLiteral number
shown_literal (shown_literals.Str text) = TextLiteral (chars (rc_str_bytes text.now))

-- what is shown
abbrev pub shown_of : DeclaredShown → Shown
shown_of (shown_values.Lit literal) = ShownLiteral (shown_literal literal)
shown_of shown_values.Function = ShownFunction
shown_of shown_values.TypeFunction = ShownTypeFunction
shown_of shown_values.Box = ShownBox
shown_of (shown_values.Device device) = ShownDevice device
shown_of (shown_values.Label label) = ShownLabel label

-- the end
abbrev pub end_of : DeclaredEnd → End
end_of (ends.Done shown) = Done (shown_of shown)
end_of ends.OutOfFuel = OutOfFuel
