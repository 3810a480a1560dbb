-- How runs are written: what they may operate, their events and their ends.
use Rattle.std.specs.Prelude.{ℕ, List, [], ◌∷◌, ◌++◌, map, codes, encode_utf8_all}
use Rattle.std.specs.Fmt.{decimal}
use Rattle.std.specs.List.{flat_map}
use Rattle.cc_base.specs.Literals.{Literal, UnitLiteral, TruthLiteral, NumberLiteral, TextLiteral}
use Rattle.cc_base.specs.declared.literal.Op.{Op}
use Rattle.cc_base.specs.declared.literal.Op.TheVariants as operations
use Rattle.cc_print.specs.TermTexts.{literal_text}
use Rattle.cc_device.specs.Endings.{Shown, ShownLiteral, ShownFunction, ShownTypeFunction, ShownBox, ShownDevice}
use Rattle.cc_device.specs.Endings.{ShownLabel, Done, OutOfFuel}
use Rattle.cc_device.specs.Events.{Event, Operated, Entered, Ended, Exited}
use Rattle.cc_runs.specs.Runs.{Ending, Ends, IsStopped}
use Rattle.cc_print.specs.TypeTexts.{position_text}

-- the name of a device
abbrev pub device_text : List (List ℕ) → ℕ → List ℕ
device_text names device = position_text names (codes "_") device

-- the names of devices behind a first one
abbrev pub other_devices : List (List ℕ) → List ℕ → List ℕ
other_devices names others = flat_map (λ other. codes ", " ++ device_text names other) others

-- the names of devices, with a comma between them
abbrev pub devices_text : List (List ℕ) → List ℕ → List ℕ
devices_text names [] = []
devices_text names (first ∷ others) = device_text names first ++ other_devices names others

-- the set of the devices that a run may operate
abbrev pub authority_text : List (List ℕ) → List ℕ → List ℕ
authority_text names authority = codes "authority {" ++ devices_text names authority ++ codes "}"

abbrev pub operation_text : Op → List ℕ
operation_text operations.Print = codes " print "
operation_text operations.Say = codes " say "
operation_text operations.Read = codes " read "
operation_text operations.Write = codes " write "
operation_text operations.Tick = codes " tick "

-- a device and its operation
abbrev pub operated_text : List (List ℕ) → ℕ → Op → List ℕ
operated_text names device operation = device_text names device ++ operation_text operation

-- what a device took or answered: a text stands without its quotes
abbrev pub operand_text : Literal → List ℕ
operand_text UnitLiteral = literal_text UnitLiteral
operand_text (TruthLiteral truth) = literal_text (TruthLiteral truth)
operand_text (NumberLiteral number) = literal_text (NumberLiteral number)
operand_text (TextLiteral text) = encode_utf8_all text

-- an event: an operation of a device, or that a boundary was entered, ended, or was left by an exit, by its label
abbrev pub event_text : List (List ℕ) → Event → List ℕ
event_text names (Operated device operation literal) =
    operated_text names device operation ++ operand_text literal
event_text names (Entered label) = codes "enter " ++ decimal label
event_text names (Ended label) = codes "leave " ++ decimal label
event_text names (Exited label) = codes "exit " ++ decimal label

-- what is shown of a value
abbrev pub shown_text : List (List ℕ) → Shown → List ℕ
shown_text names (ShownLiteral literal) = literal_text literal
shown_text names ShownFunction = codes "<function>"
shown_text names ShownTypeFunction = codes "<type function>"
shown_text names ShownBox = codes "<box>"
shown_text names (ShownDevice device) = codes "<device " ++ device_text names device ++ codes ">"
shown_text names (ShownLabel label) = codes "<exit " ++ decimal label ++ codes ">"

-- how a run ends; no run of an entry is stuck
abbrev pub ending_text : List (List ℕ) → Ending → List ℕ
ending_text names (Ends (Done shown)) = codes "done " ++ shown_text names shown
ending_text names (Ends OutOfFuel) = codes "out of fuel"
ending_text names IsStopped = codes "stuck"

-- the end of a run, with the number of its steps
abbrev pub end_text : List (List ℕ) → Ending → ℕ → List ℕ
end_text names ending steps = ending_text names ending ++ codes " after " ++ decimal steps ++ codes " steps"

-- the lines of a run: its authority, its events in order, and its end
abbrev pub run_lines : List (List ℕ) → List ℕ → List Event → Ending → ℕ → List (List ℕ)
run_lines names authority events ending steps =
    authority_text names authority ∷ (map (event_text names) events ++ end_text names ending steps ∷ [])
