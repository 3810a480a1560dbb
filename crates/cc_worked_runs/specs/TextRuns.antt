-- Runs of programs that are given as texts. Nothing is checked: a text that no check accepts runs too, up to where it
-- is stuck.
use Rattle.std.specs.Prelude.{◌≡◌, ℕ, suc, pos, List, [], ◌∷◌, ◌++◌, map, reverse, length, codes, Option, Some, None}
use Rattle.std.specs.Prelude.{if◌then◌else◌}
use Rattle.std.specs.Option.{option_map}
use Rattle.std.specs.Str.{bytes_eq}
use Rattle.cc_core.specs.Stores.{Store}
use Rattle.cc_device.specs.Devices.{DeviceState, Console, File, Counter, base_of_device, Devices}
use Rattle.cc_device.specs.Events.{Event}
use Rattle.cc_grammar.specs.Syntax.{ImportSyntax}
use Rattle.cc_verdicts.specs.Readings.{TextReading, IsTree, IsNoModule, reading_of_text}
use Rattle.cc_runs.specs.ExamplePrograms.{defining, started_on}
use Rattle.cc_runs.specs.Interleavings.{Report, interleave, report_of, state_of}
use Rattle.cc_runs.specs.Links.{device_cells}
use Rattle.cc_runs.specs.Machine.{Configuration}
use Rattle.cc_runs.specs.Runs.{Ending, Run, run}
use Rattle.cc_mnf.specs.ElaboratedModules.{CoreDefinition, Elaboration, IsElaborated, IsRefused, elaboration}
use Rattle.cc_mnf.specs.Scopes.{Name}

-- The devices of these runs, with their names: the console `out`, the counter `hits`, and the file `data`, which begins
-- with the number 3.
abbrev pub devices : List (Name × DeviceState)
devices = (codes "out", Console []) ∷ (codes "hits", Counter (pos 0)) ∷ (codes "data", File (pos 3 ∷ []) 0) ∷ []

abbrev pub names : List Name
names = map (λ device. device.0) devices

abbrev pub states : Devices
states = map (λ device. device.1) devices

-- the cells of the devices, which stand first in a store
abbrev pub cells : Store
cells = device_cells (reverse (map base_of_device states))

-- the definitions of an elaborated module that has no imports
abbrev pub alone : List ImportSyntax → List CoreDefinition → Option (List CoreDefinition)
alone [] definitions = Some definitions
alone (first ∷ rest) definitions = None

abbrev pub of_elaboration : Elaboration → Option (List CoreDefinition)
of_elaboration (IsElaborated elaboration) = alone elaboration.imports elaboration.definitions
of_elaboration (IsRefused code at) = None

-- the definitions of a text beside the devices, if it is a module without imports
abbrev pub text_definitions : TextReading → Option (List CoreDefinition)
text_definitions (IsTree tree) = of_elaboration (elaboration names tree)
text_definitions (IsNoModule code at) = None

-- the position of the definition of the name, if there is one, where the first definition stands at the position
abbrev pub text_position : Name → ℕ → List CoreDefinition → Option ℕ
text_position name first [] = None
text_position name first (definition ∷ rest) =
    if bytes_eq definition.name name then Some first else text_position name (suc first) rest

-- the store of the definitions' right sides, which stand after the devices in the order of the text
abbrev pub store_of : List CoreDefinition → Store
store_of definitions = defining (map (λ definition. definition.right) definitions) cells

-- the definition `main`, applied to unit
abbrev pub started_in : List CoreDefinition → Option Configuration
started_in definitions =
    option_map (λ main. (started_on states main (store_of definitions)).configuration)
    (text_position (codes "main") (length devices) definitions)

abbrev pub started_if : Option (List CoreDefinition) → Option Configuration
started_if (Some definitions) = started_in definitions
started_if None = None

-- the start of a text's program, if it has a definition `main`
abbrev pub start_of : List ℕ → Option Configuration
start_of text = started_if (text_definitions (reading_of_text text))

-- what is told of a run: its events in order, its end, and the number of its steps
abbrev pub told : Run → List Event × Ending × ℕ
told run = (run.events, run.ending, run.steps)

-- with so much fuel the text's program has the events, ends so, and takes so many steps
abbrev pub TextRunsTo : ℕ → List ℕ → List Event → Ending → ℕ → Type 0
TextRunsTo fuel text events ending steps =
    option_map (λ start. told (run fuel (state_of states start))) (start_of text) ≡ Some (events, ending, steps)

-- the tasks with one more in front, if all are there
abbrev pub in_front : Option Configuration → Option (List Configuration) → Option (List Configuration)
in_front (Some first) others = option_map (λ tasks. first ∷ tasks) others
in_front None others = None

-- the starts of several texts' programs, if all have one
abbrev pub starts_of : List (List ℕ) → Option (List Configuration)
starts_of [] = Some []
starts_of (first ∷ rest) = in_front (start_of first) (starts_of rest)

-- what is told of tasks that run by the schedule with so much fuel, on the same devices
abbrev pub told_of : ℕ → List ℕ → List Configuration → Report
told_of fuel schedule tasks = report_of (interleave fuel schedule (record { tasks = tasks; devices = states }))

-- The programs of the texts, interleaved by the schedule with so much fuel, have the trace, and the ends with the steps
-- of each.
abbrev pub TextsRunTo : ℕ → List ℕ → List (List ℕ) → List (ℕ × Event) → List (Ending × ℕ) → Type 0
TextsRunTo fuel schedule texts trace ends =
    option_map (told_of fuel schedule) (starts_of texts) ≡ Some (record { trace = trace; ends = ends })

-- the text of a definition `main` with the body, where the unit that it is applied to is called `u`
abbrev pub main_with : List ℕ → List ℕ
main_with body = codes "def main = fun (u: Unit) => " ++ body
