-- What is operated in a run of an entry's program is named by one of its modules.
use Rattle.std.proofs.Common.{◌≡◌, ◌<◌, ℕ, true, List, map, length, sym, ◌∙◌}
use Rattle.std.specs.List.{list_any}
use Rattle.cc_base.specs.Literals.{Literal}
use Rattle.cc_base.specs.declared.literal.Op.{Op}
use Rattle.cc_binding.specs.BindingLaws.{CapturedPositionsAreNamed, IsNamedAmong, OperatedDevicesAreNamed, BoundDevicesAreAllowed}
use Rattle.cc_binding.specs.Binding.{KeepsRules}
use Rattle.cc_binding.specs.NamedDevices.{names_position, module_names}
use Rattle.cc_binding.proofs.LinkedNames.{names_in, list_any-map, reached_is_named}
use Rattle.cc_binding.proofs.Lists.{all_at, any_of, list_any-congruent}
use Rattle.cc_binding.proofs.NamedPositions.{captured_is_named}
use Rattle.cc_core.specs.Programs.{IsEntry}
use Rattle.cc_core.specs.Typing.{base_operated}
use Rattle.cc_device.specs.Events.{Operated}
use Rattle.cc_entry_laws.specs.PresentEntries.{CheckedModule, CheckedEntry, program_module, program_entry}
use Rattle.cc_replay.specs.AnsweredRuns.{AnsweredRun}
use Rattle.cc_replay.proofs.SafeTraces.{safe_from}
use Rattle.cc_runs.specs.Links.{program_start}
use Rattle.cc_runs.specs.SafeRuns.{IsAmong}
use Rattle.cc_runs.proofs.LinkedPrograms.{program_sound}
use Rattle.cc_verdicts.specs.ModuleVerdicts.{in_program}

pub captured_positions_are_named : CapturedPositionsAreNamed
captured_positions_are_named position term captured = captured_is_named position term captured

-- a module as it was checked names what it names as one of a program
names_checked : (device : ℕ) (current : CheckedModule) → names_in device (program_module current) ≡ module_names device current
names_checked device current = list_any-map (λ d. names_position device d.value) in_program current.definitions

named_checked : (device : ℕ) (modules : List CheckedModule) → list_any (names_in device) (map program_module modules) ≡ true → IsNamedAmong device modules
named_checked device modules e =
    any_of (module_names device) modules
    (sym
    (list_any-map (names_in device) program_module modules
    ∙ list_any-congruent (λ current. names_in device (program_module current)) (module_names device) (names_checked device) modules)
    ∙ e)

-- it is declared, and named by a module
operated : (entry : CheckedEntry) → IsEntry (program_entry entry) → (fuel : ℕ) (it : AnsweredRun fuel (program_start (program_entry entry)))
    → (device : ℕ) (operation : Op) (literal : Literal) → IsAmong (Operated device operation literal) it.events
    → (device < length entry.devices) × IsNamedAmong device entry.modules
operated entry is fuel it device operation literal among =
    let safe = safe_from (program_start (program_entry entry)) (program_sound (program_entry entry) is) it in
    let reached = reached_is_named (program_entry entry) is device (base_operated operation) (safe.reached device operation literal among) in
    (reached.0, named_checked device entry.modules reached.1)

pub operated_devices_are_named : OperatedDevicesAreNamed
operated_devices_are_named entry is fuel it device operation literal among = (operated entry is fuel it device operation literal among).1

pub bound_devices_are_allowed : BoundDevicesAreAllowed
bound_devices_are_allowed names rules entry is binds fuel it device operation literal among =
    let found = operated entry is fuel it device operation literal among in (
      found.1,
      λ current there named. all_at (KeepsRules names rules (length entry.devices)) entry.modules binds current there device found.0 named,
    )
