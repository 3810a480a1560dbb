-- Programs that are linked from entries. It serves the code alone.
use Rattle.std.specs.Prelude.{◌≡◌}
use Rattle.cc_entry_laws.specs.PresentEntries.{program_entry}
use Rattle.cc_machine.specs.declared.program.Program.{Program}
use Rattle.cc_machine.specs.Programs.{shapes_of, start_of}
use Rattle.cc_runs.specs.Links.{program_start}
use Rattle.cc_session.specs.Entries.{entry_of}
use Rattle.cc_session.specs.declared.entry.Entry.{Entry}

-- the program that is linked from the entry
pub record IsProgramOf (program : Program) (entry : Entry) : Type 0 where
  pub devices : shapes_of program ≡ entry.devices.items
  pub start : start_of program ≡ program_start (program_entry (entry_of entry))
