use Rattle.cc_entry_laws.proofs.AcceptedEntries.{present_entries}
use Rattle.cc_entry_laws.proofs.MadeEntries.{entries_exist}
use Rattle.cc_entry_laws.proofs.OneEntry.{one_entry}
use Rattle.cc_entry_laws.proofs.entry_laws.present_entries_are_entries.Goals as goal

pub returns : goal.returns
returns c = record { entries = present_entries; exist = entries_exist; unique = one_entry }
