-- What an entry stands for.
use Rattle.cc_entry_laws.specs.PresentEntries.{CheckedEntry}
use Rattle.cc_session.specs.declared.entry.Entry.{Entry}
use Rattle.cc_session.specs.Modules.{entry_in}

-- the entry, with its modules as they were checked
abbrev pub entry_of : Entry → CheckedEntry
entry_of it = entry_in it.devices.items it.modules.items it.module it.def it.authority.items
