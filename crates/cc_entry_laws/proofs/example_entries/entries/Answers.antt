use Rattle.cc_entry_laws.proofs.WorkedEntries.{main_has_its_entry, numbers_have_none}
use Rattle.cc_entry_laws.proofs.example_entries.entries.Goals as goal

pub returns : goal.returns
returns c = record { entry = main_has_its_entry; none = numbers_have_none }
