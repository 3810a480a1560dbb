use Rattle.cc_entry_laws.proofs.AnyVerdicts.{started_definitions_are_one, entries_are_of_any, entries_are_one}
use Rattle.cc_entry_laws.proofs.entry_laws.entries_are_of_any_verdicts.Goals as goal

pub returns : goal.returns
returns c = record { started = started_definitions_are_one; entries = entries_are_of_any; one = entries_are_one }
