use Rattle.cc_vouched_programs.proofs.VouchedPrograms.{vouched_entries_are_entries}
use Rattle.cc_vouched_programs.proofs.program_laws.vouched_entries_are_entries.Goals as goal

pub returns : goal.returns
returns c = vouched_entries_are_entries
