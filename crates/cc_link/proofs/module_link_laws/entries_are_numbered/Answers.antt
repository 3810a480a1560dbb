use Rattle.cc_link.proofs.NumberedEntries.{entries_are_numbered}
use Rattle.cc_link.proofs.module_link_laws.entries_are_numbered.Goals as goal

pub returns : goal.returns
returns c = entries_are_numbered
