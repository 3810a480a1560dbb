use Rattle.cc_link.proofs.EarlierEntries.{entries_name_earlier}
use Rattle.cc_link.proofs.module_link_laws.entries_name_earlier_ones.Goals as goal

pub returns : goal.returns
returns c = entries_name_earlier
