use Rattle.cc_link.proofs.Listed.{Stands}
use Rattle.cc_link.specs.EntryLists.{entry_lists}
use Rattle.cc_link.proofs.module_links.links_of.Given as goal

abbrev pub invariant-loop-module : goal.invariant-loop-module
invariant-loop-module l = Stands l.devices l.modules l.module-index (entry_lists l.entries.items) l.table l.first
