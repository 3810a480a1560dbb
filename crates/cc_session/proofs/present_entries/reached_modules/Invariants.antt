use Rattle.std.proofs.Common.{take}
use Rattle.std.specs.List.{filter}
use Rattle.cc_session.specs.EntryParts.{ArePresentModules}
use Rattle.cc_entry_laws.specs.LinkOrders.{is_reached}
use Rattle.cc_session.proofs.present_entries.reached_modules.Given as goal

abbrev pub invariant-loop-name : goal.invariant-loop-name
invariant-loop-name l =
    ArePresentModules l.texts l.verdicts l.modules.items (filter (is_reached l.graph l.from) (take l.name-index l.names))
