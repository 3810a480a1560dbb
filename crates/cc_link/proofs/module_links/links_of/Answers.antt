use Rattle.std.proofs.Common.{◌≡◌, ap, map, sym, subst}
use Rattle.cc_session.specs.Modules.{module_of}
use Rattle.cc_explain.specs.Entries.{NamesEarlier}
use Rattle.cc_link.proofs.EarlierEntries.{entries_name_earlier}
use Rattle.cc_link.proofs.Listed.{begins, module_more, all_linked}
use Rattle.cc_link.specs.EntryLists.{entry_lists}
use Rattle.cc_link.specs.ModuleLinks.{links_in}
use Rattle.cc_link.proofs.module_links.links_of.Goals as goal

pub loop-module-init : goal.loop-module-init
loop-module-init c =
    begins c.args.devices c.args.modules.now (entry_lists c.new-entries.result.items) c.new-table.result
    (ap entry_lists c.new-entries.ensures.items) c.new-table.ensures

pub loop-module-preserved : goal.loop-module-preserved
loop-module-preserved c =
    module_more c.args.devices c.args.modules.now c.loop-module.module-index c.module-item.result
    (entry_lists c.loop-module.entries.items) (entry_lists c.add_module.new.entries.items) c.loop-module.table
    c.add_module.new.table c.loop-module.first c.in_ok-first.first c.loop-module-test.true c.module-item.is
    c.loop-module.invariant c.in_ok-first.ensures

pub new-requires : goal.new-requires
new-requires c =
    let all : entry_lists c.loop-module.entries.items ≡ links_in c.args.devices (map module_of c.args.modules.now) =
    all_linked c.args.devices c.args.modules.now c.loop-module.module-index (entry_lists c.loop-module.entries.items)
    c.loop-module.table c.loop-module.first c.loop-module-test.false c.loop-module.invariant in
    subst NamesEarlier (sym all) (entries_name_earlier c.args.devices (map module_of c.args.modules.now))
