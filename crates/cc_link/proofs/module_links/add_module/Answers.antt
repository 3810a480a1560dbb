use Rattle.std.proofs.Common.{◌≡◌, ◌+◌, length, arith}
use Rattle.cc_link.proofs.Listed.{module_added}
use Rattle.cc_link.specs.EntryLists.{entry_lists}
use Rattle.cc_link.proofs.module_links.add_module.Goals as goal

pub returns : goal.returns
returns c = λ earlier finds at.
    let next : c.in_ok-next.next ≡ c.args.first + length c.args.«module».now.defs.items =
    omega (arith, c.in_ok-next.ensures.0) in
    module_added c.args.devices earlier c.args.first c.args.«module».now c.args.table.now c.add.new.self
    c.in_ok-definitions.definitions c.in_ok-positions.positions.items (entry_lists c.args.entries.now.items)
    (entry_lists c.add_definitions.new.entries.items) c.as_slice.result.now c.as_slice-2.result.now
    c.as_slice-3.result.now c.in_ok-next.next finds at c.as_slice.ensures.value c.in_ok-positions.ensures
    c.as_slice-2.ensures.value c.in_ok-add_definitions.ensures c.as_slice-3.ensures.value c.in_ok-definitions.ensures
    c.in_ok-add.ensures next
