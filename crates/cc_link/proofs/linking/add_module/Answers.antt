use Rattle.std.proofs.Common.{◌≡◌, ◌+◌, ◌++◌, ◌∙◌, ℕ, List, length, map, sym, ap, subst, arith}
use Rattle.std.specs.Prelude.{reverse}
use Rattle.cc_core.specs.Actions.{renamed_by}
use Rattle.cc_core.specs.Contexts.{entry_of as bind_of}
use Rattle.cc_core.specs.Programs.{Definition, Module}
use Rattle.cc_link.specs.Linking.{module_in_program, modules_before, ArePositions, IsLinked}
use Rattle.cc_link.specs.Tables.{Finds}
use Rattle.cc_link.proofs.LinkedEntries.{next_position, module_linked, definitions_listed, modules_more, entry_formed}
use Rattle.cc_runs.specs.Links.{count_definitions, position_among, linked_cell}
use Rattle.cc_machine.specs.Starts.{value_cell, value_entry}
use Rattle.cc_link.proofs.linking.add_module.Goals as goal

pub returns : goal.returns
returns c =
    let entry = c.args.entry.now in
    let index = c.args.index in
    let current = c.index-current.result.now in
    let devices = entry.devices.items in
    let before : List Module = modules_before entry index in
    let values = c.args.values.now.items in
    let new = c.add_values.new.values.items in
    let table = c.args.table.now in
    let first = c.in_ok-first.first in
    let to = c.in_ok-to.to.items in
    let linked = c.requires.linked in
    let own = definitions_listed current c.deref.result.now c.deref.ensures.value in
    let stands : first ≡ length devices + length values = omega (arith, c.in_ok-first.ensures.0) in
    let devices_counted : c.len-3.result ≡ length devices = omega arith in
    let count : length to ≡ length devices + length (module_in_program current).imports + length (module_in_program current).definitions =
    c.in_ok-to.ensures.count
    ∙ ap (λ n. n + length (module_in_program current).imports + length (module_in_program current).definitions) devices_counted in
    let positions : ArePositions (length devices) before (module_in_program current).imports to =
    subst (λ (n : ℕ). ArePositions n before (module_in_program current).imports to) devices_counted
    (c.in_ok-to.ensures.positions before (subst (λ (n : ℕ). Finds n before table) (sym devices_counted) linked.finds)
    (next_position devices before values first linked.store stands
    ∙ ap (λ n. n + count_definitions before) (sym devices_counted))) in
    subst (λ ms. IsLinked devices ms new c.add.new.self)
    (sym (modules_more entry index current c.requires.within c.index-current.ensures))
    (module_linked devices before (module_in_program current) values new table c.add.new.self c.in_ok-definitions.definitions to first
    (entry_formed entry index current c.requires.within c.index-current.ensures) linked stands count positions
    (c.in_ok-add_values.ensures.cells
    ∙ (λ j. map (linked_cell (renamed_by (c.deref-2.ensures.value j))) (reverse (own j))
    ++ map value_cell (reverse values)))
    (c.in_ok-add_values.ensures.entries
    ∙ ap (λ ds. map (λ (d : Definition). bind_of d.signature) (reverse ds)
    ++ map value_entry (reverse values)) own)
    (λ name. c.in_ok-definitions.ensures name
    ∙ ap (λ ds. position_among first name (reverse ds)) (definitions_listed current c.deref-3.result.now c.deref-3.ensures.value))
    c.in_ok-add.ensures)
