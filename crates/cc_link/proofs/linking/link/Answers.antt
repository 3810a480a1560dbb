use Rattle.std.proofs.Common.{◌≡◌, ◌<◌, ◌≤◌, ◌+◌, ◌∙◌, List, ◌∷◌, length, sym, ap, subst, arith}
use Rattle.std.specs.Prelude.{reverse}
use Rattle.std.specs.Option.{unwrap_or}
use Rattle.std.proofs.Math.Logic.{∥∥₁_map}
use Rattle.cc_base.specs.declared.literal.Base.{Base}
use Rattle.cc_base.specs.declared.literal.Base.TheVariants as bases
use Rattle.cc_capture.specs.Sets.{empty}
use Rattle.cc_core.specs.Contexts.{TermEntry}
use Rattle.cc_core.specs.Shapes.{BaseShape}
use Rattle.cc_core.specs.TermViews.{term_of}
use Rattle.cc_link.specs.Linking.{entry_in_program, IsLinked}
use Rattle.cc_link.proofs.LinkedEntries.{nothing_linked, few_cells, modules_all, application_linked, start_linked, start_typed}
use Rattle.cc_runs.specs.Links.{program_start as linked_start}
use Rattle.cc_machine.specs.Starts.{program_store, program_start, program_context, IsTyped}
use Rattle.cc_link.proofs.linking.link.Goals as goal

pub loop-index-init : goal.loop-index-init
loop-index-init c =
    nothing_linked c.args.entry.now.devices.items c.new-values.result.items c.new-table.result c.new-values.ensures.items
    c.new-table.ensures

pub new-requires-clause-typed : goal.new-requires-clause-typed
new-requires-clause-typed c =
    let entry = c.args.entry.now in
    let values = c.loop-index.values.items in
    let term = c.in_ok-term.term.value in
    let past : length entry.modules.items ≤ c.loop-index.index = omega arith in
    let linked : IsLinked entry.devices.items (reverse (entry_in_program entry).modules) values c.loop-index.table =
    subst (λ ms. IsLinked entry.devices.items ms values c.loop-index.table) (modules_all entry c.loop-index.index past)
    c.loop-index.invariant in
    let unit : c.in_ok-unit.unit ≡ length entry.devices.items + length values = omega (arith, c.in_ok-unit.ensures.0) in
    let is_term : term_of term ≡ (linked_start (entry_in_program entry)).term =
    application_linked (entry_in_program entry) values c.loop-index.table c.unwrap_or-started.result c.in_ok-unit.unit (term_of term) linked
    (c.unwrap_or-started.ensures ∙ ap (λ o. unwrap_or o 0) c.position.ensures) unit c.in_ok-term.ensures in
    ∥∥₁_map entry.is_entry (λ is.
    subst (λ (ds : List Base). IsTyped ds values term) (sym (c.in_ok-devices.ensures.items ∙ c.deref.ensures.value))
    (start_typed (entry_in_program entry) values term linked.store linked.context is_term is))

pub new-requires-clause-positions : goal.new-requires-clause-positions
new-requires-clause-positions c =
    let entry = c.args.entry.now in
    let values = c.loop-index.values.items in
    let unit : c.in_ok-unit.unit ≡ length entry.devices.items + length values = omega (arith, c.in_ok-unit.ensures.0) in
    subst (λ (ds : List Base). length (program_store ds values) < 4294967296) (sym (c.in_ok-devices.ensures.items ∙ c.deref.ensures.value))
    (few_cells entry.devices.items values c.in_ok-unit.unit unit c.in_ok-unit.ensures.1)

pub returns : goal.returns
returns c =
    let entry = c.args.entry.now in
    let values = c.loop-index.values.items in
    let term = c.in_ok-term.term.value in
    let past : length entry.modules.items ≤ c.loop-index.index = omega arith in
    let linked : IsLinked entry.devices.items (reverse (entry_in_program entry).modules) values c.loop-index.table =
    subst (λ ms. IsLinked entry.devices.items ms values c.loop-index.table) (modules_all entry c.loop-index.index past)
    c.loop-index.invariant in
    let unit : c.in_ok-unit.unit ≡ length entry.devices.items + length values = omega (arith, c.in_ok-unit.ensures.0) in
    let is_term : term_of term ≡ (linked_start (entry_in_program entry)).term =
    application_linked (entry_in_program entry) values c.loop-index.table c.unwrap_or-started.result c.in_ok-unit.unit (term_of term) linked
    (c.unwrap_or-started.ensures ∙ ap (λ o. unwrap_or o 0) c.position.ensures) unit c.in_ok-term.ensures in
    let devices = c.new.ensures.devices ∙ c.in_ok-devices.ensures.items ∙ c.deref.ensures.value in
    record {
      devices = devices;
      start =
          (λ j. program_start (devices j) (c.new.ensures.cells j) (c.new.ensures.term j))
          ∙ start_linked (entry_in_program entry) values term linked.store linked.context is_term;
      types =
          (λ j. program_context (devices j) (c.new.ensures.cells j))
          ∙ ap (λ g. TermEntry (BaseShape bases.Unit) empty ∷ g) linked.context;
    }
