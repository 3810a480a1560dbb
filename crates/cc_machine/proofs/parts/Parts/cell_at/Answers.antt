use Rattle.std.proofs.Common.{◌≡◌, ◌+◌, ◌-◌, ◌<◌, ◌≤◌, length, option_map, sym, ap, ◌∙◌, subst, arith}
use Rattle.std.specs.List.{slice_get}
use Rattle.cc_machine.specs.Parts.{cell_in, cell_environment, loaded_cells}
use Rattle.cc_machine.proofs.Linking.{lookup-loaded, lookup-own}
use Rattle.cc_machine.proofs.parts.Parts.cell_at.Goals as goal

pub returns-then-position-count : goal.returns-then-position-count
returns-then-position-count c =
    let parts = c.args.self.now in
    let loaded = loaded_cells parts in
    let less : c.args.position < length loaded = omega (arith, c.if-position-count.true, c.count-count.ensures) in
    record {
      cell = lookup-loaded loaded parts.links.items parts.cells.items c.args.position less ∙ sym (c.cell.ensures.cell parts.links.items);
      within = λ linked. omega (arith, c.cell.ensures.outermost);
    }

pub returns-else-position-count : goal.returns-else-position-count
returns-else-position-count c =
    let parts = c.args.self.now in
    let loaded = loaded_cells parts in
    let own = c.args.position - c.count-count.result in
    let at : c.args.position ≡ length loaded + own = omega (arith, c.if-position-count.false, c.count-count.ensures) in
    let found : slice_get parts.cells.items own ≡ c.own_cell.result =
    ap (λ cs. slice_get cs own) (sym c.deref.ensures.value) ∙ sym c.own_cell.ensures in
    record {
      cell = lookup-own loaded parts.links.items parts.cells.items c.args.position own at ∙ ap (option_map (cell_in parts.links.items)) found;
      within = λ linked. subst (λ o. cell_environment o ≤ length parts.links.items) found (linked.linked.cells own);
    }
