use Rattle.std.proofs.Common.{length, refl, sym, ◌∙◌}
use Rattle.std.proofs.lemmas.Bool.{ltb-true, ltb-false}
use Rattle.std.proofs.lemmas.Option.{slice_get_read, slice_get_past}
use Rattle.cc_machine.proofs.LoadedCells.{loaded_value, value_at, unit_at}
use Rattle.cc_machine.proofs.loading.value_cell.Goals as goal

pub returns-in-Some-clause-cell : goal.returns-in-Some-clause-cell
returns-in-Some-clause-cell c = λ links.
    let values = c.args.values.now in
    let typed = c.in-Some.typed.now in
    let found = c.in-Some.ensures.lookup in
    let at = slice_get_read values (length values) c.args.index typed refl (ltb-true c.args.index (length values) (sym found.0)) found.1 in
    loaded_value links typed c.deref.result c.deref.ensures ∙ sym (value_at values c.args.index typed (sym at))

pub returns-in-None-clause-cell : goal.returns-in-None-clause-cell
returns-in-None-clause-cell c = λ links.
    let values = c.args.values.now in
    let past = slice_get_past values c.args.index (ltb-false c.args.index (length values) (sym c.in-None.ensures.lookup.0)) in
    sym (unit_at values c.args.index (sym past) c.requires)
