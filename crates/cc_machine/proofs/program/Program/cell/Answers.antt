use Rattle.std.proofs.Common.{◌≡◌, ◌+◌, ◌-◌, ◌++◌, length, sym, ap, ◌∙◌, arith}
use Rattle.std.specs.List.{slice_get}
use Rattle.cc_machine.specs.Loading.{numbered_from, values_and_unit}
use Rattle.cc_machine.specs.Programs.{shapes_of, values_of}
use Rattle.cc_machine.proofs.LoadedCells.{cell-listed, cells_counted, behind_devices}
use Rattle.cc_machine.proofs.program.Program.cell.Goals as goal

pub value_cell-requires : goal.value_cell-requires
value_cell-requires c =
    omega (arith, c.requires, cells_counted c.args.self.now, ap length c.devices-devices.ensures, ap length c.cells.ensures)

pub returns-then-at-devices-clause-cell : goal.returns-then-at-devices-clause-cell
returns-then-at-devices-clause-cell c = λ links.
    let program = c.args.self.now in
    let others = values_and_unit (values_of program) in
    c.device_cell.ensures.cell links others
    ∙ ap (λ ds. slice_get (numbered_from 0 ds ++ others) c.args.position) c.devices-devices.ensures
    ∙ sym (cell-listed program c.args.position)

pub returns-else-at-devices-clause-cell : goal.returns-else-at-devices-clause-cell
returns-else-at-devices-clause-cell c = λ links.
    let program = c.args.self.now in
    let behind = c.args.position - length c.devices-devices.result.now in
    let at : c.args.position ≡ length (shapes_of program) + behind = omega (arith, c.if-at-devices.false, ap length c.devices-devices.ensures) in
    c.value_cell.ensures.cell links
    ∙ ap (λ vs. slice_get (values_and_unit vs) behind) c.cells.ensures
    ∙ sym (behind_devices 0 (shapes_of program) (values_and_unit (values_of program)) c.args.position behind at)
    ∙ sym (cell-listed program c.args.position)
