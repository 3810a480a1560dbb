use Rattle.std.proofs.Common.{◌≡◌, ◌+◌, Some, sym, ap, ◌∙◌, get_or, arith}
use Rattle.std.proofs.lemmas.Option.{slice_get-get_or}
use Rattle.cc_base.specs.declared.literal.Base.TheVariants as bases
use Rattle.cc_core.specs.Stores.{DeviceCell}
use Rattle.cc_machine.proofs.LoadedCells.{device_at}
use Rattle.cc_machine.proofs.loading.device_cell.Goals as goal

pub returns-clause-cell : goal.returns-clause-cell
returns-clause-cell c = λ links others.
    let devices = c.args.devices.now in
    let base = get_or devices c.args.number bases.Unit in
    let at : c.args.number ≡ 0 + c.args.number = omega arith in
    ap (λ n. Some (DeviceCell n base)) at
    ∙ sym (device_at 0 devices others c.args.number base (slice_get-get_or devices c.args.number bases.Unit c.requires))
