use Rattle.std.proofs.lemmas.Result.{err_from_is_err_and}
use Rattle.cc_certificate_text.specs.Reading.{shape_at}
use Rattle.cc_certificate_reading.specs.Numberings.{locals_of}
use Rattle.cc_certificate_reading.proofs.WaitingShapes.{type_stopped, type_read}
use Rattle.cc_certificate_reading.proofs.types.read_type.Goals as goal

pub returns-in_err-shape : goal.returns-in_err-shape
returns-in_err-shape c =
    let error = err_from_is_err_and c.from_residual.result c.from_residual.ensures.1 in
    rw (error.1, error.2)
    (type_stopped c.in_err-shape.field-0.0 (locals_of c.args.locals) c.args.names.now
    (shape_at (locals_of c.args.locals) c.args.names.now c.args.room c.args.depth) c.args.depth c.args.bytes.now
    c.type_start-form.result.1.now c.type_start-form.result.0 c.type_start-form.ensures c.in_err-shape.ensures)

pub returns : goal.returns
returns c =
    type_read c.read_behind.result (locals_of c.args.locals) c.args.names.now
    (shape_at (locals_of c.args.locals) c.args.names.now c.args.room c.args.depth) c.args.depth c.args.bytes.now
    c.type_start-form.result.1.now c.type_start-form.result.0 c.type_start-form.ensures c.in_ok-shape.ensures c.read_behind.ensures
