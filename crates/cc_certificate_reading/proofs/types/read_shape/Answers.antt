use Rattle.std.proofs.lemmas.Result.{err_from_is_err_and}
use Rattle.cc_certificate_reading.specs.Numberings.{locals_of}
use Rattle.cc_certificate_reading.specs.WaitingShapes.{in_turn}
use Rattle.cc_certificate_reading.proofs.WaitingShapes.{walk_stopped, walk_begins}
use Rattle.cc_certificate_reading.proofs.types.read_shape.Goals as goal

pub returns-in_err-shape : goal.returns-in_err-shape
returns-in_err-shape c =
    let error = err_from_is_err_and c.from_residual.result c.from_residual.ensures.1 in
    rw (error.1, error.2)
    (walk_stopped (locals_of c.args.locals) c.args.names.now _ (in_turn c.descend.new.waiting.items) c.in_err-shape.field-0.0
    c.new-waiting.ensures.items (c.in_err-shape.ensures c.args.names.now))

pub loop-init : goal.loop-init
loop-init c =
    walk_begins (locals_of c.args.locals) c.args.names.now c.new-waiting.ensures.items (c.in_ok-shape.ensures c.args.names.now)
