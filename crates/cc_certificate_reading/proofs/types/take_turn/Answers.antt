use Rattle.std.proofs.Common.{◌≡◌, ◌+◌, ◌≤◌, suc, arith}
use Rattle.std.proofs.lemmas.Result.{err_from_is_err_and}
use Rattle.cc_core.specs.TermViews.{shape_of, type_of}
use Rattle.cc_core.specs.declared.types.Ty.{Ty}
use Rattle.cc_certificate_reading.specs.Numberings.{locals_of}
use Rattle.cc_certificate_reading.specs.WaitingShapes.{in_turn}
use Rattle.cc_certificate_reading.specs.declared.types.TypeForm.{TypeForm}
use Rattle.cc_certificate_reading.proofs.WaitingShapes.{turn_takes, turn_bounds, takes_stopped, bounds_stopped, turn_ends}
use Rattle.cc_certificate_reading.proofs.types.take_turn.Goals as goal

pub returns-in_err-takes-in-Takes : goal.returns-in_err-takes-in-Takes
returns-in_err-takes-in-Takes c =
    let error = err_from_is_err_and c.from_residual.result c.from_residual.ensures.1 in
    rw (error.1, error.2)
    (takes_stopped (locals_of c.args.locals) c.args.names.now (λ (start : Ty × TypeForm). (type_of start.0, start.1)) c.in_err-takes-in-Takes.field-0.0 (shape_of c.args.shape) c.args.bytes.now c.args.waiting.now.items
    c.in-Takes.is c.in_err-takes-in-Takes.ensures)

pub returns-in_err-form-in-Bounds : goal.returns-in_err-form-in-Bounds
returns-in_err-form-in-Bounds c =
    let error = err_from_is_err_and c.from_residual-in_err-form-in-Bounds.result c.from_residual-in_err-form-in-Bounds.ensures.1 in
    rw (error.1, error.2)
    (bounds_stopped (locals_of c.args.locals) c.args.names.now (λ (form : TypeForm). form) c.in_err-form-in-Bounds.field-0.0 (shape_of c.args.shape) c.args.bytes.now c.args.waiting.now.items
    c.in-Bounds.is c.in_err-form-in-Bounds.ensures)

pub returns-in_ok-push-in-Takes : goal.returns-in_ok-push-in-Takes
returns-in_ok-push-in-Takes c =
    let one : c.in-Takes.depth + 1 ≡ suc c.in-Takes.depth = omega arith in
    let low : c.in-Takes.depth ≤ 4294967295 = rw c.in-Takes.is at c.requires.low in
    let few : c.in-Takes.depth + 1 ≤ 4294967296 = omega arith in
    turn_takes (locals_of c.args.locals) c.args.names.now (shape_of c.args.shape) c.args.bytes.now c.args.waiting.now.items (in_turn c.descend.new.waiting.items)
    c.in_ok-takes-in-Takes-2.takes (c.in-Takes.depth + 1) c.descend.result
    c.in-Takes.is c.in_ok-takes-in-Takes.ensures c.in_ok-takes-in-Takes-2.ensures.ok c.in_ok-push-in-Takes.ensures.items one few (c.descend.ensures c.args.names.now)

pub returns-in-Gives : goal.returns-in-Gives
returns-in-Gives c =
    turn_ends (locals_of c.args.locals) c.args.names.now (shape_of c.args.shape) c.args.bytes.now _ c.args.waiting.now.items c.end_function.result
    c.in-Gives.is c.end_function.ensures

pub returns-in_ok-push-in-Bounds : goal.returns-in_ok-push-in-Bounds
returns-in_ok-push-in-Bounds c =
    let one : c.in-Bounds.depth + 1 ≡ suc c.in-Bounds.depth = omega arith in
    let low : c.in-Bounds.depth ≤ 4294967295 = rw c.in-Bounds.is at c.requires.low in
    let few : c.in-Bounds.depth + 1 ≤ 4294967296 = omega arith in
    turn_bounds (locals_of c.args.locals) c.args.names.now c.args.bytes.now c.args.waiting.now.items (in_turn c.descend-in-Bounds.new.waiting.items)
    c.in_ok-bound-in-Bounds.bound (c.in-Bounds.depth + 1) c.descend-in-Bounds.result
    c.in-Bounds.is c.in_ok-form-in-Bounds.ensures c.in_ok-bound-in-Bounds.ensures.ok c.in_ok-push-in-Bounds.ensures.items one few (c.descend-in-Bounds.ensures c.args.names.now)

pub returns-in-Results : goal.returns-in-Results
returns-in-Results c =
    turn_ends (locals_of c.args.locals) c.args.names.now (shape_of c.args.shape) c.args.bytes.now _ c.args.waiting.now.items c.end_type_function.result
    c.in-Results.is c.end_type_function.ensures

pub returns-in-Contents : goal.returns-in-Contents
returns-in-Contents c =
    turn_ends (locals_of c.args.locals) c.args.names.now (shape_of c.args.shape) c.args.bytes.now _ c.args.waiting.now.items c.end_box.result
    c.in-Contents.is c.end_box.ensures

pub returns-in-Exits : goal.returns-in-Exits
returns-in-Exits c =
    turn_ends (locals_of c.args.locals) c.args.names.now (shape_of c.args.shape) c.args.bytes.now _ c.args.waiting.now.items c.end_exit.result
    c.in-Exits.is (c.end_exit.ensures (locals_of c.args.locals) c.args.names.now)
