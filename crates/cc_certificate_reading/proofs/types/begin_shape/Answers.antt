use Rattle.std.proofs.Common.{◌∙◌}
use Rattle.std.proofs.lemmas.Result.{err_from_is_err_and}
use Rattle.cc_core.specs.TermViews.{shape_of}
use Rattle.cc_certificate_text.specs.Reading.{Got, leaf_at}
use Rattle.cc_certificate_reading.specs.Numberings.{locals_of}
use Rattle.cc_certificate_reading.specs.WaitingShapes.{parameter_start_at, bound_start_at}
use Rattle.cc_certificate_reading.specs.declared.types.TypeForm.{TypeForm}
use Rattle.cc_certificate_reading.proofs.Waiting.{bind-got}
use Rattle.cc_certificate_reading.proofs.WaitingShapes.{over_function, over_type_function, over_box, over_exit, over_leaf, function_begins, type_function_begins, exit_begins, function_waits, type_function_waits, box_waits, begins_stopped}
use Rattle.cc_certificate_reading.proofs.types.begin_shape.Goals as goal

pub returns-in_err-form : goal.returns-in_err-form
returns-in_err-form c =
    λ names.
    let error = err_from_is_err_and c.from_residual.result c.from_residual.ensures.1 in
    rw (error.1, error.2)
    (begins_stopped (locals_of c.args.locals) names c.args.room c.args.depth (λ (form : TypeForm). form) c.in_err-form.field-0.0 (parameter_start_at c.args.depth c.in-Some.rest.now) _
    (over_function _ _ c.args.depth c.args.bytes.now c.in-Some.ensures ∙ function_begins _ names c.args.room c.args.depth _)
    c.in_err-form.ensures.read)

pub returns-in-Some : goal.returns-in-Some
returns-in-Some c =
    λ names.
    (over_function _ _ c.args.depth c.args.bytes.now c.in-Some.ensures ∙ function_waits _ names c.args.room c.args.depth _ c.in_ok-form.ensures.read, c.in_ok-form.ensures.low)

pub returns-in_err-start : goal.returns-in_err-start
returns-in_err-start c =
    λ names.
    let error = err_from_is_err_and c.from_residual-in_err-start.result c.from_residual-in_err-start.ensures.1 in
    rw (error.1, error.2)
    (begins_stopped (locals_of c.args.locals) names c.args.room c.args.depth (λ (it : Unit {0}). it) c.in_err-start.field-0.0 (bound_start_at c.args.depth c.in-Some-behind.rest.now) _
    (over_type_function _ _ c.args.depth c.args.bytes.now c.in_default.ensures c.in-Some-behind.ensures ∙ type_function_begins _ names c.args.room c.args.depth _)
    c.in_err-start.ensures.read)

pub returns-in-Some-behind : goal.returns-in-Some-behind
returns-in-Some-behind c =
    λ names.
    (over_type_function _ _ c.args.depth c.args.bytes.now c.in_default.ensures c.in-Some-behind.ensures ∙ type_function_waits _ names c.args.room c.args.depth _ c.in_ok-start.ensures.read, c.in_ok-start.ensures.low)

pub returns-in-Some-behind-2 : goal.returns-in-Some-behind-2
returns-in-Some-behind-2 c =
    λ names.
    (over_box _ _ c.args.depth c.args.bytes.now c.in_default.ensures c.in_default-behind.ensures c.in-Some-behind-2.ensures ∙ box_waits _ names c.args.room c.args.depth _ c.type_start-form.ensures, c.requires)

pub returns-in-Some-behind-3 : goal.returns-in-Some-behind-3
returns-in-Some-behind-3 c =
    λ names.
    (over_exit _ _ c.args.depth c.args.bytes.now c.in_default.ensures c.in_default-behind.ensures c.in_default-behind-2.ensures c.in-Some-behind-3.ensures ∙ exit_begins _ names c.args.room c.args.depth _, tt)

pub returns-in_err-shape : goal.returns-in_err-shape
returns-in_err-shape c =
    λ names.
    let error = err_from_is_err_and c.from_residual-in_err-shape.result c.from_residual-in_err-shape.ensures.1 in
    rw (error.1, error.2)
    (begins_stopped (locals_of c.args.locals) names c.args.room c.args.depth shape_of c.in_err-shape.field-0.0 (leaf_at (locals_of c.args.locals) c.args.depth c.args.bytes.now) Got
    (over_leaf _ _ c.args.depth c.args.bytes.now c.in_default.ensures c.in_default-behind.ensures c.in_default-behind-2.ensures c.in_default-behind-3.ensures ∙ bind-got _)
    c.in_err-shape.ensures)

pub returns : goal.returns
returns c =
    λ names.
    over_leaf _ _ c.args.depth c.args.bytes.now c.in_default.ensures c.in_default-behind.ensures c.in_default-behind-2.ensures c.in_default-behind-3.ensures ∙ c.in_ok-shape.ensures
