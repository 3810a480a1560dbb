use Rattle.std.proofs.Common.{◌≡◌, ◌+◌, ◌≤◌, suc, ◌∙◌, arith}
use Rattle.std.proofs.lemmas.Result.{err_from_is_err_and}
use Rattle.cc_capture.specs.declared.var.Var.{Var}
use Rattle.cc_core.specs.TermViews.{shape_of, type_of, note_of, term_of}
use Rattle.cc_core.specs.declared.types.Ty.{Ty}
use Rattle.cc_certificate_text.specs.Reading.{Got}
use Rattle.cc_certificate_reading.specs.WaitingTerms.{function_start_at, type_function_start_at, let_start_at, choice_start_at, boundary_start_at}
use Rattle.cc_certificate_reading.proofs.Waiting.{bind-got}
use Rattle.cc_certificate_reading.proofs.WaitingTerms.{over_function, over_type_function, over_let, over_choice, over_boundary, over_plain, function_begins, type_function_begins, let_begins, choice_begins, boundary_begins, function_waits, type_function_waits, let_waits, choice_waits, boundary_waits, begins_stopped}
use Rattle.cc_certificate_reading.proofs.terms.begin_term.Goals as goal

pub returns-in_err-takes : goal.returns-in_err-takes
returns-in_err-takes c =
    let error = err_from_is_err_and c.from_residual.result c.from_residual.ensures.1 in
    rw (error.1, error.2)
    (begins_stopped c.args.names.now c.args.room type_of c.in_err-takes.field-0.0
    (function_start_at c.args.names.now c.args.room c.args.depth c.in-Some.rest.now) _
    (over_function c.args.names.now _ c.args.room c.args.depth c.args.bytes.now c.in-Some.ensures
    ∙ function_begins c.args.names.now c.args.room c.args.depth c.in-Some.rest.now)
    c.in_err-takes.ensures.read)

pub returns-in-Some : goal.returns-in-Some
returns-in-Some c =
    let low : c.args.depth ≤ 4294967295 = c.in_ok-takes.ensures.low in
    let one : c.args.depth + 1 ≡ suc c.args.depth = omega arith in
    let few : c.args.depth + 1 ≤ 4294967296 = omega arith in (
      over_function c.args.names.now _ c.args.room c.args.depth c.args.bytes.now c.in-Some.ensures
          ∙ function_waits c.args.names.now c.args.room c.args.depth c.in-Some.rest.now c.in_ok-takes-2.takes c.in_ok-takes.ensures.read c.in_ok-takes-2.ensures.ok one,
      tt,
      few,
    )

pub returns-in_err-bound : goal.returns-in_err-bound
returns-in_err-bound c =
    let error = err_from_is_err_and c.from_residual-in_err-bound.result c.from_residual-in_err-bound.ensures.1 in
    rw (error.1, error.2)
    (begins_stopped c.args.names.now c.args.room shape_of c.in_err-bound.field-0.0
    (type_function_start_at c.args.names.now c.args.room c.args.depth c.in-Some-behind.rest.now) _
    (over_type_function c.args.names.now _ c.args.room c.args.depth c.args.bytes.now c.in_default.ensures c.in-Some-behind.ensures
    ∙ type_function_begins c.args.names.now c.args.room c.args.depth c.in-Some-behind.rest.now)
    c.in_err-bound.ensures.read)

pub returns-in-Some-behind : goal.returns-in-Some-behind
returns-in-Some-behind c =
    let low : c.args.depth ≤ 4294967295 = c.in_ok-bound.ensures.low in
    let one : c.args.depth + 1 ≡ suc c.args.depth = omega arith in
    let few : c.args.depth + 1 ≤ 4294967296 = omega arith in (
      over_type_function c.args.names.now _ c.args.room c.args.depth c.args.bytes.now c.in_default.ensures c.in-Some-behind.ensures
          ∙ type_function_waits c.args.names.now c.args.room c.args.depth c.in-Some-behind.rest.now c.in_ok-bound-2.bound c.in_ok-bound.ensures.read c.in_ok-bound-2.ensures.ok one,
      tt,
      few,
    )

pub returns-in_err-note : goal.returns-in_err-note
returns-in_err-note c =
    let error = err_from_is_err_and c.from_residual-in_err-note.result c.from_residual-in_err-note.ensures.1 in
    rw (error.1, error.2)
    (begins_stopped c.args.names.now c.args.room note_of c.in_err-note.field-0.0
    (let_start_at c.args.names.now c.args.room c.args.depth c.in-Some-behind-2.rest.now) _
    (over_let c.args.names.now _ c.args.room c.args.depth c.args.bytes.now c.in_default.ensures c.in_default-behind.ensures c.in-Some-behind-2.ensures
    ∙ let_begins c.args.names.now c.args.room c.args.depth c.in-Some-behind-2.rest.now)
    c.in_err-note.ensures.read)

pub returns-in-Some-behind-2 : goal.returns-in-Some-behind-2
returns-in-Some-behind-2 c = (
  over_let c.args.names.now _ c.args.room c.args.depth c.args.bytes.now c.in_default.ensures c.in_default-behind.ensures c.in-Some-behind-2.ensures
      ∙ let_waits c.args.names.now c.args.room c.args.depth c.in-Some-behind-2.rest.now c.in_ok-note.note c.in_ok-note.ensures.read,
  c.in_ok-note.ensures.low,
  c.requires.depth,
)

pub returns-in_err-ty : goal.returns-in_err-ty
returns-in_err-ty c =
    let error = err_from_is_err_and c.from_residual-in_err-ty.result c.from_residual-in_err-ty.ensures.1 in
    rw (error.1, error.2)
    (begins_stopped c.args.names.now c.args.room (λ (start : Ty × Var). (type_of start.0, start.1)) c.in_err-ty.field-0.0
    (choice_start_at c.args.names.now c.args.room c.args.depth c.in-Some-behind-3.rest.now) _
    (over_choice c.args.names.now _ c.args.room c.args.depth c.args.bytes.now c.in_default.ensures c.in_default-behind.ensures c.in_default-behind-2.ensures c.in-Some-behind-3.ensures
    ∙ choice_begins c.args.names.now c.args.room c.args.depth c.in-Some-behind-3.rest.now)
    c.in_err-ty.ensures)

pub returns-in-Some-behind-3 : goal.returns-in-Some-behind-3
returns-in-Some-behind-3 c = (
  over_choice c.args.names.now _ c.args.room c.args.depth c.args.bytes.now c.in_default.ensures c.in_default-behind.ensures c.in_default-behind-2.ensures c.in-Some-behind-3.ensures
      ∙ choice_waits c.args.names.now c.args.room c.args.depth c.in-Some-behind-3.rest.now c.in_ok-ty-2.ty c.in_ok-ty.ensures c.in_ok-ty-2.ensures.ok,
  c.requires.depth,
  c.requires.depth,
)

pub returns-in_err-gives : goal.returns-in_err-gives
returns-in_err-gives c =
    let error = err_from_is_err_and c.from_residual-in_err-gives.result c.from_residual-in_err-gives.ensures.1 in
    rw (error.1, error.2)
    (begins_stopped c.args.names.now c.args.room shape_of c.in_err-gives.field-0.0
    (boundary_start_at c.args.names.now c.args.room c.args.depth c.in-Some-behind-4.rest.now) _
    (over_boundary c.args.names.now _ c.args.room c.args.depth c.args.bytes.now c.in_default.ensures c.in_default-behind.ensures c.in_default-behind-2.ensures c.in_default-behind-3.ensures c.in-Some-behind-4.ensures
    ∙ boundary_begins c.args.names.now c.args.room c.args.depth c.in-Some-behind-4.rest.now)
    c.in_err-gives.ensures.read)

pub returns-in-Some-behind-4 : goal.returns-in-Some-behind-4
returns-in-Some-behind-4 c =
    let low : c.args.depth ≤ 4294967295 = c.in_ok-gives.ensures.low in
    let one : c.args.depth + 1 ≡ suc c.args.depth = omega arith in
    let few : c.args.depth + 1 ≤ 4294967296 = omega arith in (
      over_boundary c.args.names.now _ c.args.room c.args.depth c.args.bytes.now c.in_default.ensures c.in_default-behind.ensures c.in_default-behind-2.ensures c.in_default-behind-3.ensures c.in-Some-behind-4.ensures
          ∙ boundary_waits c.args.names.now c.args.room c.args.depth c.in-Some-behind-4.rest.now c.in_ok-gives-2.gives c.in_ok-gives.ensures.read c.in_ok-gives-2.ensures.ok one,
      tt,
      few,
    )

pub returns-in_err-term : goal.returns-in_err-term
returns-in_err-term c =
    let error = err_from_is_err_and c.from_residual-in_err-term.result c.from_residual-in_err-term.ensures.1 in
    rw (error.1, error.2)
    (begins_stopped c.args.names.now c.args.room term_of c.in_err-term.field-0.0 _ Got
    (over_plain c.args.names.now _ c.args.room c.args.depth c.args.bytes.now c.in_default.ensures c.in_default-behind.ensures c.in_default-behind-2.ensures c.in_default-behind-3.ensures c.in_default-behind-4.ensures ∙ bind-got _)
    c.in_err-term.ensures.read)

pub returns : goal.returns
returns c = (
  over_plain c.args.names.now _ c.args.room c.args.depth c.args.bytes.now c.in_default.ensures c.in_default-behind.ensures c.in_default-behind-2.ensures c.in_default-behind-3.ensures c.in_default-behind-4.ensures
      ∙ c.in_ok-term.ensures.read,
  c.in_ok-term.ensures.placed,
)
