use Rattle.std.proofs.Common.{◌≡◌, false, sym, subst}
use Rattle.cc_core.specs.Questions.{occurs, occurs_in_type}
use Rattle.cc_core.specs.TermViews.{shape_of, type_of}
use Rattle.cc_known.specs.Measures.{IsClearAlong, position_question}
use Rattle.cc_known.proofs.MeasuredShapes.{clear_function, clear_type_function, clear_type, clear_shape, clear_from}
use Rattle.cc_known.proofs.measures.+measured_occurrences.Goals as goal

pub occurs_along-returns-then-steps-eq0 : goal.occurs_along-returns-then-steps-eq0
occurs_along-returns-then-steps-eq0 t c = λ fails.
    clear_from c.args.first c.args.position (shape_of c.args.shape.now) c.requires.from
    (subst (λ n. IsClearAlong c.args.first n (shape_of c.args.shape.now)) c.if-steps-eq0.true c.requires.clear)

pub occurs_along-returns-else-occurs_in_type : goal.occurs_along-returns-else-occurs_in_type
occurs_along-returns-else-occurs_in_type t c = λ fails.
    let q = position_question c.args.position in
    subst (λ s. occurs q (shape_of s) ≡ false) (sym c.in-Fun.is)
    (clear_function q (type_of c.in-Fun.takes.value) (type_of c.in-Fun.gives.value)
    (subst (λ s. occurs_in_type q (type_of s) ≡ false) c.deref.ensures
    (clear_type c.args.position (type_of c.deref.result.now) (c.occurs_in_type.ensures.0 c.if-occurs_in_type.false)))
    (subst (λ s. occurs_in_type q (type_of s) ≡ false) c.deref-else-occurs_in_type.ensures
    (c.occurs_in_type_along.ensures fails)))

pub occurs_along-returns-else-occurs_in_shape : goal.occurs_along-returns-else-occurs_in_shape
occurs_along-returns-else-occurs_in_shape t c = λ fails.
    let q = position_question c.args.position in
    subst (λ s. occurs q (shape_of s) ≡ false) (sym c.in-TFun.is)
    (clear_type_function q (shape_of c.in-TFun.bound.value) (type_of c.in-TFun.gives.value)
    (subst (λ s. occurs q (shape_of s) ≡ false) c.deref-in-TFun.ensures
    (clear_shape c.args.position (shape_of c.deref-in-TFun.result.now) (c.occurs_in_shape.ensures.0 c.if-occurs_in_shape.false)))
    (subst (λ s. occurs_in_type q (type_of s) ≡ false) c.deref-else-occurs_in_shape.ensures
    (c.occurs_in_type_along-else-occurs_in_shape.ensures fails)))

pub occurs_along-returns-in_default : goal.occurs_along-returns-in_default
occurs_along-returns-in_default t c = λ fails.
    clear_shape c.args.position (shape_of c.args.shape.now) (c.occurs_in_shape-in_default.ensures.0 fails)
