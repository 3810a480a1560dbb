use Rattle.std.proofs.Common.{sym, ◌∙◌}
use Rattle.cc_core.specs.TermViews.{shape_of, type_of}
use Rattle.cc_checking.specs.Comparison.{comparison}
use Rattle.cc_checking.specs.Inference.{shape_in}
use Rattle.cc_type.specs.FormsAlone.{forces_nothing}
use Rattle.cc_type.proofs.FormsAlone.{types_pass, functions_pass, boxes_pass, same_pass, any_pass, step_passes}
use Rattle.cc_type.proofs.forms.+forms.Goals as goal

pub boxes_match-returns : goal.boxes_match-returns
boxes_match-returns t c = λ holds context.
    boxes_pass c.args.steps context (type_of c.args.content.now) (type_of c.args.other.now)
    (c.types_match.ensures holds context)

pub form_matches-returns-in_default : goal.form_matches-returns-in_default
form_matches-returns-in_default t c = λ holds context.
    same_pass c.args.steps context (shape_of c.args.left.now) (shape_of c.args.right.now)
    (sym c.same_shape.ensures ∙ holds)

pub functions_match-returns : goal.functions_match-returns
functions_match-returns t c = λ holds context.
    functions_pass c.args.steps context (type_of c.args.takes.now) (type_of c.args.gives.now) (type_of c.args.others.now)
    (type_of c.args.other_gives.now) (c.types_match.ensures c.if-not-types_match.false) (c.types_match-2.ensures holds)

pub shapes_match-returns-then-is_any : goal.shapes_match-returns-then-is_any
shapes_match-returns-then-is_any t c = λ holds context.
    any_pass c.args.steps context (shape_of c.args.left.now) (shape_of c.args.right.now) c.if-steps-eq0.false
    (sym c.is_any.ensures ∙ c.if-is_any.true)

pub shapes_match-returns : goal.shapes_match-returns
shapes_match-returns t c = λ holds context.
    step_passes c.args.steps context (shape_of c.args.left.now) (shape_of c.args.right.now) c.if-steps-eq0.false
    (c.form_matches.ensures holds context)

pub types_match-returns : goal.types_match-returns
types_match-returns t c = λ holds context.
    types_pass c.args.steps context (type_of c.args.left.now) (type_of c.args.right.now)
    (sym c.has_hole.ensures ∙ c.if-has_hole.false)
    ((λ i. forces_nothing (comparison c.args.steps context (shape_in context (shape_of (sym c.deref.ensures i)))
    (shape_in context (shape_of (sym c.deref-2.ensures i)))))
    ∙ c.shapes_match.ensures holds context)
