use Rattle.std.proofs.Common.{◌≡◌, [], Some, sym, ap, ◌∙◌, subst}
use Rattle.cc_core.specs.TermViews.{shape_of, context_of}
use Rattle.cc_checking.specs.Comparison.{Matches, comparison}
use Rattle.cc_type.proofs.OneShape.{matches, led_matches}
use Rattle.cc_type.proofs.comparing.+leads_to.Goals as goal

pub returns-then-same_shape : goal.returns-then-same_shape
returns-then-same_shape t c = λ holds.
    matches c.args.steps (context_of c.args.ctx.now) (shape_of c.args.left.now) (shape_of c.args.right.now)
    c.if-steps-eq0.false (sym c.same_shape.ensures ∙ c.if-same_shape.true)

pub returns-in-Some : goal.returns-in-Some
returns-in-Some t c = λ holds.
    let g = context_of c.args.ctx.now in
    let right = shape_of c.args.right.now in
    subst (λ s. comparison c.args.steps g (shape_of s) right ≡ Matches []) (sym c.in-TVar.is)
    (led_matches c.args.steps g c.in-TVar.variable (shape_of c.deref.result.now) right c.if-steps-eq0.false
    (sym c.in-Some.ensures ∙ ap (λ s. Some (shape_of s)) (sym c.deref.ensures)) (c.leads_to.ensures holds))
