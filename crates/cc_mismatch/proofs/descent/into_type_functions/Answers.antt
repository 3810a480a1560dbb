use Rattle.std.proofs.Common.{Some, sym, ap, ◌∙◌, subst}
use Rattle.cc_core.specs.Equality.{same_shape}
use Rattle.cc_core.specs.Shapes.{TypeFunctionShape}
use Rattle.cc_core.specs.TermViews.{shape_of, type_of, context_of}
use Rattle.cc_reasons.specs.Mismatches.{Pair, pair}
use Rattle.cc_mismatch.specs.Descents.{LeadsTo}
use Rattle.cc_mismatch.proofs.LeadingParts.{results_lead, results_stay}
use Rattle.cc_mismatch.proofs.descent.into_type_functions.Goals as goal

pub returns-in_ok-given_below : goal.returns-in_ok-given_below
returns-in_ok-given_below c =
    let g = context_of c.args.ctx.now in
    let b = shape_of c.args.bound.now.value in
    let b' = shape_of c.args.other.now.value in
    let u = type_of c.args.gives.now in
    let u' = type_of c.args.other_gives.now in
    let same =
    sym (c.same_shape.ensures ∙ ap (λ x. same_shape (shape_of x) (shape_of c.deref-2.result.now)) c.deref.ensures
    ∙ ap (λ x. same_shape b (shape_of x)) c.deref-2.ensures) ∙ c.if-same_shape.true in
    subst (λ (p : Pair). LeadsTo (pair g (TypeFunctionShape b u.shape u.set) (TypeFunctionShape b' u'.shape u'.set)) (Some p))
    (sym c.in_ok-given_below.ensures) (results_lead g b b' u u' c.requires.context c.requires.left c.requires.right same)

pub returns-else-same_shape : goal.returns-else-same_shape
returns-else-same_shape c =
    let b = shape_of c.args.bound.now.value in
    results_stay (context_of c.args.ctx.now) b (shape_of c.args.other.now.value) (type_of c.args.gives.now) (type_of c.args.other_gives.now)
    (sym (c.same_shape.ensures ∙ ap (λ x. same_shape (shape_of x) (shape_of c.deref-2.result.now)) c.deref.ensures
    ∙ ap (λ x. same_shape b (shape_of x)) c.deref-2.ensures) ∙ c.if-same_shape.false)
