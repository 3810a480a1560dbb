use Rattle.std.proofs.Common.{sym, ap, ◌∙◌}
use Rattle.cc_core.specs.TermViews.{shape_of, context_of}
use Rattle.cc_subty.specs.Exposing.{shape_bound}
use Rattle.cc_subty.proofs.BoundsFollowed.{bound_leads, bound_spot, nothing_leads}
use Rattle.cc_subty.proofs.exposing.expose.Goals as goal

pub loop-bound-smaller : goal.loop-bound-smaller
loop-bound-smaller c =
    bound_spot (context_of c.args.ctx.now) (shape_of c.loop-bound.reached.now.value)
    (shape_of c.in-Some.bound.now.value) c.requires.context
    (ap (λ s. shape_bound (context_of c.args.ctx.now) (shape_of s)) (sym c.deref.ensures) ∙ sym c.in-Some.ensures)

pub loop-bound-preserved : goal.loop-bound-preserved
loop-bound-preserved c =
    bound_leads (context_of c.args.ctx.now) (shape_of c.args.shape.now.value)
    (shape_of c.loop-bound.reached.now.value) (shape_of c.in-Some.bound.now.value)
    c.requires.context c.loop-bound.invariant
    (ap (λ s. shape_bound (context_of c.args.ctx.now) (shape_of s)) (sym c.deref.ensures) ∙ sym c.in-Some.ensures)

pub returns : goal.returns
returns c =
    nothing_leads (context_of c.args.ctx.now) (shape_of c.args.shape.now.value)
    (shape_of c.loop-bound.reached.now.value) c.loop-bound.invariant
    (ap (λ s. shape_bound (context_of c.args.ctx.now) (shape_of s)) (sym c.deref.ensures) ∙ sym c.in_default.ensures)
