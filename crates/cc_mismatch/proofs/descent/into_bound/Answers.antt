use Rattle.std.proofs.Common.{Some, sym, subst}
use Rattle.cc_core.specs.Shapes.{TypeVariable}
use Rattle.cc_core.specs.TermViews.{shape_of, context_of}
use Rattle.cc_reasons.specs.Mismatches.{Pair, pair}
use Rattle.cc_mismatch.specs.Descents.{LeadsTo}
use Rattle.cc_mismatch.proofs.LeadingParts.{variable_leads, variable_stays}
use Rattle.cc_mismatch.proofs.descent.into_bound.Goals as goal

pub returns-in_ok-parts_in-in-Some : goal.returns-in_ok-parts_in-in-Some
returns-in_ok-parts_in-in-Some c =
    let g = context_of c.args.ctx.now in
    let right = shape_of c.args.right.now.value in
    subst (λ (p : Pair). LeadsTo (pair g (TypeVariable c.args.variable) right) (Some p)) (sym c.in_ok-parts_in-in-Some.ensures)
    (variable_leads g c.args.variable (shape_of c.in-Some.bound.now.value) right c.requires.context c.requires.right (sym c.in-Some.ensures))

pub returns-in-None : goal.returns-in-None
returns-in-None c =
    variable_stays (context_of c.args.ctx.now) c.args.variable (shape_of c.args.right.now.value) (sym c.in-None.ensures)
