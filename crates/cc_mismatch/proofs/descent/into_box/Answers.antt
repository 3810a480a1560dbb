use Rattle.cc_core.specs.TermViews.{shape_of, type_of, context_of}
use Rattle.cc_mismatch.proofs.LeadingParts.{box_stays, no_box}
use Rattle.cc_mismatch.proofs.descent.into_box.Goals as goal

pub returns-in_default : goal.returns-in_default
returns-in_default c =
    box_stays (context_of c.args.ctx.now) (type_of c.args.content.now) (shape_of c.args.right.now)
    (no_box c.args.right.now c.in_default.not-Boxed)
