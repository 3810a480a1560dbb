use Rattle.cc_core.specs.TermViews.{shape_of, type_of, context_of}
use Rattle.cc_mismatch.proofs.LeadingParts.{function_stays, no_function}
use Rattle.cc_mismatch.proofs.descent.into_function.Goals as goal

pub returns-in_default : goal.returns-in_default
returns-in_default c =
    function_stays (context_of c.args.ctx.now) (type_of c.args.takes.now) (type_of c.args.gives.now) (shape_of c.args.right.now)
    (no_function c.args.right.now c.in_default.not-Fun)
