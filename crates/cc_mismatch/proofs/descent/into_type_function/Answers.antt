use Rattle.cc_core.specs.TermViews.{shape_of, type_of, context_of}
use Rattle.cc_mismatch.proofs.LeadingParts.{type_function_stays, no_type_function}
use Rattle.cc_mismatch.proofs.descent.into_type_function.Goals as goal

pub returns-in_default : goal.returns-in_default
returns-in_default c =
    type_function_stays (context_of c.args.ctx.now) (shape_of c.args.bound.now.value) (type_of c.args.gives.now) (shape_of c.args.right.now)
    (no_type_function c.args.right.now c.in_default.not-TFun)
