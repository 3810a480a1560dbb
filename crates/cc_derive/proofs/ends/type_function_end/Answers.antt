use Rattle.std.proofs.lemmas.Result.{IfOk-weaker}
use Rattle.cc_core.specs.TermViews.{shape_of, type_of, context_of}
use Rattle.cc_derive.proofs.MadeEnds.{type_function_made}
use Rattle.cc_derive.proofs.ends.type_function_end.Goals as goal

pub returns : goal.returns
returns c =
    IfOk-weaker c.over_one.result _ _
    (λ x h. λ d p.
    type_function_made c.args.build x (context_of c.args.ctx.now) (shape_of c.args.bound.value) (type_of c.in_ok-gives.gives.value) (type_of c.in_ok-ty.ty) c.in_ok-set.set c.args.captured.now c.args.part d p
    c.in_ok-gives.ensures c.in_ok-set.ensures c.in_ok-ty.ensures h)
    c.over_one.ensures
