use Rattle.std.proofs.lemmas.Result.{IfOk-weaker}
use Rattle.cc_core.specs.TermViews.{type_of, context_of}
use Rattle.cc_derive.proofs.MadeEnds.{function_made}
use Rattle.cc_derive.proofs.ends.function_end.Goals as goal

pub returns : goal.returns
returns c =
    IfOk-weaker c.over_one.result _ _
    (λ x h. λ d p.
    function_made c.args.build x (context_of c.args.ctx.now) (type_of c.args.takes) (type_of c.in_ok-gives.gives.value) (type_of c.in_ok-ty.ty) c.in_ok-set.set c.args.captured.now c.args.part d p
    c.in_ok-gives.ensures c.in_ok-set.ensures c.in_ok-ty.ensures h)
    c.over_one.ensures
