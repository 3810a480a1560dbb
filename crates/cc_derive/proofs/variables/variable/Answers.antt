use Rattle.std.proofs.lemmas.Result.{IfOk-weaker}
use Rattle.cc_core.specs.TermViews.{shape_of, context_of}
use Rattle.cc_derive.proofs.MadeTypings.{variable_made}
use Rattle.cc_derive.proofs.variables.variable.Goals as goal

pub returns : goal.returns
returns c =
    IfOk-weaker c.leaf.result _ _
    (λ t h. variable_made c.args.build t (context_of c.args.ctx.now) c.args.variable (shape_of c.in_ok-shape.shape.value) c.in_ok-set.set c.in_ok-shape.ensures c.in_ok-set.ensures h)
    c.leaf.ensures
