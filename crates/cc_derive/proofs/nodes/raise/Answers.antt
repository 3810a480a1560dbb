use Rattle.std.proofs.lemmas.Result.{IfOk-weaker}
use Rattle.cc_core.specs.TermViews.{type_of, context_of}
use Rattle.cc_checking.specs.CanonicalDerivations.{type_derived, shape_derived, typed}
use Rattle.cc_derive.proofs.MadeTypings.{below_typed}
use Rattle.cc_derive.proofs.nodes.raise.Goals as goal

pub returns : goal.returns
returns c =
    IfOk-weaker c.over_two.result _ _
    (λ t h. λ m le d p. h d (type_derived (shape_derived m) (context_of c.args.ctx.now) (typed d) (type_of c.args.ty)) p.made
    (below_typed c.args.build (shape_derived m) (context_of c.args.ctx.now) c.args.part c.in_ok-below.below d (type_of c.args.ty) p (c.in_ok-below.ensures m le)))
    c.over_two.ensures
