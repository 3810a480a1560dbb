use Rattle.std.proofs.lemmas.Result.{IfOk-weaker}
use Rattle.cc_core.specs.TermViews.{shape_of, type_of, context_of}
use Rattle.cc_checking.specs.CanonicalDerivations as plain
use Rattle.cc_derive.proofs.MadeEnds.{boundary_made}
use Rattle.cc_derive.proofs.ends.boundary_end.Goals as goal

pub returns : goal.returns
returns c =
    IfOk-weaker c.over_one.result _ _
    (λ x h. λ m le d p.
    boundary_made c.args.build (plain.shape_derived m) x c.in_ok-raised.raised (context_of c.args.ctx.now) (context_of c.args.inner.now) (shape_of c.args.gives.value) (type_of c.pure_type-whole.result) (type_of c.in_ok-copy.copy) d
    c.requires c.pure_type-whole.ensures c.in_ok-copy.ensures.cases (c.in_ok-raised.ensures m le d p) h)
    c.over_one.ensures
