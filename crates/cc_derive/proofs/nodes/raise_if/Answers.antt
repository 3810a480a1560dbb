use Rattle.std.proofs.Common.{sym, ◌∙◌}
use Rattle.std.proofs.lemmas.Result.{IfOk-weaker}
use Rattle.cc_core.specs.TermViews.{type_of, context_of}
use Rattle.cc_checking.specs.CanonicalDerivations.{shape_derived}
use Rattle.cc_derive.proofs.MadeTypings.{raised_same, raised_other}
use Rattle.cc_derive.proofs.nodes.raise_if.Goals as goal

pub returns-then-same_type : goal.returns-then-same_type
returns-then-same_type c = λ m le d p.
    raised_same c.args.build (shape_derived m) (context_of c.args.ctx.now) c.args.part d (type_of c.args.ty)
    (sym c.same_type.ensures ∙ c.if-same_type.true) p

pub returns : goal.returns
returns c =
    IfOk-weaker c.raise.result _ _
    (λ t h. λ m le d p.
    raised_other c.args.build (shape_derived m) (context_of c.args.ctx.now) c.args.part t d (type_of c.args.ty)
    (sym c.same_type.ensures ∙ c.if-same_type.false) p (h m le d p))
    c.raise.ensures
