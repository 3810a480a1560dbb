use Rattle.std.proofs.Common.{length, sym, ◌∙◌, subst}
use Rattle.cc_core.specs.Occurrences.{MeetsInType, without}
use Rattle.cc_core.specs.Shapes.{CapturingType}
use Rattle.cc_core.specs.TermViews.{type_of, context_of}
use Rattle.cc_known.specs.Measures.{IsMeasuredBy}
use Rattle.cc_type.proofs.ClosingWithout.{closed_type-without}
use Rattle.cc_type.proofs.ends.closed.Goals as goal

pub returns-clause-is : goal.returns-clause-is
returns-clause-is c =
    c.in_ok-same.ensures.cases
    ∙ sym
    (closed_type-without (length (context_of c.args.ctx.now)) (type_of c.args.ty.now)
    (subst (λ n. MeetsInType (without n) 0 (type_of c.args.ty.now)) c.entries.ensures
    (c.occurs_in_measured_type.ensures c.if-occurs_in_measured_type.false)))

pub returns-clause-measured : goal.returns-clause-measured
returns-clause-measured c =
    subst (λ (t : CapturingType). IsMeasuredBy c.args.known t.shape) (sym c.in_ok-same.ensures.cases) c.requires
