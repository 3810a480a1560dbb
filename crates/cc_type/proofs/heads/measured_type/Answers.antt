use Rattle.std.proofs.Common.{sym, subst}
use Rattle.cc_core.specs.TermViews.{shape_of, type_of, context_of}
use Rattle.cc_known.specs.Measures.{IsMeasuredBy}
use Rattle.cc_type.proofs.MeasuredEntries.{measured_variable}
use Rattle.cc_type.proofs.heads.measured_type.Goals as goal

pub returns-clause-measured : goal.returns-clause-measured
returns-clause-measured c =
    subst (λ o. IsMeasuredBy o (shape_of c.in_ok-ty.ty.shape.value)) (sym c.measure_of-known.ensures)
    (measured_variable c.args.measures.now (context_of c.args.ctx.now) c.in_context-named.result (type_of c.in_ok-ty.ty)
    c.requires.measures c.in_ok-ty.ensures)
