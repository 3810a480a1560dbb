use Rattle.std.proofs.Common.{sym, subst}
use Rattle.cc_core.specs.Contexts.{entry_of}
use Rattle.cc_core.specs.TermViews.{type_of, term_of, context_of}
use Rattle.cc_known.specs.Measures.{AreMeasuresOf}
use Rattle.cc_type.specs.Standing.{StandsWell}
use Rattle.cc_type.proofs.MeasuredEntries.{more_measured}
use Rattle.cc_infer.proofs.infer.body_context.Goals as goal

pub returns-clause-stands : goal.returns-clause-stands
returns-clause-stands c =
    subst (λ g. StandsWell c.args.root g (term_of c.args.body.now.value)) (sym c.in_ok-inner.ensures.is)
    (c.requires.body (type_of c.args.ty.now) c.requires.ty)

pub returns-clause-measures : goal.returns-clause-measures
returns-clause-measures c =
    subst (AreMeasuresOf c.args.measures.now) (sym c.in_ok-inner.ensures.is)
    (more_measured c.args.measures.now (entry_of (type_of c.args.ty.now)) (context_of c.args.ctx.now) c.requires.measures)
