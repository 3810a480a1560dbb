use Rattle.std.proofs.Common.{sym, subst}
use Rattle.cc_core.specs.Contexts.{entry_of}
use Rattle.cc_core.specs.TermViews.{type_of, term_of, context_of}
use Rattle.cc_core.specs.WellFormed.{IsWellFormedTerm, IsWellFormedType}
use Rattle.cc_subty.specs.Demands.{asked_of}
use Rattle.cc_known.specs.Logs.{Meets}
use Rattle.cc_known.specs.Measures.{AreMeasuresOf}
use Rattle.cc_type.proofs.MeasuredEntries.{more_measured}
use Rattle.cc_check.specs.Definitions.{definition_of, checking_of}
use Rattle.cc_check.specs.Rows.{below_log}
use Rattle.cc_check.proofs.StandingDefinitions.{type_with_own_name}
use Rattle.cc_check.proofs.recursive.check_below.Goals as goal

pub check_inside-requires-clause-measures : goal.check_inside-requires-clause-measures
check_inside-requires-clause-measures c =
    subst (AreMeasuresOf c.args.measures.now) (sym c.in_ok-inner.ensures.is)
    (more_measured c.args.measures.now (entry_of (type_of c.args.sig)) (context_of c.args.ctx.now) c.requires.measures)

pub check_inside-requires-clause-ty : goal.check_inside-requires-clause-ty
check_inside-requires-clause-ty c =
    subst (λ g. IsWellFormedType g (type_of c.args.sig)) (sym c.in_ok-inner.ensures.is)
    (type_with_own_name (context_of c.args.ctx.now) (type_of c.args.sig) c.requires.ty)

pub check_inside-requires-clause-right : goal.check_inside-requires-clause-right
check_inside-requires-clause-right c =
    subst (λ g. IsWellFormedTerm g (term_of c.args.def.now.right.value)) (sym c.in_ok-inner.ensures.is) c.requires.right

pub returns-clause-exact : goal.returns-clause-exact
returns-clause-exact c =
    subst (λ g. Meets checking_of c.check_inside.result (asked_of c.check_inside.new.log.demands)
    (below_log g (definition_of c.args.def.now) (type_of c.args.sig) (asked_of c.args.log.now.demands)))
    c.in_ok-inner.ensures.is c.check_inside.ensures.exact
