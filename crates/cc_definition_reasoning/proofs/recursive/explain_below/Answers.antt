use Rattle.std.proofs.Common.{sym, subst}
use Rattle.cc_core.specs.TermViews.{type_of, context_of}
use Rattle.cc_core.specs.WellFormed.{IsWellFormedType}
use Rattle.cc_check.proofs.StandingDefinitions.{type_with_own_name}
use Rattle.cc_definition_reasoning.proofs.recursive.explain_below.Goals as goal

pub explain_recursion-requires-clause-ty : goal.explain_recursion-requires-clause-ty
explain_recursion-requires-clause-ty c =
    subst (λ g. IsWellFormedType g (type_of c.args.sig)) (sym c.in_ok-inner.ensures.context)
    (type_with_own_name (context_of c.args.ctx.now) (type_of c.args.sig) c.requires.ty)
