use Rattle.std.proofs.Common.{sym, subst}
use Rattle.cc_core.specs.Shapes.{capturing}
use Rattle.cc_core.specs.TermViews.{shape_of, context_of}
use Rattle.cc_core.specs.WellFormed.{IsWellFormedType}
use Rattle.cc_known.proofs.FormedParts.{pure_well_formed}
use Rattle.cc_infer.proofs.infer.bounded.Goals as goal

pub below-requires-clause-right : goal.below-requires-clause-right
below-requires-clause-right c =
    let g = context_of c.args.inner.now in
    let s = shape_of c.args.gives.value in
    subst (λ x. IsWellFormedType g (capturing s x)) (sym c.new-set.ensures) (pure_well_formed g s c.requires.gives)
