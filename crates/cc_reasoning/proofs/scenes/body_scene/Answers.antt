use Rattle.std.proofs.Common.{sym, subst}
use Rattle.cc_core.specs.TermViews.{type_of, term_of}
use Rattle.cc_type.specs.Standing.{StandsWell}
use Rattle.cc_reasoning.proofs.scenes.body_scene.Goals as goal

pub returns-clause-stands : goal.returns-clause-stands
returns-clause-stands c =
    subst (λ g. StandsWell c.args.root g (term_of c.args.body.now.value)) (sym c.in_ok-inner.ensures.context)
    (c.requires.body (type_of c.args.ty.now) c.requires.ty)
