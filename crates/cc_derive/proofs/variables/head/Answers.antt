use Rattle.cc_core.specs.TermViews.{shape_of, context_of}
use Rattle.cc_checking.specs.CanonicalDerivations.{shape_derived, variable_derived}
use Rattle.std.proofs.Common.{◌∙◌, ap}
use Rattle.cc_derive.proofs.MadeTypings.{head_made}
use Rattle.cc_derive.proofs.variables.head.Goals as goal

pub returns : goal.returns
returns c = λ m le.
    let g = context_of c.args.ctx.now in
    head_made c.args.build (shape_derived m) c.in_ok-raised.raised g c.args.head (shape_of c.in_ok-shape.shape.value) c.in_ok-set.set
    (ap shape_of c.in_ok-shape.ensures.cases ∙ c.requires) c.in_ok-set.ensures
    (c.in_ok-raised.ensures m le (variable_derived g c.args.head) c.in_ok-part.ensures)
