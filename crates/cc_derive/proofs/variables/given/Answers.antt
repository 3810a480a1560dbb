use Rattle.cc_core.specs.TermViews.{context_of}
use Rattle.cc_checking.specs.CanonicalDerivations.{variable_derived}
use Rattle.cc_derive.proofs.variables.given.Goals as goal

pub returns : goal.returns
returns c = λ m le.
    (c.in_ok-raised.ensures m le (variable_derived (context_of c.args.ctx.now) c.args.given) c.in_ok-part.ensures).made
