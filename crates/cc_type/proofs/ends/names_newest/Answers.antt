use Rattle.std.proofs.Common.{subst}
use Rattle.cc_core.specs.Occurrences.{Meets, without}
use Rattle.cc_core.specs.TermViews.{shape_of}
use Rattle.cc_type.proofs.ends.names_newest.Goals as goal

pub returns : goal.returns
returns c = λ fails.
    subst (λ n. Meets (without n) 0 (shape_of c.args.shape.now)) c.entries.ensures (c.occurs_in_measured.ensures fails)
