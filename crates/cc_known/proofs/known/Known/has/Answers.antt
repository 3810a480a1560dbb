use Rattle.std.proofs.Common.{sym, ◌∙◌}
use Rattle.cc_capture.proofs.Equality.{same_set-decides}
use Rattle.cc_core.specs.TermViews.{context_of}
use Rattle.cc_known.proofs.KnownSets.{known_as}
use Rattle.cc_known.proofs.known.Known.has.Goals as goal

pub returns-then-eq : goal.returns-then-eq
returns-then-eq c = λ holds.
    let own = c.args.self.now in
    known_as (context_of own.base) own.left own.right c.args.left.now c.args.right.now
    ((same_set-decides c.args.left.now own.left).0 (sym c.eq.ensures ∙ c.if-eq.true))
    ((same_set-decides c.args.right.now own.right).0 (sym c.eq-then-eq.ensures ∙ holds)) own.known
