use Rattle.std.proofs.Common.{sym, ◌∙◌}
use Rattle.cc_capture.proofs.Equality.{same_set-decides}
use Rattle.cc_known.proofs.EndedLists.{ended_known}
use Rattle.cc_known.proofs.known.ends_if.Goals as goal

pub returns-then-eq-2 : goal.returns-then-eq-2
returns-then-eq-2 c = λ context is.
    let known = c.args.known.now in
    ended_known context known c.args.left.now c.args.right.now
    ((same_set-decides known.left c.args.left.now).0 (sym c.eq.ensures ∙ c.if-eq.true))
    ((same_set-decides known.right c.args.right.now).0 (sym c.eq-then-eq.ensures ∙ c.if-eq-2.true)) is
