use Rattle.std.proofs.Common.{true, sym, subst}
use Rattle.cc_sets.specs.Marking.{MarksThose}
use Rattle.cc_sets.specs.Reaching.{IsMissing}
use Rattle.cc_solve.proofs.FilledMarkings.{marks_nothing}
use Rattle.cc_solve.proofs.Judgements.{none_now}
use Rattle.cc_solve.proofs.judging.mark_set.Goals as goal

pub returns-in-None : goal.returns-in-None
returns-in-None c =
    subst (λ s. MarksThose (IsMissing s c.args.right.now) c.args.marks.now c.args.marks.now true) (sym (none_now c.args.set c.in-None.is))
    (marks_nothing c.args.right.now c.args.marks.now)
