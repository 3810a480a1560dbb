use Rattle.std.proofs.Common.{sym, ap, ◌∙◌}
use Rattle.cc_capture.specs.Sets.{union}
use Rattle.cc_capture.proofs.Unions.{empty-union}
use Rattle.cc_solve.proofs.Judgements.{none_now}
use Rattle.cc_solve.proofs.judging.add_set.Goals as goal

pub returns-in-None : goal.returns-in-None
returns-in-None c = sym (ap (λ s. union s c.args.whole.now) (none_now c.args.set c.in-None.is) ∙ empty-union c.args.whole.now)
