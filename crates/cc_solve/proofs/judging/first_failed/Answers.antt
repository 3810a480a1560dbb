use Rattle.std.proofs.Common.{subst}
use Rattle.std.proofs.Common.{IfOk, MatchOption}
use Rattle.cc_checking.specs.Fillings.{AllServed, FailsFirst}
use Rattle.cc_subty.specs.Demands.{asked_of}
use Rattle.cc_solve.specs.Solutions.{filling_of}
use Rattle.cc_solve.proofs.judging.first_failed.Goals as goal

pub returns : goal.returns
returns c =
    subst
    (λ ds.
    IfOk c.first_in.result
    (λ r.
    MatchOption r (AllServed (filling_of c.args.filling.now) (asked_of ds)) (λ diag. FailsFirst (filling_of c.args.filling.now) (asked_of ds) diag.code diag.place)))
    c.as_slice.ensures c.first_in.ensures
