use Rattle.std.proofs.Common.{ap}
use Rattle.cc_core.specs.TermViews.{term_of, bind_of, context_of}
use Rattle.cc_validity.proofs.ReadTerms.{under_read}
use Rattle.cc_validity.proofs.premises.under_read.Goals as goal

pub returns : goal.returns
returns c =
    λ entries all. under_read entries c.entries_of-entries.result (context_of c.args.ctx.now) (context_of c.in_ok-inner.inner) (bind_of c.args.bind)
    (term_of c.args.body.now.node.value) (term_of c.in_ok-body.body.node.value) (ap context_of c.in_ok-inner.ensures) c.entries_of-entries.ensures
    c.in_ok-body.ensures all
