use Rattle.std.proofs.Common.{ap, ◌∙◌}
use Rattle.cc_core.specs.Reading.{reading}
use Rattle.cc_core.specs.Traversal.{act_term}
use Rattle.cc_core.specs.TermViews.{term_of, bind_of, context_of}
use Rattle.cc_validity.proofs.ReadTerms.{under_opened}
use Rattle.cc_validity.proofs.premises.under_opened.Goals as goal

pub returns : goal.returns
returns c =
    under_opened (context_of c.args.ctx.now) (context_of c.in_ok-inner.inner) (bind_of c.args.bind)
    (act_term (reading c.args.entries) 1 (term_of c.args.body.now.node.value)) (term_of c.in_ok-body.body.node.value) (ap context_of c.in_ok-inner.ensures)
    (c.in_ok-body.ensures ∙ c.in_ok-read.ensures)
