use Rattle.std.proofs.Common.{sym, ◌∙◌}
use Rattle.cc_core.specs.TermViews.{term_of, context_of}
use Rattle.cc_validity.proofs.ReadTerms.{read_none, read_well_formed}
use Rattle.cc_validity.proofs.premises.entries_read.Goals as goal

pub returns-then-branch : goal.returns-then-branch
returns-then-branch c =
    read_well_formed c.entries_of.result (context_of c.args.ctx.now) (term_of c.args.node.now) (sym c.in_ok-wf_term.ensures ∙ c.if-branch.true)

pub returns-else-branch : goal.returns-else-branch
returns-else-branch c = read_none (term_of c.args.node.now)
