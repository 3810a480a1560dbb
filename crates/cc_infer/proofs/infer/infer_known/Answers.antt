use Rattle.std.proofs.Common.{subst}
use Rattle.cc_core.specs.Places.{places_of}
use Rattle.cc_core.specs.TermViews.{term_of, context_of}
use Rattle.cc_subty.specs.Demands.{asked_of}
use Rattle.cc_known.specs.Logs.{Meets}
use Rattle.cc_known.specs.Parts.{found_of}
use Rattle.cc_type.proofs.InferredLogs.{inferred_logs}
use Rattle.cc_type.proofs.StandingTerms.{stands_well}
use Rattle.cc_infer.proofs.infer.infer_known.Goals as goal

pub infer-requires-clause-term : goal.infer-requires-clause-term
infer-requires-clause-term c = stands_well c.args.root (context_of c.args.ctx.now)
    (term_of c.args.node.now.value) c.requires.term

pub returns-clause-exact : goal.returns-clause-exact
returns-clause-exact c =
    subst (Meets found_of c.infer.result (asked_of c.infer.new.log.demands))
    (inferred_logs c.args.root (term_of c.args.node.now.value) (context_of c.args.ctx.now)
    (places_of c.args.node.now.value) (asked_of c.args.log.now.demands))
    c.infer.ensures.exact
