use Rattle.std.proofs.Common.{map, subst}
use Rattle.cc_core.specs.Places.{places_of}
use Rattle.cc_core.specs.TermViews.{term_of, context_of}
use Rattle.cc_subty.specs.Demands.{asked_of}
use Rattle.cc_known.specs.Parts.{found_of}
use Rattle.cc_type.proofs.StandingTerms.{stands_well}
use Rattle.cc_reasoning.specs.LocatedLogs.{Meets, beside}
use Rattle.cc_causes.specs.Views.{locals_of, scene_of, binder_names_of}
use Rattle.cc_reasoning.proofs.ExplainedLogs.{explained_logs}
use Rattle.cc_reasoning.proofs.explain.explain_term.Goals as goal

pub explain-requires-clause-term : goal.explain-requires-clause-term
explain-requires-clause-term c = stands_well c.args.root (context_of c.args.scene.now.ctx)
    (term_of c.args.node.now.value) c.requires.term

pub returns-clause-exact : goal.returns-clause-exact
returns-clause-exact c =
    subst (Meets found_of c.explain.result
    (beside (asked_of c.explain.new.log.demands) (map (λ l. locals_of l.value) c.explain.new.known.items)))
    (explained_logs c.args.root (term_of c.args.node.now.value) (scene_of c.args.scene.now)
    (places_of c.args.node.now.value) (binder_names_of c.args.binders.now)
    (beside (asked_of c.args.log.now.demands) (map (λ l. locals_of l.value) c.args.known.now.items)))
    c.explain.ensures.exact
