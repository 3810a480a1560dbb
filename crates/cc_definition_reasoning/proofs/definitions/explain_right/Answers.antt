use Rattle.std.proofs.Common.{map, ◌∙◌, sym, subst}
use Rattle.std.proofs.lemmas.List.{length-map}
use Rattle.cc_core.specs.Places.{places_of}
use Rattle.cc_core.specs.TermViews.{bind_of, term_of, context_of}
use Rattle.cc_subty.specs.Demands.{asked_of}
use Rattle.cc_known.specs.Parts.{found_of}
use Rattle.cc_type.specs.Rows.{ways}
use Rattle.cc_check.proofs.StandingDefinitions.{stands_itself}
use Rattle.cc_reasons.specs.ExplainedInference.{explained}
use Rattle.cc_reasoning.specs.LocatedLogs.{Meets, after, beside}
use Rattle.cc_causes.specs.Views.{locals_of, scene_of, binder_names_of}
use Rattle.cc_definition_reasoning.proofs.definitions.explain_right.Goals as goal

pub explain_term-requires-clause-term : goal.explain_term-requires-clause-term
explain_term-requires-clause-term c =
    stands_itself c.len-root.result (context_of c.args.scene.now.ctx) (term_of c.args.node.now.value)
    (c.len-root.ensures ∙ sym (length-map c.args.scene.now.ctx bind_of)) c.requires.term

pub returns-clause-exact : goal.returns-clause-exact
returns-clause-exact c =
    subst (λ root. Meets found_of c.explain_term.result
    (beside (asked_of c.explain_term.new.log.demands) (map (λ l. locals_of l.value) c.explain_term.new.known.items))
    (after (beside (asked_of c.args.log.now.demands) (map (λ l. locals_of l.value) c.args.known.now.items))
    (explained ways root (scene_of c.args.scene.now) (term_of c.args.node.now.value) (places_of c.args.node.now.value)
    (binder_names_of c.args.binders.now))))
    (c.len-root.ensures ∙ sym (length-map c.args.scene.now.ctx bind_of)) c.explain_term.ensures.exact
