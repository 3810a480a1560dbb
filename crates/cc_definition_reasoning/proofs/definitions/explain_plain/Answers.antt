use Rattle.std.proofs.Common.{map, subst}
use Rattle.cc_subty.specs.Demands.{asked_of}
use Rattle.cc_check.specs.Definitions.{definition_of}
use Rattle.cc_definition_reasoning.specs.ExplainedDefinitions.{checking_of}
use Rattle.cc_reasoning.specs.LocatedLogs.{Meets, beside}
use Rattle.cc_causes.specs.Views.{locals_of, scene_of, binder_names_of}
use Rattle.cc_definition_reasoning.proofs.ExplainedRows.{plain_logs}
use Rattle.cc_definition_reasoning.proofs.definitions.explain_plain.Goals as goal

pub returns-clause-exact : goal.returns-clause-exact
returns-clause-exact c =
    subst (Meets checking_of c.plain_steps.result
    (beside (asked_of c.plain_steps.new.log.demands) (map (λ l. locals_of l.value) c.plain_steps.new.known.items)))
    (plain_logs (scene_of c.args.scene.now) (definition_of c.args.def.now) (binder_names_of c.args.binders.now)
    (beside (asked_of c.args.log.now.demands) (map (λ l. locals_of l.value) c.args.known.now.items))
    c.requires.outermost)
    c.plain_steps.ensures.exact
