use Rattle.std.proofs.Common.{map, subst}
use Rattle.cc_core.specs.TermViews.{type_of}
use Rattle.cc_subty.specs.Demands.{asked_of}
use Rattle.cc_check.specs.Definitions.{definition_of}
use Rattle.cc_definition_reasoning.specs.ExplainedDefinitions.{checking_of}
use Rattle.cc_reasoning.specs.LocatedLogs.{Meets, beside}
use Rattle.cc_causes.specs.Views.{locals_of, scene_of, binder_names_of}
use Rattle.cc_definition_reasoning.proofs.ExplainedRows.{recursion_logs}
use Rattle.cc_definition_reasoning.proofs.definitions.explain_recursion.Goals as goal

pub returns-clause-exact : goal.returns-clause-exact
returns-clause-exact c = λ globals outer.
    subst (Meets checking_of c.recursion_steps.result
    (beside (asked_of c.recursion_steps.new.log.demands)
    (map (λ l. locals_of l.value) c.recursion_steps.new.known.items)))
    (recursion_logs (scene_of c.args.inner.now) globals (definition_of c.args.def.now)
    (binder_names_of c.args.binders.now) (type_of c.args.sig)
    (beside (asked_of c.args.log.now.demands) (map (λ l. locals_of l.value) c.args.known.now.items)) outer)
    c.recursion_steps.ensures.exact
