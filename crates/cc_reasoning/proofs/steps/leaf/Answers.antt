use Rattle.std.proofs.Common.{Err, length, sym, ap, subst, ◌∙◌}
use Rattle.cc_core.specs.declared.terms.Node.{Node}
use Rattle.cc_core.specs.Places.{places_of}
use Rattle.cc_core.specs.TermViews.{term_of}
use Rattle.cc_checking.specs.Inference.{inferred}
use Rattle.cc_subty.specs.Demands.{asked_of}
use Rattle.cc_known.specs.Logs as logs
use Rattle.cc_known.specs.Parts.{found_of}
use Rattle.cc_type.specs.Rows.{ways}
use Rattle.cc_reasons.specs.ExplainedInference.{explained}
use Rattle.cc_reasons.proofs.ExplainedOutcomes.{explained_is_inference}
use Rattle.cc_causes.specs.declared.reason.Cause.{Cause as DeclaredCause}
use Rattle.cc_causes.specs.LeafReasons.{IsCauseIn}
use Rattle.cc_reasoning.specs.LocatedLogs.{Stopped}
use Rattle.cc_causes.specs.Views.{locals_of, scene_of, binder_names_of, cause_of}
use Rattle.cc_reasoning.proofs.ExplainedSteps as steps
use Rattle.cc_reasoning.proofs.steps.leaf.Goals as goal

pub returns-in_ok-fill-in-Ok-clause-exact : goal.returns-in_ok-fill-in-Ok-clause-exact
returns-in_ok-fill-in-Ok-clause-exact c =
    let scene = scene_of c.args.scene.now in
    let term = term_of c.args.node.now.value in
    let places = places_of c.args.node.now.value in
    let names = binder_names_of c.args.binders.now in
    steps.kept_step scene.locals (λ l. locals_of l.value) c.args.known.now.items c.fill.new.known.items
    c.args.log.now.demands c.infer_known.new.log.demands c.len-count.result (found_of c.in-Ok.found)
    (explained ways c.args.root scene term places names)
    (inferred ways c.args.root scene.context term places)
    c.requires.even
    (explained_is_inference ways c.args.root scene term places names)
    (c.in-Ok.ensures.exact)
    (c.len-count.ensures ∙ ap length c.demands.ensures) c.in_ok-fill-in-Ok.ensures (steps.leaf_at c.args.root scene term places names c.requires.leaf)

pub returns-in_ok-fill-in-Ok-clause-even : goal.returns-in_ok-fill-in-Ok-clause-even
returns-in_ok-fill-in-Ok-clause-even c =
    let scene = scene_of c.args.scene.now in
    let term = term_of c.args.node.now.value in
    let places = places_of c.args.node.now.value in
    let names = binder_names_of c.args.binders.now in
    steps.kept_even scene.locals (λ l. locals_of l.value) c.args.known.now.items c.fill.new.known.items
    c.args.log.now.demands c.infer_known.new.log.demands c.len-count.result (found_of c.in-Ok.found)
    (explained ways c.args.root scene term places names)
    (inferred ways c.args.root scene.context term places)
    c.requires.even
    (explained_is_inference ways c.args.root scene term places names)
    (c.in-Ok.ensures.exact)
    (c.len-count.ensures ∙ ap length c.demands.ensures) c.in_ok-fill-in-Ok.ensures

pub returns-in_ok-cause-in-Err-Refused-2-clause-exact : goal.returns-in_ok-cause-in-Err-Refused-2-clause-exact
returns-in_ok-cause-in-Err-Refused-2-clause-exact c =
    let scene = scene_of c.args.scene.now in
    let term = term_of c.args.node.now.value in
    let places = places_of c.args.node.now.value in
    let names = binder_names_of c.args.binders.now in
    let stopped = subst (λ e. logs.Meets found_of (Err e) (asked_of c.infer_known.new.log.demands)
    (logs.after (asked_of c.args.log.now.demands) (inferred ways c.args.root scene.context term places))) c.in-Err-Refused.field-0-is c.in-Err-Refused.ensures.exact in
    steps.stopped_step (λ l. locals_of l.value) c.args.known.now.items c.args.log.now.demands c.in-Err-Refused.diag.code c.in-Err-Refused.diag.place
    (cause_of c.in_ok-cause-in-Err-Refused.cause)
    (explained ways c.args.root scene term places names)
    (inferred ways c.args.root scene.context term places)
    (explained_is_inference ways c.args.root scene term places names)
    ((subst (λ (n : Node). IsCauseIn c.in-Err-Refused.diag.code scene (term_of n) (cause_of c.in_ok-cause-in-Err-Refused.cause))
    c.deref.ensures c.in_ok-cause-in-Err-Refused.ensures).told c.args.root places names c.in-Err-Refused.diag.place)
    (stopped)
    ∙ ap (λ (k : DeclaredCause). Stopped (cause_of k) c.in-Err-Refused.diag.place) (sym c.in_ok-cause-in-Err-Refused-2.ensures.ok)
