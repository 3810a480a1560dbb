use Rattle.std.proofs.Common.{Err, length, sym, ap, subst, ◌∙◌}
use Rattle.cc_core.specs.TermViews.{type_of}
use Rattle.cc_checking.specs.Inference.{below}
use Rattle.cc_subty.specs.Demands.{asked_of}
use Rattle.cc_known.specs.Logs as logs
use Rattle.cc_type.specs.Rows.{comparing, ways}
use Rattle.cc_reasons.specs.Causes.{Refused, WrongType}
use Rattle.cc_reasons.specs.ExplainedInference.{explained_below}
use Rattle.cc_reasons.proofs.ExplainedOutcomes.{below_is}
use Rattle.cc_causes.specs.declared.reason.Cause.{Cause as DeclaredCause}
use Rattle.cc_reasoning.specs.LocatedLogs.{Stopped}
use Rattle.cc_causes.specs.Views.{locals_of, scene_of, cause_of}
use Rattle.cc_reasoning.proofs.ExplainedSteps as steps
use Rattle.cc_reasoning.proofs.steps.bounded.Goals as goal

pub returns-in_ok-fill-in-Ok-clause-is : goal.returns-in_ok-fill-in-Ok-clause-is
returns-in_ok-fill-in-Ok-clause-is c =
    let scene = scene_of c.args.scene.now in
    let left = type_of c.args.left.now in
    let right = type_of c.args.right.now in
    steps.kept_step scene.locals (λ l. locals_of l.value) c.args.known.now.items c.fill.new.known.items
    c.args.log.now.demands c.below.new.log.demands c.len-count.result tt
    (explained_below ways c.args.at scene left right)
    (below comparing c.args.at scene.context left right)
    c.requires.even
    (below_is ways c.args.at scene left right)
    (c.in-Ok.ensures)
    (c.len-count.ensures ∙ ap length c.demands.ensures) c.in_ok-fill-in-Ok.ensures (steps.below_at c.args.at scene left right)

pub returns-in_ok-fill-in-Ok-clause-even : goal.returns-in_ok-fill-in-Ok-clause-even
returns-in_ok-fill-in-Ok-clause-even c =
    let scene = scene_of c.args.scene.now in
    let left = type_of c.args.left.now in
    let right = type_of c.args.right.now in
    steps.kept_even scene.locals (λ l. locals_of l.value) c.args.known.now.items c.fill.new.known.items
    c.args.log.now.demands c.below.new.log.demands c.len-count.result tt
    (explained_below ways c.args.at scene left right)
    (below comparing c.args.at scene.context left right)
    c.requires.even
    (below_is ways c.args.at scene left right)
    (c.in-Ok.ensures)
    (c.len-count.ensures ∙ ap length c.demands.ensures) c.in_ok-fill-in-Ok.ensures

pub returns-in_ok-cause-in-Err-Refused-2-clause-is : goal.returns-in_ok-cause-in-Err-Refused-2-clause-is
returns-in_ok-cause-in-Err-Refused-2-clause-is c =
    let scene = scene_of c.args.scene.now in
    let left = type_of c.args.left.now in
    let right = type_of c.args.right.now in
    let stopped = subst (λ e. logs.Meets (λ (u : Unit {0}). u) (Err e) (asked_of c.below.new.log.demands)
    (logs.after (asked_of c.args.log.now.demands) (below comparing c.args.at scene.context left right))) c.in-Err-Refused.field-0-is c.in-Err-Refused.ensures in
    steps.stopped_step (λ l. locals_of l.value) c.args.known.now.items c.args.log.now.demands c.in-Err-Refused.diag.code c.in-Err-Refused.diag.place
    (cause_of c.in_ok-cause-in-Err-Refused.cause)
    (explained_below ways c.args.at scene left right)
    (below comparing c.args.at scene.context left right)
    (below_is ways c.args.at scene left right)
    (λ refused. steps.below_told c.args.at c.in-Err-Refused.diag.place c.in-Err-Refused.diag.code scene left right refused
    ∙ ap (λ k. Refused k c.in-Err-Refused.diag.place) (sym (c.in_ok-cause-in-Err-Refused.ensures
    ∙ ap (λ t. WrongType scene t (type_of c.in_ok-wanted-in-Err-Refused.wanted)) c.in_ok-found-in-Err-Refused.ensures.cases
    ∙ ap (WrongType scene left) c.in_ok-wanted-in-Err-Refused.ensures.cases)))
    (stopped)
    ∙ ap (λ (k : DeclaredCause). Stopped (cause_of k) c.in-Err-Refused.diag.place) (sym c.in_ok-cause-in-Err-Refused-2.ensures.ok)
