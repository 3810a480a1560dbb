use Rattle.std.proofs.Common.{Err, length, refl, sym, ap, subst, ◌∙◌}
use Rattle.cc_core.specs.TermViews.{type_of, note_of}
use Rattle.cc_subty.specs.Demands.{asked_of}
use Rattle.cc_known.specs.Logs as logs
use Rattle.cc_type.specs.Rows.{branch_log}
use Rattle.cc_reasons.specs.Causes.{Refused, outcome_of}
use Rattle.cc_causes.specs.declared.reason.Cause.{Cause as DeclaredCause}
use Rattle.cc_reasoning.specs.ExplainedLogs.{branch}
use Rattle.cc_reasoning.specs.LocatedLogs.{Stopped}
use Rattle.cc_causes.specs.Views.{locals_of, scene_of, cause_of}
use Rattle.cc_reasoning.proofs.ExplainedSteps as steps
use Rattle.cc_reasoning.proofs.steps.branch_below.Goals as goal

pub returns-in_ok-fill-in-Ok-clause-is : goal.returns-in_ok-fill-in-Ok-clause-is
returns-in_ok-fill-in-Ok-clause-is c =
    let scene = scene_of c.args.scene.now in
    let note = note_of c.args.note.now in
    let type = type_of c.args.ty.now in
    steps.kept_step scene.locals (λ l. locals_of l.value) c.args.known.now.items c.fill.new.known.items
    c.args.log.now.demands c.compare_branch.new.log.demands c.len-count.result tt
    (branch c.args.at scene note type)
    (outcome_of (branch c.args.at scene note type))
    c.requires.even
    (refl)
    (sym (steps.branch_logs c.args.at scene note type (asked_of c.args.log.now.demands)) ∙ c.in-Ok.ensures)
    (c.len-count.ensures ∙ ap length c.demands.ensures) c.in_ok-fill-in-Ok.ensures (steps.branch_at c.args.at scene note type)

pub returns-in_ok-fill-in-Ok-clause-even : goal.returns-in_ok-fill-in-Ok-clause-even
returns-in_ok-fill-in-Ok-clause-even c =
    let scene = scene_of c.args.scene.now in
    let note = note_of c.args.note.now in
    let type = type_of c.args.ty.now in
    steps.kept_even scene.locals (λ l. locals_of l.value) c.args.known.now.items c.fill.new.known.items
    c.args.log.now.demands c.compare_branch.new.log.demands c.len-count.result tt
    (branch c.args.at scene note type)
    (outcome_of (branch c.args.at scene note type))
    c.requires.even
    (refl)
    (sym (steps.branch_logs c.args.at scene note type (asked_of c.args.log.now.demands)) ∙ c.in-Ok.ensures)
    (c.len-count.ensures ∙ ap length c.demands.ensures) c.in_ok-fill-in-Ok.ensures

pub returns-in_ok-cause-in-Err-Refused-2-clause-is : goal.returns-in_ok-cause-in-Err-Refused-2-clause-is
returns-in_ok-cause-in-Err-Refused-2-clause-is c =
    let scene = scene_of c.args.scene.now in
    let note = note_of c.args.note.now in
    let type = type_of c.args.ty.now in
    let stopped = subst (λ e. logs.Meets (λ (u : Unit {0}). u) (Err e) (asked_of c.compare_branch.new.log.demands)
    (branch_log c.args.at scene.context note type (asked_of c.args.log.now.demands))) c.in-Err-Refused.field-0-is c.in-Err-Refused.ensures in
    steps.stopped_step (λ l. locals_of l.value) c.args.known.now.items c.args.log.now.demands c.in-Err-Refused.diag.code c.in-Err-Refused.diag.place
    (cause_of c.in_ok-cause-in-Err-Refused.cause)
    (branch c.args.at scene note type)
    (outcome_of (branch c.args.at scene note type))
    (refl)
    (λ refused. steps.branch_told c.args.at c.in-Err-Refused.diag.place c.in-Err-Refused.diag.code scene note type refused
    ∙ ap (λ k. Refused k c.in-Err-Refused.diag.place) (sym c.in_ok-cause-in-Err-Refused.ensures))
    (sym (steps.branch_logs c.args.at scene note type (asked_of c.args.log.now.demands)) ∙ stopped)
    ∙ ap (λ (k : DeclaredCause). Stopped (cause_of k) c.in-Err-Refused.diag.place) (sym c.in_ok-cause-in-Err-Refused-2.ensures.ok)
