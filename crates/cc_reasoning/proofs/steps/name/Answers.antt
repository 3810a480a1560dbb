use Rattle.std.proofs.Common.{Err, length, sym, ap, subst, ◌∙◌}
use Rattle.cc_core.specs.TermViews.{type_of, note_of}
use Rattle.cc_checking.specs.Inference.{noted}
use Rattle.cc_subty.specs.Demands.{asked_of}
use Rattle.cc_known.specs.Logs as logs
use Rattle.cc_known.specs.Parts.{named_of}
use Rattle.cc_type.specs.Rows.{comparing, ways, noted_log}
use Rattle.cc_type.proofs.InferredLogs.{noted_logs}
use Rattle.cc_reasons.specs.Causes.{Refused}
use Rattle.cc_reasons.specs.ExplainedInference.{explained_note}
use Rattle.cc_reasons.proofs.ExplainedOutcomes.{note_is}
use Rattle.cc_causes.specs.declared.reason.Cause.{Cause as DeclaredCause}
use Rattle.cc_reasoning.specs.LocatedLogs.{Stopped}
use Rattle.cc_causes.specs.Views.{locals_of, scene_of, cause_of}
use Rattle.cc_reasoning.proofs.ExplainedSteps as steps
use Rattle.cc_reasoning.proofs.steps.name.Goals as goal

pub returns-in_ok-fill-in-Ok-clause-is : goal.returns-in_ok-fill-in-Ok-clause-is
returns-in_ok-fill-in-Ok-clause-is c =
    let scene = scene_of c.args.scene.now in
    let note = note_of c.args.note.now in
    let type = type_of c.args.ty.now in
    steps.kept_step scene.locals (λ l. locals_of l.value) c.args.known.now.items c.fill.new.known.items
    c.args.log.now.demands c.noted.new.log.demands c.len-count.result (named_of c.in-Ok.named)
    (explained_note ways c.args.root c.args.at scene note type)
    (noted comparing c.args.root c.args.at scene.context note type)
    c.requires.even
    (note_is ways c.args.root c.args.at scene note type)
    (sym (noted_logs c.args.root c.args.at scene.context note type (asked_of c.args.log.now.demands)) ∙ c.in-Ok.ensures.is)
    (c.len-count.ensures ∙ ap length c.demands.ensures) c.in_ok-fill-in-Ok.ensures (steps.note_at c.args.root c.args.at scene note type)

pub returns-in_ok-fill-in-Ok-clause-even : goal.returns-in_ok-fill-in-Ok-clause-even
returns-in_ok-fill-in-Ok-clause-even c =
    let scene = scene_of c.args.scene.now in
    let note = note_of c.args.note.now in
    let type = type_of c.args.ty.now in
    steps.kept_even scene.locals (λ l. locals_of l.value) c.args.known.now.items c.fill.new.known.items
    c.args.log.now.demands c.noted.new.log.demands c.len-count.result (named_of c.in-Ok.named)
    (explained_note ways c.args.root c.args.at scene note type)
    (noted comparing c.args.root c.args.at scene.context note type)
    c.requires.even
    (note_is ways c.args.root c.args.at scene note type)
    (sym (noted_logs c.args.root c.args.at scene.context note type (asked_of c.args.log.now.demands)) ∙ c.in-Ok.ensures.is)
    (c.len-count.ensures ∙ ap length c.demands.ensures) c.in_ok-fill-in-Ok.ensures

pub returns-in_ok-cause-in-Err-Refused-2-clause-is : goal.returns-in_ok-cause-in-Err-Refused-2-clause-is
returns-in_ok-cause-in-Err-Refused-2-clause-is c =
    let scene = scene_of c.args.scene.now in
    let note = note_of c.args.note.now in
    let type = type_of c.args.ty.now in
    let stopped = subst (λ e. logs.Meets named_of (Err e) (asked_of c.noted.new.log.demands)
    (noted_log c.args.root c.args.at scene.context note type (asked_of c.args.log.now.demands))) c.in-Err-Refused.field-0-is c.in-Err-Refused.ensures.is in
    steps.stopped_step (λ l. locals_of l.value) c.args.known.now.items c.args.log.now.demands c.in-Err-Refused.diag.code c.in-Err-Refused.diag.place
    (cause_of c.in_ok-cause-in-Err-Refused.cause)
    (explained_note ways c.args.root c.args.at scene note type)
    (noted comparing c.args.root c.args.at scene.context note type)
    (note_is ways c.args.root c.args.at scene note type)
    (λ refused. steps.note_told c.args.root c.args.at c.in-Err-Refused.diag.place c.in-Err-Refused.diag.code scene note type refused
    ∙ ap (λ k. Refused k c.in-Err-Refused.diag.place) (sym c.in_ok-cause-in-Err-Refused.ensures))
    (sym (noted_logs c.args.root c.args.at scene.context note type (asked_of c.args.log.now.demands)) ∙ stopped)
    ∙ ap (λ (k : DeclaredCause). Stopped (cause_of k) c.in-Err-Refused.diag.place) (sym c.in_ok-cause-in-Err-Refused-2.ensures.ok)
