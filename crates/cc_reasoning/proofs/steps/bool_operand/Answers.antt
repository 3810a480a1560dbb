use Rattle.std.proofs.Common.{Err, length, refl, sym, ap, subst, ◌∙◌}
use Rattle.cc_base.specs.declared.literal.Base.TheVariants as bases
use Rattle.cc_core.specs.Captured.{variable_set}
use Rattle.cc_core.specs.Shapes.{BaseShape, capturing}
use Rattle.cc_core.specs.TermViews.{shape_of}
use Rattle.cc_checking.specs.Inference.{in_context}
use Rattle.cc_subty.specs.Demands.{asked_of}
use Rattle.cc_known.specs.Logs as logs
use Rattle.cc_type.specs.Rows.{ways, operand_log}
use Rattle.cc_reasons.specs.Causes.{Refused, outcome_of, WrongShape}
use Rattle.cc_reasons.specs.ExplainedInference.{explained_operand}
use Rattle.cc_causes.specs.declared.reason.Cause.{Cause as DeclaredCause}
use Rattle.cc_reasoning.specs.LocatedLogs.{Stopped}
use Rattle.cc_causes.specs.Views.{locals_of, scene_of, cause_of}
use Rattle.cc_reasoning.proofs.ExplainedSteps as steps
use Rattle.cc_reasoning.proofs.steps.bool_operand.Goals as goal

pub returns-in_ok-fill-in-Ok-clause-is : goal.returns-in_ok-fill-in-Ok-clause-is
returns-in_ok-fill-in-Ok-clause-is c =
    let scene = scene_of c.args.scene.now in
    let shape = BaseShape bases.Bool in
    let v = c.args.variable in
    let before = asked_of c.args.log.now.demands in
    steps.kept_step scene.locals (λ l. locals_of l.value) c.args.known.now.items c.fill.new.known.items
    c.args.log.now.demands c.base_operand.new.log.demands c.len-count.result tt
    (explained_operand ways c.args.at scene v shape)
    (outcome_of (explained_operand ways c.args.at scene v shape))
    c.requires.even
    (refl)
    (sym (steps.operand_logs c.args.at scene v shape before) ∙ c.in-Ok.ensures)
    (c.len-count.ensures ∙ ap length c.demands.ensures) c.in_ok-fill-in-Ok.ensures (steps.operand_at c.args.at scene v shape)

pub returns-in_ok-fill-in-Ok-clause-even : goal.returns-in_ok-fill-in-Ok-clause-even
returns-in_ok-fill-in-Ok-clause-even c =
    let scene = scene_of c.args.scene.now in
    let shape = BaseShape bases.Bool in
    let v = c.args.variable in
    let before = asked_of c.args.log.now.demands in
    steps.kept_even scene.locals (λ l. locals_of l.value) c.args.known.now.items c.fill.new.known.items
    c.args.log.now.demands c.base_operand.new.log.demands c.len-count.result tt
    (explained_operand ways c.args.at scene v shape)
    (outcome_of (explained_operand ways c.args.at scene v shape))
    c.requires.even
    (refl)
    (sym (steps.operand_logs c.args.at scene v shape before) ∙ c.in-Ok.ensures)
    (c.len-count.ensures ∙ ap length c.demands.ensures) c.in_ok-fill-in-Ok.ensures

pub returns-in_ok-cause-in-Err-Refused-2-clause-is : goal.returns-in_ok-cause-in-Err-Refused-2-clause-is
returns-in_ok-cause-in-Err-Refused-2-clause-is c =
    let scene = scene_of c.args.scene.now in
    let shape = BaseShape bases.Bool in
    let v = c.args.variable in
    let before = asked_of c.args.log.now.demands in
    let stopped = subst (λ e. logs.Meets (λ (u : Unit {0}). u) (Err e) (asked_of c.base_operand.new.log.demands)
    (operand_log c.args.at scene.context v shape before)) c.in-Err-Refused.field-0-is c.in-Err-Refused.ensures in
    steps.stopped_step (λ l. locals_of l.value) c.args.known.now.items c.args.log.now.demands c.in-Err-Refused.diag.code c.in-Err-Refused.diag.place
    (cause_of c.in_ok-cause-in-Err-Refused.cause)
    (explained_operand ways c.args.at scene v shape)
    (outcome_of (explained_operand ways c.args.at scene v shape))
    (refl)
    (λ refused. steps.operand_told c.args.at c.in-Err-Refused.diag.place c.in-Err-Refused.diag.code scene v
    (capturing (shape_of c.in_ok-found-in-Err-Refused.found.value) (variable_set (in_context scene.context v))) shape
    c.in_ok-found-in-Err-Refused.ensures.is refused
    ∙ ap (λ k. Refused k c.in-Err-Refused.diag.place) (sym (c.in_ok-cause-in-Err-Refused.ensures
    ∙ ap (WrongShape scene (shape_of c.in_ok-found-in-Err-Refused.found.value)) c.in_ok-wanted-in-Err-Refused.ensures)))
    (sym (steps.operand_logs c.args.at scene v shape before) ∙ stopped)
    ∙ ap (λ (k : DeclaredCause). Stopped (cause_of k) c.in-Err-Refused.diag.place) (sym c.in_ok-cause-in-Err-Refused-2.ensures.ok)
