use Rattle.std.proofs.Common.{Err, length, sym, ap, subst, ◌∙◌}
use Rattle.cc_core.specs.TermViews.{type_of, note_of}
use Rattle.cc_subty.specs.Demands.{asked_of}
use Rattle.cc_known.specs.Logs as logs
use Rattle.cc_known.specs.Parts.{found_of}
use Rattle.cc_type.specs.Rows as rows
use Rattle.cc_reasoning.specs.ExplainedLogs.{choice_cause}
use Rattle.cc_reasoning.specs.LocatedLogs.{Stopped}
use Rattle.cc_causes.specs.Views.{locals_of, scene_of, cause_of}
use Rattle.cc_reasoning.proofs.LastSteps as last
use Rattle.cc_reasoning.proofs.lasts.choice_last.Goals as goal

pub returns-in-Ok-clause-exact : goal.returns-in-Ok-clause-exact
returns-in-Ok-clause-exact c =
    last.choice_found (scene_of c.args.scene.now) c.args.root c.args.node.now.value.at c.args.at _ (note_of c.args.note.now) c.args.test
    (found_of c.args.one) (found_of c.args.two)
    (λ l. locals_of l.value) c.args.known.now.items c.fill.new.known.items c.args.log.now.demands
    c.choice_rest.new.log.demands c.len-count.result (found_of c.in-Ok.found) c.requires.even
    c.in-Ok.ensures.exact (c.len-count.ensures ∙ ap length c.demands.ensures) c.in_ok-fill-in-Ok.ensures

pub returns-in-Ok-clause-even : goal.returns-in-Ok-clause-even
returns-in-Ok-clause-even c =
    last.choice_even (scene_of c.args.scene.now) c.args.root c.args.node.now.value.at c.args.at _ (note_of c.args.note.now) c.args.test
    (found_of c.args.one) (found_of c.args.two)
    (λ l. locals_of l.value) c.args.known.now.items c.fill.new.known.items c.args.log.now.demands
    c.choice_rest.new.log.demands c.len-count.result (found_of c.in-Ok.found) c.requires.even
    c.in-Ok.ensures.exact (c.len-count.ensures ∙ ap length c.demands.ensures) c.in_ok-fill-in-Ok.ensures

pub returns-in-Err-Refused-clause-exact : goal.returns-in-Err-Refused-clause-exact
returns-in-Err-Refused-clause-exact c =
    let scene = scene_of c.args.scene.now in
    let note = note_of c.args.note.now in
    let one = found_of c.args.one in
    let two = found_of c.args.two in
    let code = c.in-Err-Refused.diag.code in
    let place = c.in-Err-Refused.diag.place in
    let at = c.args.node.now.value.at in
    let stopped = subst (λ e. logs.Meets found_of (Err e) (asked_of c.choice_rest.new.log.demands)
    (rows.choice_log c.args.root scene.context at note c.args.test one two c.args.at (asked_of c.args.log.now.demands)))
    c.in-Err-Refused.field-0-is c.in-Err-Refused.ensures.exact in
    last.choice_refused (scene_of c.args.scene.now) c.args.root c.args.node.now.value.at c.args.at (note_of c.args.note.now) c.args.test
    (found_of c.args.one) (found_of c.args.two)
    (λ l. locals_of l.value) c.args.known.now.items c.args.log.now.demands code place stopped
    ∙ ap (λ k. Stopped k place)
    (sym (ap cause_of c.in_ok-cause-in-Err-Refused-2.ensures.ok ∙ c.in_ok-cause-in-Err-Refused.ensures
    ∙ ap (λ s. choice_cause code scene note s (type_of c.in_ok-ty.ty)) c.in_ok-first.ensures.cases
    ∙ ap (λ t. choice_cause code scene note one.type.set t) c.in_ok-ty.ensures.cases))
