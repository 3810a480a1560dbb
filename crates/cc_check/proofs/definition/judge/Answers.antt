use Rattle.std.proofs.Common.{◌≡◌, Err, sym, subst}
use Rattle.cc_core.specs.TermViews.{context_of}
use Rattle.cc_subty.specs.Demands.{asked_of}
use Rattle.cc_known.specs.Logs.{Got, Meets}
use Rattle.cc_check.specs.Definitions.{definition_of, checking_of}
use Rattle.cc_check.specs.Judging.{Judges, KeepsOf}
use Rattle.cc_check.specs.Rows.{checked_log}
use Rattle.cc_check.proofs.JudgedDefinitions.{keeps_of, judged_by_stop}
use Rattle.cc_check.proofs.definition.judge.Goals as goal

pub judge_found-requires-clause-keeps : goal.judge_found-requires-clause-keeps
judge_found-requires-clause-keeps c =
    let g = context_of c.args.ctx.now in
    let d = definition_of c.args.def.now in
    subst (λ ds. KeepsOf c.args.devices g d (checking_of c.in-Ok.found) (asked_of ds)) (sym c.demands.ensures)
    (keeps_of c.args.devices g d (checking_of c.in-Ok.found) (asked_of c.find.new.log.demands)
    (subst (λ ds. checked_log c.args.devices g d (asked_of ds)
    ≡ Got (checking_of c.in-Ok.found) (asked_of c.find.new.log.demands)) c.new-log.ensures c.in-Ok.ensures.exact))

pub returns-clause-verdict : goal.returns-clause-verdict
returns-clause-verdict c =
    let g = context_of c.args.ctx.now in
    let d = definition_of c.args.def.now in
    subst (λ e. Judges c.args.devices g d (Err e)) (sym c.error_of.ensures)
    (judged_by_stop c.args.devices g d (asked_of c.find.new.log.demands) c.in-Err.stop
    (subst (λ ds. Meets checking_of (Err c.in-Err.stop) (asked_of c.find.new.log.demands)
    (checked_log c.args.devices g d (asked_of ds))) c.new-log.ensures c.in-Err.ensures.exact))
