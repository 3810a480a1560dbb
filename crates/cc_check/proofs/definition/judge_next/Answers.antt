use Rattle.std.proofs.Common.{Ok}
use Rattle.cc_core.specs.TermViews.{shape_of, type_of, context_of}
use Rattle.cc_type.proofs.MeasuredEntries.{kept_measure}
use Rattle.cc_check.specs.Definitions.{definition_of}
use Rattle.cc_check.proofs.JudgedResults.{answered_over_devices}
use Rattle.cc_check.proofs.SignedAlong.{over_devices_clear}
use Rattle.cc_check.proofs.definition.judge_next.Goals as goal

pub returns-clause-measures : goal.returns-clause-measures
returns-clause-measures c =
    let g = context_of c.args.ctx.now in
    let sig = type_of c.in_ok-checked.checked.sig in
    kept_measure c.args.devices c.args.measures.now c.keep.new.self g c.judge.new.size sig.shape sig.set
    c.requires.measures c.keep.ensures.first c.keep.ensures.before c.in_ok-keep.ensures.sizes
    (over_devices_clear c.args.devices g sig
    (answered_over_devices c.args.devices g (definition_of c.args.def.now) c.requires.fits (Ok c.in_ok-checked.checked)
    c.in_ok-checked.ensures.verdict).0)
    c.in_ok-checked.ensures.size
