use Rattle.cc_core.specs.TermViews.{context_of}
use Rattle.cc_check.specs.Definitions.{definition_of}
use Rattle.cc_check.proofs.JudgedResults.{answered_typed, answered_over_devices, answered_without_hole}
use Rattle.cc_check.proofs.JudgedResults.{answered_without_type}
use Rattle.cc_check.proofs.definition.check_known.Goals as goal

pub returns-clause-typed : goal.returns-clause-typed
returns-clause-typed c =
    answered_typed c.args.devices (context_of c.args.ctx.now) (definition_of c.args.def.now) c.requires.fits
    c.judge_next.result c.judge_next.ensures.verdict

pub returns-clause-over_devices : goal.returns-clause-over_devices
returns-clause-over_devices c =
    answered_over_devices c.args.devices (context_of c.args.ctx.now) (definition_of c.args.def.now) c.requires.fits
    c.judge_next.result c.judge_next.ensures.verdict

pub returns-clause-no_hole : goal.returns-clause-no_hole
returns-clause-no_hole c =
    answered_without_hole c.args.devices (context_of c.args.ctx.now) (definition_of c.args.def.now) c.requires.fits
    c.judge_next.result c.judge_next.ensures.verdict

pub returns-clause-no_type : goal.returns-clause-no_type
returns-clause-no_type c =
    answered_without_type c.args.devices (context_of c.args.ctx.now) (definition_of c.args.def.now) c.requires.fits
    c.requires.holes c.judge_next.result c.judge_next.ensures.verdict
