use Rattle.std.proofs.Common.{map}
use Rattle.cc_module.specs.Findings.{finding_of}
use Rattle.cc_module.specs.Judgements.{module_verdict_of}
use Rattle.cc_parse.specs.Trees.{module_syntax}
use Rattle.cc_module.proofs.JudgedTrees.{core_ready, core_judged, core_refused}
use Rattle.cc_module.proofs.judging.judge_found.Goals as goal

pub judge_core-requires : goal.judge_core-requires
judge_core-requires c =
    core_ready c.args.devices.now c.args.tree.now c.args.findings.now c.in-Ok.core c.deref.result.now c.requires.one_each
    c.requires.over_devices c.requires.found c.in-Ok.ensures.exact c.deref.ensures.value

pub returns-in-Ok : goal.returns-in-Ok
returns-in-Ok c =
    core_judged c.args.devices.now c.args.tree.now c.args.findings.now c.in-Ok.core c.deref.result.now c.judge_core.result
    c.requires.found c.in-Ok.ensures.exact c.deref.ensures.value c.judge_core.ensures

pub returns-in-Err-Refused : goal.returns-in-Err-Refused
returns-in-Err-Refused c =
    core_refused c.args.devices.now (module_syntax c.args.tree.now) (map finding_of c.args.findings.now) c.in-Err-Refused.diag
    (module_verdict_of c.refused.result) c.requires.found
    (rw c.in-Err-Refused.field-0-is at c.in-Err-Refused.ensures.exact) (rw c.in-Err-Refused.diag-is at c.refused.ensures)
