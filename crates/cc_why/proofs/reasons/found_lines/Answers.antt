use Rattle.cc_why.proofs.FoundTrees.{definitions_ready, definitions_even, definitions_found, cause_found}
use Rattle.cc_why.proofs.reasons.found_lines.Goals as goal

pub definition_lines-requires-clause-ready : goal.definition_lines-requires-clause-ready
definition_lines-requires-clause-ready c =
    definitions_ready c.args.devices.now c.args.tree.now c.args.findings.now c.requires.found c.in-Ok.core c.deref.result.now c.deref.ensures.value
    c.in-Ok.ensures.exact c.requires.one_each c.requires.over_devices

pub definition_lines-requires-clause-even : goal.definition_lines-requires-clause-even
definition_lines-requires-clause-even c =
    definitions_even c.args.devices.now c.args.tree.now c.args.findings.now c.requires.found c.in-Ok.core c.deref.result.now c.deref.ensures.value
    c.in-Ok.ensures.exact

pub returns-in-Ok : goal.returns-in-Ok
returns-in-Ok c =
    definitions_found c.args.devices.now c.args.tree.now c.args.findings.now c.requires.found c.in-Ok.core c.deref.result.now c.deref.ensures.value
    c.in-Ok.ensures.exact c.requires.one_each c.requires.over_devices c.definition_lines.result c.definition_lines.ensures

pub returns-in-Err-Refused : goal.returns-in-Err-Refused
returns-in-Err-Refused c =
    cause_found c.args.devices.now c.args.tree.now c.args.findings.now c.requires.found c.in-Err-Refused.field-0-0 c.cause_lines.result
    (rw c.in-Err-Refused.field-0-is at c.in-Err-Refused.ensures.exact) c.cause_lines.ensures
