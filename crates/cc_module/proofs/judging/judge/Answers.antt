use Rattle.std.proofs.Common.{map}
use Rattle.cc_module.specs.Findings.{finding_of}
use Rattle.cc_module.specs.Judgements.{module_verdict_of}
use Rattle.cc_module.proofs.JudgedTrees.{tree_judged, no_module_refused}
use Rattle.cc_module.proofs.judging.judge.Goals as goal

pub returns-in-Tree : goal.returns-in-Tree
returns-in-Tree c =
    tree_judged c.args.devices.now c.args.text.now (map finding_of c.args.findings.now) c.args.reading.now c.in-Tree.tree
    c.judge_tree.result c.in-Tree.is c.requires.read c.judge_tree.ensures

pub returns-in-NoModule : goal.returns-in-NoModule
returns-in-NoModule c =
    no_module_refused c.args.devices.now c.args.text.now (map finding_of c.args.findings.now) c.args.reading.now
    c.in-NoModule.diag (module_verdict_of c.refused.result) c.in-NoModule.is c.requires.read c.refused.ensures
