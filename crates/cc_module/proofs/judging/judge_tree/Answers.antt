use Rattle.cc_module.specs.Judgements.{module_verdict_of}
use Rattle.cc_module.proofs.JudgedTrees.{import_refused}
use Rattle.cc_module.proofs.judging.judge_tree.Goals as goal

pub returns-in-Some : goal.returns-in-Some
returns-in-Some c =
    import_refused c.args.devices.now c.args.tree.now c.args.findings.now c.deref.result.now c.in-Some.diag
    (module_verdict_of c.refused.result) c.deref.ensures.value c.in-Some.ensures c.refused.ensures
