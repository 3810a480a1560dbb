use Rattle.std.proofs.Common.{sym, arith}
use Rattle.cc_module.proofs.ContextLoops.{missing_more}
use Rattle.cc_module.proofs.judging.first_missing.Goals as goal

pub loop-at-preserved : goal.loop-at-preserved
loop-at-preserved c =
    missing_more c.args.imports.now c.args.findings.now c.loop-at.at c.index-findings-at.result _ (omega (arith, c.loop-at-test.true))
    (omega (arith, c.loop-at-test.true, c.requires)) c.index-findings-at.is (sym c.in_default.ensures) c.loop-at.invariant
