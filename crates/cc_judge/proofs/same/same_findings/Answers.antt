use Rattle.std.proofs.Common.{sym, arith, ◌<◌, length}
use Rattle.cc_judge.proofs.Loops.{findings_differ, findings_agree, findings_end}
use Rattle.cc_judge.proofs.same.same_findings.Goals as goal

pub returns-then-not-same_finding : goal.returns-then-not-same_finding
returns-then-not-same_finding c =
    let inside : c.loop-at.at < length c.args.right.now = omega (arith, c.if-left-right.false) in
    findings_differ c.args.left.now c.args.right.now c.loop-at.at c.index-left-at.result c.index-right-at.result
    c.loop-at-test.true inside c.index-left-at.is c.index-right-at.is c.loop-at.invariant.rest (sym c.if-not-same_finding.ensures)

pub loop-at-preserved : goal.loop-at-preserved
loop-at-preserved c =
    let inside : c.loop-at.at < length c.args.right.now = omega (arith, c.if-left-right.false) in
    record {
      long = c.if-left-right.false;
      rest = findings_agree c.args.left.now c.args.right.now c.loop-at.at c.index-left-at.result c.index-right-at.result
          c.loop-at-test.true inside c.index-left-at.is c.index-right-at.is c.loop-at.invariant.rest (sym c.if-not-same_finding.ensures);
    }

pub returns : goal.returns
returns c =
    findings_end c.args.left.now c.args.right.now c.loop-at.at c.loop-at-test.false c.if-left-right.false
    c.loop-at.invariant.rest
