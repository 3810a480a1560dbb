use Rattle.std.proofs.Common.{◌≡◌, length, map, drop}
use Rattle.cc_module.specs.Findings.{finding_of}
use Rattle.cc_judge.specs.SameFindings as plain
use Rattle.cc_judge.proofs.same.same_findings.Given as goal

abbrev pub invariant-loop-at : goal.invariant-loop-at
invariant-loop-at l =
    record {
      long : length l.left ≡ length l.right;
      rest : plain.same_findings (map finding_of (drop l.at l.left)) (map finding_of (drop l.at l.right))
          ≡ plain.same_findings (map finding_of l.left) (map finding_of l.right);
    }
