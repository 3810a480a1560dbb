use Rattle.std.proofs.Common.{◌≡◌, length, map, drop}
use Rattle.cc_module.specs.Findings.{finding_of}
use Rattle.cc_judge.specs.Kept.{judgements_of}
use Rattle.cc_judge.specs.SameFindings as plain
use Rattle.cc_judge.specs.Settled.{AreStillFound}
use Rattle.cc_judge.proofs.staying.all_stay.Given as goal

abbrev pub invariant-loop-at : goal.invariant-loop-at
invariant-loop-at l =
    record {
      long : length l.old ≡ length l.new;
      rest : plain.same_findings (map finding_of (drop l.at l.old)) (map finding_of (drop l.at l.new))
          ≡ plain.same_findings (map finding_of l.old) (map finding_of l.new);
      known : AreStillFound l.devices l.texts (judgements_of l.last) l.known.items;
    }
