use Rattle.std.proofs.Common.{take}
use Rattle.cc_judge.specs.Dependencies.{AreRead}
use Rattle.cc_judge.specs.Kept.{judgements_of}
use Rattle.cc_judge.proofs.JudgedBefore.{AreJudgedUpTo}
use Rattle.cc_judge.proofs.dependencies.read_present.Given as goal

abbrev pub invariant-loop-entry : goal.invariant-loop-entry
invariant-loop-entry l =
    record {
      read : AreRead (take l.entry-index l.texts) l.readings.items;
      judged : AreJudgedUpTo (judgements_of l.last) l.texts l.entry-index l.places.items;
    }
