use Rattle.std.proofs.Common.{◌<◌, length, arith}
use Rattle.cc_verdicts.specs.PresentTexts.{finding_for}
use Rattle.cc_judge.specs.Kept.{judgements_of}
use Rattle.cc_judge.proofs.FoundAgain.{again_more, again_all}
use Rattle.cc_judge.proofs.StillFound.{found_last_at}
use Rattle.cc_judge.proofs.found_again.are_found_again.Goals as goal

pub source_again-source-requires-clause-known : goal.source_again-source-requires-clause-known
source_again-source-requires-clause-known c = c.loop-at.invariant.source

pub is_found_again-again-requires-clause-old : goal.is_found_again-again-requires-clause-old
is_found_again-again-requires-clause-old c =
    let within : c.loop-at.at < length c.args.old.now = omega (arith, c.loop-at-test.true, c.loop-at.invariant.long) in
    found_last_at (judgements_of c.args.last.now) c.args.imports.now c.args.old.now c.loop-at.at
    c.index-imports-at.result c.index-old-at.result c.requires.old within c.index-imports-at.is c.index-old-at.is

pub loop-at-preserved : goal.loop-at-preserved
loop-at-preserved c =
    let within : c.loop-at.at < length c.args.old.now = omega (arith, c.loop-at-test.true, c.loop-at.invariant.long) in
    record {
      source = c.source_again-source.ensures;
      long = c.loop-at.invariant.long;
      found = λ all are.
          again_more (finding_for c.args.texts.now all c.args.name.now) c.args.imports.now c.args.old.now c.loop-at.at
          c.index-imports-at.result c.index-old-at.result c.loop-at-test.true within c.index-imports-at.is
          c.index-old-at.is (c.loop-at.invariant.found all are)
          (c.is_found_again-again.ensures c.if-not-again.false all are);
    }

pub returns : goal.returns
returns c =
    λ yes all are.
    again_all (finding_for c.args.texts.now all c.args.name.now) c.args.imports.now c.args.old.now c.loop-at.at
    c.loop-at-test.false c.loop-at.invariant.long (c.loop-at.invariant.found all are)
