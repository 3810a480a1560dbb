use Rattle.std.proofs.Common.{◌<◌, length, arith, sym, ◌∙◌}
use Rattle.cc_verdicts.specs.PresentTexts.{finding_for}
use Rattle.cc_verdicts.proofs.PresentLaws.{present_verdicts_exist}
use Rattle.cc_judge.specs.Kept.{judgements_of}
use Rattle.cc_judge.proofs.Loops.{findings_differ, findings_agree, findings_end}
use Rattle.cc_judge.proofs.StillFound.{found_last_at, found_new_at, as_many_imports}
use Rattle.cc_judge.proofs.staying.all_stay.Goals as goal

pub bounds-imports-at : goal.bounds-imports-at
bounds-imports-at c =
    let (all, are) = present_verdicts_exist c.args.devices.now c.args.texts.now c.requires.differ c.requires.present in
    omega (
      arith,
      c.loop-at-test.true,
      c.loop-at.invariant.long,
      as_many_imports (finding_for c.args.texts.now all c.args.name.now) c.args.imports.now c.args.new.now
          (c.requires.new all are),
    )

pub stays-requires-clause-old : goal.stays-requires-clause-old
stays-requires-clause-old c =
    found_last_at (judgements_of c.args.last.now) c.args.imports.now c.args.old.now c.loop-at.at
    c.index-imports-at.result c.index-old-at.result c.requires.old c.loop-at-test.true c.index-imports-at.is
    c.index-old-at.is

pub stays-requires-clause-new : goal.stays-requires-clause-new
stays-requires-clause-new c =
    λ all are.
    let inside : c.loop-at.at < length c.args.new.now = omega (arith, c.loop-at.invariant.long, c.loop-at-test.true) in
    found_new_at (finding_for c.args.texts.now all c.args.name.now) c.args.imports.now c.args.new.now c.loop-at.at
    c.index-imports-at.result c.index-new-at.result (c.requires.new all are) inside c.index-imports-at.is
    c.index-new-at.is

pub returns-then-not-same-clause-same : goal.returns-then-not-same-clause-same
returns-then-not-same-clause-same c =
    let inside : c.loop-at.at < length c.args.new.now = omega (arith, c.loop-at.invariant.long, c.loop-at-test.true) in
    findings_differ c.args.old.now c.args.new.now c.loop-at.at c.index-old-at.result c.index-new-at.result
    c.loop-at-test.true inside c.index-old-at.is c.index-new-at.is c.loop-at.invariant.rest
    (sym c.in_ok-same.ensures.same ∙ c.if-not-same.true)

pub loop-at-preserved : goal.loop-at-preserved
loop-at-preserved c =
    let inside : c.loop-at.at < length c.args.new.now = omega (arith, c.loop-at.invariant.long, c.loop-at-test.true) in
    record {
      long = c.loop-at.invariant.long;
      rest = findings_agree c.args.old.now c.args.new.now c.loop-at.at c.index-old-at.result c.index-new-at.result
          c.loop-at-test.true inside c.index-old-at.is c.index-new-at.is c.loop-at.invariant.rest
          (sym c.in_ok-same.ensures.same ∙ c.if-not-same.false);
      known = c.in_ok-same.ensures.known;
    }

pub returns-clause-same : goal.returns-clause-same
returns-clause-same c =
    findings_end c.args.old.now c.args.new.now c.loop-at.at c.loop-at-test.false c.loop-at.invariant.long
    c.loop-at.invariant.rest
