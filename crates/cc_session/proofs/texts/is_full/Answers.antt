use Rattle.std.proofs.Common.{arith, length}
use Rattle.std.proofs.lemmas.Bool.{false≢true, leb-true, le-leb}
use Rattle.cc_verdicts.specs.PresentTexts.{most_modules}
use Rattle.cc_session.proofs.TextChanges.{others_present_less, others_absent}
use Rattle.cc_session.proofs.texts.is_full.Goals as goal

pub returns-in-Some : goal.returns-in-Some
returns-in-Some c = (
  λ no_more. absurd (false≢true no_more),
  λ full. absurd
      (omega (
        arith,
        full,
        c.requires.few,
        others_present_less c.args.texts.now c.args.name.now c.in-Some.field-0
            c.in-Some.ensures,
      )),
)

pub returns-in-None : goal.returns-in-None
returns-in-None c =
    let all = others_absent c.args.texts.now c.args.name.now c.in-None.ensures in (
      λ full. omega (arith, all, leb-true most_modules (length c.args.texts.now) full),
      λ full. le-leb most_modules (length c.args.texts.now) (omega (arith, all, full)),
    )
