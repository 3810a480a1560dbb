use Rattle.std.proofs.lemmas.Result.{IfOk-weaker}
use Rattle.cc_module_reasons.specs.WhyAnswers.{no_such_module}
use Rattle.cc_why.proofs.FoundAnswers.{accepted_told}
use Rattle.cc_why.proofs.SessionFacts.{verdicts_by_name, verdicts_sorted}
use Rattle.cc_verdicts.proofs.PresentLaws.{present_verdicts_exist}
use Rattle.cc_why.proofs.reasons.find_why.Goals as goal

pub refusal-requires : goal.refusal-requires
refusal-requires c =
    let session = c.args.session.now in
    let (all, are, current) = c.verdicts.ensures.current in
    verdicts_sorted session.present all c.verdicts.result.now c.requires.present
    (verdicts_by_name session.present all session.last c.verdicts.result.now current c.verdicts.ensures.answer)

pub returns-in-Some : goal.returns-in-Some
returns-in-Some c =
    let session = c.args.session.now in
    let (all, are, current) = c.verdicts.ensures.current in
    let named = verdicts_by_name session.present all session.last c.verdicts.result.now current c.verdicts.ensures.answer in
    IfOk-weaker c.refused.result _ _ (λ why it. (all, are, it all current are (c.in-Some.ensures session.present all named))) c.refused.ensures

pub returns-in-None : goal.returns-in-None
returns-in-None c =
    let session = c.args.session.now in
    let name = c.args.name.now in
    let text = c.in-Ok.text.now in
    let (all, are, current) = c.verdicts.ensures.current in
    let named = verdicts_by_name session.present all session.last c.verdicts.result.now current c.verdicts.ensures.answer in (
      all,
      are,
      accepted_told session.devices session.present all name text c.in-Ok.ensures
          (λ code at is. c.in-None.ensures session.present all named text code at c.in-Ok.ensures is),
    )

pub returns-in-Err : goal.returns-in-Err
returns-in-Err c =
    let session = c.args.session.now in
    let (all, are) = present_verdicts_exist session.devices session.present c.requires.differ c.requires.present in
    (all, are, no_such_module c.in-Err.ensures)
