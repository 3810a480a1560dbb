use Rattle.std.proofs.Common.{Option, Some, None, subst}
use Rattle.cc_why.proofs.FoundAnswers.{refused_told, some_reason}
use Rattle.cc_why.proofs.reasons.refused.Goals as goal
use Rattle.cc_why.specs.ToldReasons.{TellsReason}
use Rattle.cc_why.specs.declared.why.ReasonLines.{ReasonLines}

pub returns-in-Some : goal.returns-in-Some
returns-in-Some c = λ all current are is.
    let session = c.args.session.now in
    let name = c.args.name.now in
    let text = c.args.text.now in
    refused_told session.devices session.present all name text c.requires.text are c.args.diag is c.in-Some.lines
    (subst (λ (told : Option ReasonLines). TellsReason session.devices session.present all name text told) c.in-Some.is (c.in_ok-lines.ensures all current))

pub returns-in-None : goal.returns-in-None
returns-in-None c = λ all current are is.
    let session = c.args.session.now in
    let name = c.args.name.now in
    let text = c.args.text.now in
    absurd
    (some_reason session.devices session.present all name text c.requires.text are c.args.diag is
    (subst (λ (told : Option ReasonLines). TellsReason session.devices session.present all name text told) c.in-None.is (c.in_ok-lines.ensures all current)))
