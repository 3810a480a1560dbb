use Rattle.cc_why.proofs.FoundAnswers.{nothing_told}
use Rattle.cc_why.proofs.telling.tell_checked.Goals as goal

pub returns-in-Err-clause-tells : goal.returns-in-Err-clause-tells
returns-in-Err-clause-tells g c =
    let session = c.args.session.now in
    nothing_told session.devices session.present c.args.name.now c.requires.differ c.requires.present (g.K.Sink.written c.args.sink.now)
