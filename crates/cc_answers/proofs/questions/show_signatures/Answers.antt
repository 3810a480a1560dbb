use Rattle.std.proofs.Common.{◌≡◌, List, map, sym, ap, ◌∙◌, subst, Ok, Err}
use Rattle.cc_io.specs.Wholes.{WritesWhole}
use Rattle.cc_mnf.specs.ElaboratedModules.{device_names}
use Rattle.cc_module.specs.Judgements.{checked_definition_of}
use Rattle.cc_replies.specs.Requests.{ShowSignature, Ask, holding_under}
use Rattle.cc_replies.specs.ReplyTexts.{Signatures, SignaturesRefused, reply_text}
use Rattle.cc_answers.proofs.CommandFacts.{replied}
use Rattle.cc_answers.proofs.SessionReplies.{signature_is}
use Rattle.cc_answers.proofs.questions.show_signatures.Goals as goal

pub returns-in-Ok-clause-replied : goal.returns-in-Ok-clause-replied
returns-in-Ok-clause-replied g c = λ rules.
    let session = c.args.session.now in
    let current = c.sig.ensures.current in
    let definitions = map checked_definition_of c.in-Ok.defs.now in
    let is = signature_is session.present current.0 session.last c.args.name.now (Ok definitions) current.2 c.in-Ok.ensures.answer in
    replied session.devices (holding_under rules session.present) (Ask (ShowSignature c.args.name.now)) (Signatures c.args.name.now definitions) (current.0, current.1, is)
    (g.K.Sink.written c.args.sink.now) (g.K.Sink.written c.write_signatures.new.sink) c.told.result
    (c.told.ensures.written (g.K.Sink.written c.args.sink.now) (g.K.Sink.written c.write_signatures.new.sink) _
    (subst (λ ns. WritesWhole (g.K.Sink.written c.args.sink.now) (g.K.Sink.written c.write_signatures.new.sink) c.write_signatures.result (reply_text ns (Signatures c.args.name.now definitions))) c.requires.names.0
    c.write_signatures.ensures.written))
    c.told.ensures.refused

pub returns-in-Ok-clause-cause : goal.returns-in-Ok-clause-cause
returns-in-Ok-clause-cause g c =
    c.told.ensures.cause (g.K.Sink.faults c.args.sink.now) (g.K.Sink.faults c.write_signatures.new.sink) c.write_signatures.ensures.cause

pub returns-in-Err-clause-replied : goal.returns-in-Err-clause-replied
returns-in-Err-clause-replied g c = λ rules.
    let session = c.args.session.now in
    let current = c.sig.ensures.current in
    let is = signature_is session.present current.0 session.last c.args.name.now (Err c.in-Err.refused.code) current.2 c.in-Err.ensures.answer in
    replied session.devices (holding_under rules session.present) (Ask (ShowSignature c.args.name.now)) (SignaturesRefused c.args.name.now c.in-Err.refused.code) (current.0, current.1, is)
    (g.K.Sink.written c.args.sink.now) (g.K.Sink.written c.write_reply.new.sink) c.write_reply.result
    (c.write_reply.ensures.written (reply_text (device_names session.devices) (SignaturesRefused c.args.name.now c.in-Err.refused.code)) c.sig_refusal.ensures)
    c.write_reply.ensures.refused
