use Rattle.std.proofs.Common.{subst}
use Rattle.std.specs.String.{string_bytes}
use Rattle.cc_replies.specs.CertificateTexts.{TellsFound}
use Rattle.cc_answers.proofs.CommandFacts.{certificate_replied, certificate_not_replied}
use Rattle.cc_answers.proofs.commands.tell_certificate.Goals as goal

pub returns-in-Ok-clause-replied : goal.returns-in-Ok-clause-replied
returns-in-Ok-clause-replied g c = λ devices state.
    certificate_replied devices state c.args.text.now (string_bytes c.in-Ok.reply) c.in-Ok.refused
    (subst (λ bytes. TellsFound bytes (string_bytes c.in-Ok.reply) c.in-Ok.refused) c.as_bytes.ensures c.in-Ok.ensures)
    (g.K.Sink.written c.args.sink.now) (g.K.Sink.written c.write_reply.new.sink) c.write_reply.result c.write_reply.ensures.written
    c.write_reply.ensures.refused

pub returns-in-Err-clause-replied : goal.returns-in-Err-clause-replied
returns-in-Err-clause-replied g c = λ devices state.
    certificate_not_replied devices state c.args.text.now (g.K.Sink.written c.args.sink.now)
