use Rattle.std.proofs.Common.{subst}
use Rattle.std.specs.String.{string_bytes}
use Rattle.cc_core.specs.TermViews.{term_of, context_of}
use Rattle.cc_derivation.specs.DerivationViews.{der_of}
use Rattle.cc_io.specs.Pieces.{Streams}
use Rattle.cc_certificate_writing.specs.Certificates.{lines_behind, certificate_lines}
use Rattle.cc_certificate_writing.proofs.certificates.write_cert.Goals as goal

pub returns-in-Ok-clause-streams : goal.returns-in-Ok-clause-streams
returns-in-Ok-clause-streams g c =
    subst (λ ns. Streams (g.K.Sink.written c.args.sink.now) (g.K.Sink.written c.write_lines.new.sink) (string_bytes c.args.waiting.now)
    (string_bytes c.write_lines.new.waiting) c.write_lines.result
    (lines_behind c.args.front.now (certificate_lines ns (context_of c.args.ctx.now) (term_of c.args.term.now) (der_of c.args.der.now))))
    c.in-Ok.ensures.names c.write_lines.ensures.streams
