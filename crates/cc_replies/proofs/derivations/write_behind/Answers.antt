use Rattle.std.proofs.Common.{◌++◌, codes, ap, ◌∙◌, subst}
use Rattle.std.proofs.lemmas.Result.{err_from_is_err_and}
use Rattle.std.specs.String.{string_bytes}
use Rattle.cc_certificate_writing.specs.Certificates.{lines_behind, certificate_lines}
use Rattle.cc_core.specs.TermViews.{context_of, term_of}
use Rattle.cc_derivation.specs.DerivationViews.{der_of}
use Rattle.cc_io.specs.Pieces.{IsPassedOn}
use Rattle.cc_io.specs.Wholes.{AppendsFront, WritesWhole}
use Rattle.cc_io.proofs.PassedPieces.{whole_written, front_written}
use Rattle.cc_replies.proofs.derivations.write_behind.Goals as goal

pub returns-in_err-write_cert-clause-written : goal.returns-in_err-write_cert-clause-written
returns-in_err-write_cert-clause-written g c =
    let error = err_from_is_err_and c.from_residual.result c.from_residual.ensures.1 in
    let names = c.args.names.now.names.items in
    let context = context_of c.args.ctx.now in
    rw error.1
    (front_written (Unit {0}) (g.K.Sink.written c.args.sink.now) (g.K.Sink.written c.write_cert.new.sink) _ error.0
    (subst (λ t. AppendsFront (g.K.Sink.written c.args.sink.now) (g.K.Sink.written c.write_cert.new.sink) (string_bytes c.args.waiting.now ++ t))
    (λ i. lines_behind (codes "  ") (certificate_lines names context (term_of (c.deref.ensures i)) ((ap der_of c.deref-2.ensures ∙ c.in-Ok.ensures.is) i)))
    c.in_err-write_cert.ensures.streams))

pub returns-clause-written : goal.returns-clause-written
returns-clause-written g c =
    let names = c.args.names.now.names.items in
    let context = context_of c.args.ctx.now in
    whole_written (g.K.Sink.written c.args.sink.now) (g.K.Sink.written c.write_cert.new.sink) (g.K.Sink.written c.write_all.new.sink)
    (string_bytes c.args.waiting.now) (string_bytes c.write_cert.new.waiting) _ c.write_all.result
    (subst (IsPassedOn (g.K.Sink.written c.args.sink.now) (g.K.Sink.written c.write_cert.new.sink) (string_bytes c.args.waiting.now)
    (string_bytes c.write_cert.new.waiting))
    (λ i. lines_behind (codes "  ") (certificate_lines names context (term_of (c.deref.ensures i)) ((ap der_of c.deref-2.ensures ∙ c.in-Ok.ensures.is) i)))
    c.in_ok-write_cert.ensures.streams)
    (subst (WritesWhole (g.K.Sink.written c.write_cert.new.sink) (g.K.Sink.written c.write_all.new.sink) c.write_all.result) c.as_bytes.ensures.value
    c.write_all.ensures.written)
