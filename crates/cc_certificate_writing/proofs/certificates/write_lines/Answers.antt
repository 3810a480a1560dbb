use Rattle.std.proofs.Common.{◌++◌, codes, subst}
use Rattle.std.proofs.lemmas.Result.{err_from_is_err_and}
use Rattle.std.specs.String.{string_bytes}
use Rattle.cc_core.specs.TermViews.{term_of, context_of}
use Rattle.cc_derivation.specs.DerivationViews.{der_of}
use Rattle.cc_io.specs.Pieces.{Streams}
use Rattle.cc_print.specs.TermTexts.{term_text}
use Rattle.cc_certificate_writing.specs.Certificates.{line, lines_behind, bind_lines, node_lines, certificate_lines}
use Rattle.cc_certificate_writing.proofs.StreamedCertificates.{certificate_in_four, stopped_in_first, stopped_in_second, stopped_in_third, streams_four}
use Rattle.cc_certificate_writing.proofs.certificates.write_lines.Goals as goal

pub returns-in_err-write_form-clause-streams : goal.returns-in_err-write_form-clause-streams
returns-in_err-write_form-clause-streams g c =
    let error = err_from_is_err_and c.from_residual.result c.from_residual.ensures.1 in
    let names = c.args.names.now.names.items in
    let context = context_of c.args.ctx.now in
    rw error.1
    (stopped_in_first (line (c.args.front.now ++ codes "cert 1")) (lines_behind c.args.front.now (bind_lines names context))
    (line (c.args.front.now ++ (codes "term " ++ term_text names 0 (term_of c.args.term.now))))
    (lines_behind c.args.front.now (node_lines names 0 0 (der_of c.args.der.now)))
    (lines_behind c.args.front.now (certificate_lines names context (term_of c.args.term.now) (der_of c.args.der.now)))
    (certificate_in_four c.args.front.now names context (term_of c.args.term.now) (der_of c.args.der.now))
    (g.K.Sink.written c.args.sink.now) (string_bytes c.args.waiting.now) (g.K.Sink.written c.write_form.new.sink) c.in_err-write_form.ensures.streams)

pub returns-in_err-write_binds-clause-streams : goal.returns-in_err-write_binds-clause-streams
returns-in_err-write_binds-clause-streams g c =
    let error = err_from_is_err_and c.from_residual-in_err-write_binds.result c.from_residual-in_err-write_binds.ensures.1 in
    let names = c.args.names.now.names.items in
    let context = context_of c.args.ctx.now in
    rw error.1
    (stopped_in_second (line (c.args.front.now ++ codes "cert 1")) (lines_behind c.args.front.now (bind_lines names context))
    (line (c.args.front.now ++ (codes "term " ++ term_text names 0 (term_of c.args.term.now))))
    (lines_behind c.args.front.now (node_lines names 0 0 (der_of c.args.der.now)))
    (lines_behind c.args.front.now (certificate_lines names context (term_of c.args.term.now) (der_of c.args.der.now)))
    (certificate_in_four c.args.front.now names context (term_of c.args.term.now) (der_of c.args.der.now))
    (g.K.Sink.written c.args.sink.now) (string_bytes c.args.waiting.now) (g.K.Sink.written c.write_form.new.sink) (string_bytes c.write_form.new.waiting)
    c.in_ok-write_form.ensures.streams (g.K.Sink.written c.write_binds.new.sink) c.in_err-write_binds.ensures.streams)

pub returns-in_err-write_term_line-clause-streams : goal.returns-in_err-write_term_line-clause-streams
returns-in_err-write_term_line-clause-streams g c =
    let error = err_from_is_err_and c.from_residual-in_err-write_term_line.result c.from_residual-in_err-write_term_line.ensures.1 in
    let names = c.args.names.now.names.items in
    let context = context_of c.args.ctx.now in
    rw error.1
    (stopped_in_third (line (c.args.front.now ++ codes "cert 1")) (lines_behind c.args.front.now (bind_lines names context))
    (line (c.args.front.now ++ (codes "term " ++ term_text names 0 (term_of c.args.term.now))))
    (lines_behind c.args.front.now (node_lines names 0 0 (der_of c.args.der.now)))
    (lines_behind c.args.front.now (certificate_lines names context (term_of c.args.term.now) (der_of c.args.der.now)))
    (certificate_in_four c.args.front.now names context (term_of c.args.term.now) (der_of c.args.der.now))
    (g.K.Sink.written c.args.sink.now) (string_bytes c.args.waiting.now) (g.K.Sink.written c.write_form.new.sink) (string_bytes c.write_form.new.waiting)
    c.in_ok-write_form.ensures.streams (g.K.Sink.written c.write_binds.new.sink) (string_bytes c.write_binds.new.waiting)
    c.in_ok-write_binds.ensures.streams (g.K.Sink.written c.write_term_line.new.sink) c.in_err-write_term_line.ensures.streams)

pub returns-clause-streams : goal.returns-clause-streams
returns-clause-streams g c =
    let names = c.args.names.now.names.items in
    let context = context_of c.args.ctx.now in
    streams_four (line (c.args.front.now ++ codes "cert 1")) (lines_behind c.args.front.now (bind_lines names context))
    (line (c.args.front.now ++ (codes "term " ++ term_text names 0 (term_of c.args.term.now))))
    (lines_behind c.args.front.now (node_lines names 0 0 (der_of c.args.der.now)))
    (lines_behind c.args.front.now (certificate_lines names context (term_of c.args.term.now) (der_of c.args.der.now)))
    (certificate_in_four c.args.front.now names context (term_of c.args.term.now) (der_of c.args.der.now))
    (g.K.Sink.written c.args.sink.now) (string_bytes c.args.waiting.now) (g.K.Sink.written c.write_form.new.sink) (string_bytes c.write_form.new.waiting)
    c.in_ok-write_form.ensures.streams (g.K.Sink.written c.write_binds.new.sink) (string_bytes c.write_binds.new.waiting)
    c.in_ok-write_binds.ensures.streams (g.K.Sink.written c.write_term_line.new.sink) (g.K.Sink.written c.write_nodes.new.sink)
    (string_bytes c.write_term_line.new.waiting) (string_bytes c.write_nodes.new.waiting) c.write_nodes.result c.in_ok-write_term_line.ensures.streams
    (subst (λ ns. Streams (g.K.Sink.written c.write_term_line.new.sink) (g.K.Sink.written c.write_nodes.new.sink)
    (string_bytes c.write_term_line.new.waiting) (string_bytes c.write_nodes.new.waiting) c.write_nodes.result
    (lines_behind c.args.front.now (node_lines ns 0 0 (der_of c.args.der.now)))) c.in_ok-write_term_line.ensures.names c.write_nodes.ensures.streams)
