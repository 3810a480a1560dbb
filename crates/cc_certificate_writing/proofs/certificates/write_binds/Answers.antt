use Rattle.std.proofs.Common.{◌≡◌, length, refl, ◌∙◌, arith}
use Rattle.std.proofs.lemmas.Result.{err_from_is_err_and}
use Rattle.std.specs.String.{string_bytes}
use Rattle.cc_core.specs.TermViews.{bind_of, context_of}
use Rattle.cc_core.proofs.Lookups.{length_map}
use Rattle.cc_io.proofs.PassedPieces.{passed_nothing}
use Rattle.cc_certificate_writing.proofs.StreamedCertificates.{binds_more, binds_stopped, binds_whole}
use Rattle.cc_certificate_writing.proofs.certificates.write_binds.Goals as goal

pub loop-position-init : goal.loop-position-init
loop-position-init g c = record {
  passed = passed_nothing (g.K.Sink.written c.args.sink.now) (string_bytes c.args.waiting.now);
  no_fault = refl;
}

pub returns-in_err-write_bind_at-clause-streams : goal.returns-in_err-write_bind_at-clause-streams
returns-in_err-write_bind_at-clause-streams g c =
    let size : length (context_of c.args.ctx.now) ≡ length c.args.ctx.now = length_map bind_of c.args.ctx.now in
    let error = err_from_is_err_and c.from_residual.result c.from_residual.ensures.1 in
    let loop = c.loop-position in
    rw error.1
    (binds_stopped c.args.front.now c.args.names.now.names.items (context_of c.args.ctx.now) loop.position (omega arith)
    (g.K.Sink.written c.args.sink.now) (g.K.Sink.written loop.sink) (g.K.Sink.written c.write_bind_at.new.sink) (string_bytes c.args.waiting.now)
    (string_bytes loop.waiting) loop.invariant.passed c.in_err-write_bind_at.ensures.streams)

pub loop-position-preserved : goal.loop-position-preserved
loop-position-preserved g c =
    let size : length (context_of c.args.ctx.now) ≡ length c.args.ctx.now = length_map bind_of c.args.ctx.now in
    let loop = c.loop-position in
    record {
      passed = binds_more c.args.front.now c.args.names.now.names.items (context_of c.args.ctx.now) loop.position (omega arith)
          (g.K.Sink.written c.args.sink.now) (g.K.Sink.written loop.sink) (g.K.Sink.written c.write_bind_at.new.sink) (string_bytes c.args.waiting.now)
          (string_bytes loop.waiting) loop.invariant.passed (string_bytes c.write_bind_at.new.waiting) c.in_ok-write_bind_at.ensures.streams;
      no_fault = c.in_ok-write_bind_at.ensures.cause ∙ loop.invariant.no_fault;
    }

pub returns-clause-streams : goal.returns-clause-streams
returns-clause-streams g c =
    let size : length (context_of c.args.ctx.now) ≡ length c.args.ctx.now = length_map bind_of c.args.ctx.now in
    let loop = c.loop-position in
    binds_whole c.args.front.now c.args.names.now.names.items (context_of c.args.ctx.now) loop.position (omega arith)
    (g.K.Sink.written c.args.sink.now) (g.K.Sink.written loop.sink) (string_bytes c.args.waiting.now) (string_bytes loop.waiting) loop.invariant.passed
