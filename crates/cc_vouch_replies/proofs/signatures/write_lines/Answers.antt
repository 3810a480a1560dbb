use Rattle.std.proofs.Common.{◌++◌, refl, sym, subst, ◌∙◌}
use Rattle.std.proofs.lemmas.List.Folds.{flat_map-map}
use Rattle.std.proofs.lemmas.Result.{err_from_is_err_and}
use Rattle.std.specs.String.{string_bytes}
use Rattle.cc_io.specs.Pieces.{IsPassedOn}
use Rattle.cc_io.specs.Wholes.{AppendsFront}
use Rattle.cc_io.proofs.PassedPieces.{passed_nothing, passed_more, passed_whole, stopped_at}
use Rattle.cc_vouching.specs.VouchingReplies.{signature_line}
use Rattle.cc_vouch.specs.VouchViews.{definition_of}
use Rattle.cc_vouch_replies.proofs.signatures.write_lines.Goals as goal

pub loop-def-init : goal.loop-def-init
loop-def-init g c = record {
  passed = passed_nothing (g.K.Sink.written c.args.sink.now) (string_bytes c.args.waiting.now);
  no_fault = refl;
}

pub returns-in_err-write_signature-clause-streams : goal.returns-in_err-write_signature-clause-streams
returns-in_err-write_signature-clause-streams g c =
    let error = err_from_is_err_and c.from_residual.result c.from_residual.ensures.1 in
    let loop = c.loop-def in
    let line = signature_line c.args.names.now.names.items in
    rw error.1
    (subst (λ t. AppendsFront (g.K.Sink.written c.args.sink.now) (g.K.Sink.written c.write_signature.new.sink) (string_bytes c.args.waiting.now ++ t))
    (sym (flat_map-map line definition_of c.args.defs.now))
    (stopped_at (λ one. line (definition_of one)) c.args.defs.now loop.def-index c.def-item.result c.loop-def-test.true c.def-item.is
    (g.K.Sink.written c.args.sink.now) (g.K.Sink.written loop.sink) (g.K.Sink.written c.write_signature.new.sink) (string_bytes c.args.waiting.now)
    (string_bytes loop.waiting) (string_bytes c.write_signature.new.waiting) loop.invariant.passed c.in_err-write_signature.ensures.streams))

pub loop-def-preserved : goal.loop-def-preserved
loop-def-preserved g c =
    let loop = c.loop-def in
    let line = signature_line c.args.names.now.names.items in
    record {
      passed = passed_more (λ one. line (definition_of one)) c.args.defs.now loop.def-index c.def-item.result c.loop-def-test.true c.def-item.is
          (g.K.Sink.written c.args.sink.now) (g.K.Sink.written loop.sink) (g.K.Sink.written c.write_signature.new.sink) (string_bytes c.args.waiting.now)
          (string_bytes loop.waiting) (string_bytes c.write_signature.new.waiting) loop.invariant.passed c.in_ok-write_signature.ensures.streams;
      no_fault = c.in_ok-write_signature.ensures.cause ∙ loop.invariant.no_fault;
    }

pub returns-clause-streams : goal.returns-clause-streams
returns-clause-streams g c =
    let loop = c.loop-def in
    let line = signature_line c.args.names.now.names.items in
    subst (IsPassedOn (g.K.Sink.written c.args.sink.now) (g.K.Sink.written loop.sink) (string_bytes c.args.waiting.now) (string_bytes loop.waiting))
    (sym (flat_map-map line definition_of c.args.defs.now))
    (passed_whole (λ one. line (definition_of one)) c.args.defs.now loop.def-index c.loop-def-test.false (g.K.Sink.written c.args.sink.now)
    (g.K.Sink.written loop.sink) (string_bytes c.args.waiting.now) (string_bytes loop.waiting) loop.invariant.passed)
