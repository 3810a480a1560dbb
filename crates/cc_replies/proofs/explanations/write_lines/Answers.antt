use Rattle.std.proofs.Common.{◌++◌, map, refl, sym, subst, ◌∙◌}
use Rattle.std.proofs.lemmas.List.Folds.{flat_map-map}
use Rattle.std.proofs.lemmas.Result.{err_from_is_err_and}
use Rattle.std.specs.String.{string_bytes}
use Rattle.cc_io.specs.Pieces.{IsPassedOn}
use Rattle.cc_io.specs.Wholes.{AppendsFront}
use Rattle.cc_io.proofs.PassedPieces.{passed_nothing, passed_more, passed_whole, stopped_at}
use Rattle.cc_replies.specs.Explanations.{names_of, explanation_named}
use Rattle.cc_replies.specs.ReplyTexts.{explanation_line}
use Rattle.cc_replies.proofs.explanations.write_lines.Goals as goal

pub loop-it-init : goal.loop-it-init
loop-it-init g c = record {
  passed = passed_nothing (g.K.Sink.written c.args.sink.now) (string_bytes c.args.waiting.now);
  no_fault = refl;
}

pub returns-in_err-write_line-clause-streams : goal.returns-in_err-write_line-clause-streams
returns-in_err-write_line-clause-streams g c =
    let error = err_from_is_err_and c.from_residual.result c.from_residual.ensures.1 in
    let loop = c.loop-it in
    let named = explanation_named (map names_of c.args.definitions.now) in
    let line = explanation_line c.args.names.now.names.items in
    rw error.1
    (subst (λ t. AppendsFront (g.K.Sink.written c.args.sink.now) (g.K.Sink.written c.write_line.new.sink) (string_bytes c.args.waiting.now ++ t))
    (sym (flat_map-map line named c.args.found.now))
    (stopped_at (λ it. line (named it)) c.args.found.now loop.it-index c.it-item.result c.loop-it-test.true c.it-item.is
    (g.K.Sink.written c.args.sink.now) (g.K.Sink.written loop.sink) (g.K.Sink.written c.write_line.new.sink) (string_bytes c.args.waiting.now)
    (string_bytes loop.waiting) (string_bytes c.write_line.new.waiting) loop.invariant.passed c.in_err-write_line.ensures.streams))

pub loop-it-preserved : goal.loop-it-preserved
loop-it-preserved g c =
    let loop = c.loop-it in
    let named = explanation_named (map names_of c.args.definitions.now) in
    let line = explanation_line c.args.names.now.names.items in
    record {
      passed = passed_more (λ it. line (named it)) c.args.found.now loop.it-index c.it-item.result c.loop-it-test.true c.it-item.is
          (g.K.Sink.written c.args.sink.now) (g.K.Sink.written loop.sink) (g.K.Sink.written c.write_line.new.sink) (string_bytes c.args.waiting.now)
          (string_bytes loop.waiting) (string_bytes c.write_line.new.waiting) loop.invariant.passed c.in_ok-write_line.ensures.streams;
      no_fault = c.in_ok-write_line.ensures.cause ∙ loop.invariant.no_fault;
    }

pub returns-clause-streams : goal.returns-clause-streams
returns-clause-streams g c =
    let loop = c.loop-it in
    let named = explanation_named (map names_of c.args.definitions.now) in
    let line = explanation_line c.args.names.now.names.items in
    subst (IsPassedOn (g.K.Sink.written c.args.sink.now) (g.K.Sink.written loop.sink) (string_bytes c.args.waiting.now) (string_bytes loop.waiting))
    (sym (flat_map-map line named c.args.found.now))
    (passed_whole (λ it. line (named it)) c.args.found.now loop.it-index c.loop-it-test.false (g.K.Sink.written c.args.sink.now)
    (g.K.Sink.written loop.sink) (string_bytes c.args.waiting.now) (string_bytes loop.waiting) loop.invariant.passed)
