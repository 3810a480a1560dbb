use Rattle.std.proofs.Common.{◌∙◌, flat_map}
use Rattle.std.proofs.lemmas.Result.{err_from_is_err_and}
use Rattle.std.specs.String.{string_bytes}
use Rattle.cc_core.specs.TermViews.{type_of}
use Rattle.cc_io.proofs.PassedTurns.{turn_found_no_memory, turn_passed, turn_stopped}
use Rattle.cc_print.specs.PiecesLeft.{piece_text}
use Rattle.cc_print.specs.TypeTexts.{type_text}
use Rattle.cc_labels.specs.LabelTexts.{labels_in}
use Rattle.cc_labels.specs.LabelledPieces.{in_turn}
use Rattle.cc_labels.proofs.LabelledTurns.{turn_taken}
use Rattle.cc_labels.proofs.pieces.write_type.Goals as goal

pub returns-in-Err-take_turn-clause-streams : goal.returns-in-Err-take_turn-clause-streams
returns-in-Err-take_turn-clause-streams g c =
    turn_found_no_memory _ (g.K.Sink.written c.args.sink.now) (g.K.Sink.written c.loop-next.sink) (string_bytes c.args.waiting.now) _
    c.loop-next.invariant.passed

pub returns-in_err-spill-clause-streams : goal.returns-in_err-spill-clause-streams
returns-in_err-spill-clause-streams g c =
    let error = err_from_is_err_and c.from_residual.result c.from_residual.ensures.1 in
    let loop = c.loop-next in
    let labels = c.args.labels.now in
    let new = c.take_turn.new in
    rw error.1
    (turn_stopped (type_text (labels_in labels) labels.locals (type_of c.args.ty.now)) (g.K.Sink.written c.args.sink.now) (g.K.Sink.written loop.sink)
    (string_bytes c.args.waiting.now) _ loop.invariant.passed (string_bytes new.out)
    (flat_map (piece_text (labels_in labels)) (in_turn new.left.items))
    (turn_taken (labels_in labels) (string_bytes loop.waiting) (string_bytes new.out) loop.left.items c.pop.new.self.items new.left.items
    c.in-Some.next c.in-Some.ensures.items c.in-Ok-take_turn.ensures)
    (g.K.Sink.written c.spill.new.sink) c.in_err-spill.ensures.streams)

pub loop-next-preserved : goal.loop-next-preserved
loop-next-preserved g c =
    let loop = c.loop-next in
    let labels = c.args.labels.now in
    let new = c.take_turn.new in
    record {
      passed = turn_passed (type_text (labels_in labels) labels.locals (type_of c.args.ty.now)) (g.K.Sink.written c.args.sink.now) (g.K.Sink.written loop.sink)
          (string_bytes c.args.waiting.now) _ loop.invariant.passed (string_bytes new.out)
          (flat_map (piece_text (labels_in labels)) (in_turn new.left.items))
          (turn_taken (labels_in labels) (string_bytes loop.waiting) (string_bytes new.out) loop.left.items c.pop.new.self.items new.left.items
          c.in-Some.next c.in-Some.ensures.items c.in-Ok-take_turn.ensures)
          (g.K.Sink.written c.spill.new.sink) (string_bytes c.spill.new.waiting) c.in_ok-spill.ensures.streams;
      no_fault = c.in_ok-spill.ensures.cause ∙ loop.invariant.no_fault;
    }
