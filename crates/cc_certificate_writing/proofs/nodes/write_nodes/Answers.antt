use Rattle.std.proofs.Common.{◌∙◌}
use Rattle.std.proofs.lemmas.Result.{err_from_is_err_and}
use Rattle.std.specs.String.{string_bytes}
use Rattle.cc_derivation.specs.DerivationViews.{der_of}
use Rattle.cc_certificate_writing.specs.Certificates.{lines_behind, node_lines}
use Rattle.cc_certificate_writing.specs.WaitingLines.{in_turn, waiting_lines, written}
use Rattle.cc_io.proofs.PassedTurns.{turn_found_no_memory, turn_passed, turn_stopped}
use Rattle.cc_certificate_writing.proofs.StreamedCertificates.{turn_taken}
use Rattle.cc_certificate_writing.proofs.nodes.write_nodes.Goals as goal

pub returns-in-Err-take_turn-clause-streams : goal.returns-in-Err-take_turn-clause-streams
returns-in-Err-take_turn-clause-streams g c =
    turn_found_no_memory _ (g.K.Sink.written c.args.sink.now) (g.K.Sink.written c.loop-next.sink) (string_bytes c.args.waiting.now) _
    c.loop-next.invariant.passed

pub returns-in_err-spill-clause-streams : goal.returns-in_err-spill-clause-streams
returns-in_err-spill-clause-streams g c =
    let error = err_from_is_err_and c.from_residual.result c.from_residual.ensures.1 in
    let loop = c.loop-next in
    let front = c.args.front.now in
    let names = c.args.names.now.names.items in
    let new = c.take_turn.new in
    rw error.1
    (turn_stopped (lines_behind front (node_lines names 0 0 (der_of c.args.der.now))) (g.K.Sink.written c.args.sink.now) (g.K.Sink.written loop.sink)
    (string_bytes c.args.waiting.now) _ loop.invariant.passed (string_bytes new.out)
    (lines_behind front (waiting_lines names c.in-Ok-take_turn.last new.numbers.items (in_turn new.waiting.items)))
    (turn_taken front loop.names.names.items names loop.invariant.names (string_bytes loop.waiting) loop.number loop.numbers.items loop.turns.items
    c.pop.new.self.items c.in-Some.next c.in-Some.ensures.items _ c.in-Ok-take_turn.ensures.turn)
    (g.K.Sink.written c.spill.new.sink) c.in_err-spill.ensures.streams)

pub loop-next-preserved : goal.loop-next-preserved
loop-next-preserved g c =
    let loop = c.loop-next in
    let front = c.args.front.now in
    let names = c.args.names.now.names.items in
    let new = c.take_turn.new in
    record {
      passed = turn_passed (lines_behind front (node_lines names 0 0 (der_of c.args.der.now))) (g.K.Sink.written c.args.sink.now) (g.K.Sink.written loop.sink)
          (string_bytes c.args.waiting.now) _ loop.invariant.passed (string_bytes new.out)
          (lines_behind front (waiting_lines names c.in-Ok-take_turn.last new.numbers.items (in_turn new.waiting.items)))
          (turn_taken front loop.names.names.items names loop.invariant.names (string_bytes loop.waiting) loop.number loop.numbers.items loop.turns.items
          c.pop.new.self.items c.in-Some.next c.in-Some.ensures.items _ c.in-Ok-take_turn.ensures.turn)
          (g.K.Sink.written c.spill.new.sink) (string_bytes c.spill.new.waiting) c.in_ok-spill.ensures.streams;
      names = c.in-Ok-take_turn.ensures.names ∙ loop.invariant.names;
      no_fault = c.in_ok-spill.ensures.cause ∙ loop.invariant.no_fault;
    }
