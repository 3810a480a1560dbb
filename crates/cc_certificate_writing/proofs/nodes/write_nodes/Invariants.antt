use Rattle.std.proofs.Common.{◌≡◌}
use Rattle.std.specs.String.{string_bytes}
use Rattle.cc_derivation.specs.DerivationViews.{der_of}
use Rattle.cc_io.specs.Pieces.{IsPassedOn}
use Rattle.cc_certificate_writing.specs.Certificates.{lines_behind, node_lines}
use Rattle.cc_certificate_writing.specs.WaitingLines.{in_turn, turns_left, written}
use Rattle.cc_certificate_writing.proofs.nodes.write_nodes.Given as goal

-- what is appended, and what is written in the end behind it, are the lines of the derivation; no write failed
abbrev pub invariant-loop-next : goal.invariant-loop-next
invariant-loop-next g l =
    record {
      passed :
          IsPassedOn (g.K.Sink.written l.initial.sink) (g.K.Sink.written l.sink) (string_bytes l.initial.waiting)
          (written l.front l.fn.names.names.items
          (record {
            text = string_bytes l.waiting;
            number = l.number;
            numbers = l.numbers.items;
            waiting = in_turn l.turns.items;
          }))
          (lines_behind l.front (node_lines l.fn.names.names.items 0 0 (der_of l.der)));
      names : l.names.names.items ≡ l.fn.names.names.items;
      no_fault : g.K.Sink.faults l.sink ≡ g.K.Sink.faults l.initial.sink;
    }

abbrev pub decreases-loop-next : goal.decreases-loop-next
decreases-loop-next g l = turns_left (in_turn l.turns.items)
