use Rattle.std.proofs.Common.{◌≡◌, ◌++◌}
use Rattle.std.specs.String.{string_bytes}
use Rattle.cc_derivation.specs.DerivationViews.{der_of}
use Rattle.cc_certificate_writing.specs.Certificates.{lines_behind, node_lines}
use Rattle.cc_certificate_writing.specs.WaitingLines.{in_turn, turns_left, written}
use Rattle.cc_certificate_writing.proofs.nodes.put_nodes.Given as goal

-- what is written in the end is the lines of the derivation
abbrev pub invariant-loop-next : goal.invariant-loop-next
invariant-loop-next l =
    record {
      text :
          written l.front l.fn.names.names.items
          (record {
            text = string_bytes l.out;
            number = l.number;
            numbers = l.numbers.items;
            waiting = in_turn l.waiting.items;
          })
          ≡ string_bytes l.fn.out
          ++ lines_behind l.front (node_lines l.fn.names.names.items 0 0 (der_of l.der));
      names : l.names.names.items ≡ l.fn.names.names.items;
    }

abbrev pub decreases-loop-next : goal.decreases-loop-next
decreases-loop-next l = turns_left (in_turn l.waiting.items)
