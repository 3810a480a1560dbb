use Rattle.std.proofs.Common.{◌≡◌, take, map, flat_map}
use Rattle.std.specs.String.{string_bytes}
use Rattle.cc_io.specs.Pieces.{IsPassedOn}
use Rattle.cc_replies.specs.Explanations.{names_of, explanation_named}
use Rattle.cc_replies.specs.ReplyTexts.{explanation_line}
use Rattle.cc_replies.proofs.explanations.write_lines.Given as goal

-- the lines of the elements up to here are appended or wait, and no write failed
abbrev pub invariant-loop-it : goal.invariant-loop-it
invariant-loop-it g l = record {
  passed : IsPassedOn (g.K.Sink.written l.initial.sink) (g.K.Sink.written l.sink) (string_bytes l.initial.waiting) (string_bytes l.waiting)
      (flat_map (λ it. explanation_line l.names.names.items (explanation_named (map names_of l.definitions) it)) (take l.it-index l.found));
  no_fault : g.K.Sink.faults l.sink ≡ g.K.Sink.faults l.initial.sink;
}
