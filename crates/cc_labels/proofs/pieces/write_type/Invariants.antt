use Rattle.std.proofs.Common.{◌≡◌, ◌++◌, flat_map}
use Rattle.std.specs.String.{string_bytes}
use Rattle.cc_core.specs.TermViews.{type_of}
use Rattle.cc_io.specs.Pieces.{IsPassedOn}
use Rattle.cc_print.specs.PiecesLeft.{piece_text, turns_left}
use Rattle.cc_print.specs.TypeTexts.{type_text}
use Rattle.cc_labels.specs.LabelTexts.{labels_in}
use Rattle.cc_labels.specs.LabelledPieces.{in_turn}
use Rattle.cc_labels.proofs.pieces.write_type.Given as goal

-- what is appended, and what waits and is left behind it, are the text of the type; no write failed
abbrev pub invariant-loop-next : goal.invariant-loop-next
invariant-loop-next g l =
    record {
      passed :
          IsPassedOn (g.K.Sink.written l.initial.sink) (g.K.Sink.written l.sink) (string_bytes l.initial.waiting)
          (string_bytes l.waiting ++ flat_map (piece_text (labels_in l.labels)) (in_turn l.left.items))
          (type_text (labels_in l.labels) l.labels.locals (type_of l.ty));
      no_fault : g.K.Sink.faults l.sink ≡ g.K.Sink.faults l.initial.sink;
    }

abbrev pub decreases-loop-next : goal.decreases-loop-next
decreases-loop-next g l = turns_left (in_turn l.left.items)
